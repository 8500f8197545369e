use Rattle.std.proofs.Common.{◌*◌, ◌≤◌, mul-le-mul, arith}
use Rattle.adjoint.proofs.work.matrix.Goals as goal

pub overflow_mul-rows : goal.overflow_mul-rows
overflow_mul-rows g c = let h : c.args.rows * c.args.columns ≤ 16 * 16 = mul-le-mul c.requires.0 c.requires.1 in omega arith
