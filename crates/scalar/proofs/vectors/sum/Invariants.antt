use Rattle.std.proofs.Common.{◌≡◌}
use Rattle.scalar.specs.Vectors.{sum_to, at}
use Rattle.scalar.proofs.vectors.sum.Given as goal

abbrev pub invariant-loop-x : goal.invariant-loop-x
invariant-loop-x g l = let o = g.N.Scalar.kind.ops in l.sum ≡ sum_to o (at o l.xs) l.x-index
