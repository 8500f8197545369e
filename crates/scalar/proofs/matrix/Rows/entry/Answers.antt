use Rattle.std.proofs.Common.{rules}
use Rattle.scalar.proofs.Rows.{row_within}
use Rattle.scalar.proofs.matrix.Rows.entry.Goals as goal

pub offset_bounds-self-i : goal.offset_bounds-self-i
offset_bounds-self-i g c = let m = c.args.self.now in let h = row_within c.args.i m.rows m.columns c.requires.0 in search rules
