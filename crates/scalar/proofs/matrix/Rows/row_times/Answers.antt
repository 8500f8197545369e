use Rattle.std.proofs.Common.{◌∙◌, arith}
use Rattle.scalar.proofs.Rows.{row_within, row_dot}
use Rattle.scalar.proofs.matrix.Rows.row_times.Goals as goal

pub returns : goal.returns
returns g c =
    let m = c.args.self.now in
    let h = row_within c.args.i m.rows m.columns c.requires.1 in
    c.dot.ensures ∙ row_dot g.N.Scalar.kind.ops m.entries.now c.args.v.now m.columns c.args.i c.requires.0 (omega (arith, m.full))
