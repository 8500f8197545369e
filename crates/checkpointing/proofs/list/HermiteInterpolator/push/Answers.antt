use Rattle.std.proofs.Common.{◌≡◌, ◌+◌, ◌-◌, ◌*◌, ◌∷◌, ◌++◌, ap, ◌∙◌, arith, length-append}
use Rattle.std.proofs.lemmas.Slice.{put_mid-paste}
use Rattle.checkpointing.specs.Knots.{knots}
use Rattle.checkpointing.proofs.Pushes.{knots_more}
use Rattle.checkpointing.proofs.list.HermiteInterpolator.push.Goals as goal

pub returns-clause-knots : goal.returns-clause-knots
returns-clause-knots g c =
    let o = g.N.Scalar.kind.ops in
    let s = c.args.self.now in
    let u = c.args.u.now in
    let f = c.args.f.now in
    let t = g.N.Scalar.kind.value c.args.t in
    let w = 1 + 2 * s.dim in
    let row : c.fill_row.new.row ≡ t ∷ (u ++ f) = c.fill_row.ensures ∙ ap (λ x. x ∷ (u ++ f)) c.value.ensures in
    ap (λ xs. knots o s.dim xs (s.count + 1)) (put_mid-paste (s.count * w) (s.count * w + w - s.count * w) s.rows.now c.fill_row.new.row (t ∷ (u ++ f)) w row (omega arith) (omega (arith, length-append u f)))
    ∙ knots_more o s.dim s.rows.now s.count t u f (omega arith) (omega arith) (omega arith)
