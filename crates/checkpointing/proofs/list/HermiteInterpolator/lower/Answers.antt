use Rattle.std.proofs.Common.{◌≡◌, ◌-◌, min, true, false, sym, ap, ◌∙◌, arith, rules}
use Rattle.checkpointing.specs.Knots.{knot_at}
use Rattle.checkpointing.proofs.LookUps.{passed, stopped}
use Rattle.checkpointing.proofs.list.HermiteInterpolator.lower.Goals as goal

pub returns-then-not-before : goal.returns-then-not-before
returns-then-not-before g c =
    let o = g.N.Scalar.kind.ops in
    let s = c.args.self.now in
    let K = knot_at o s.dim s.rows.now in
    let b : o.before c.args.t (K (c.loop-k.k - 1)).t ≡ false = search rules in
    c.min.ensures ∙ ap (λ m. min m (s.count - 2)) (sym (stopped o K c.args.t c.loop-k.k (omega arith) b) ∙ c.loop-k.invariant.1)

pub loop-k-preserved : goal.loop-k-preserved
loop-k-preserved g c =
    let o = g.N.Scalar.kind.ops in
    let s = c.args.self.now in
    let K = knot_at o s.dim s.rows.now in
    let b : o.before c.args.t (K (c.loop-k.k - 1)).t ≡ true = search rules in
    (omega arith, sym (passed o K c.args.t c.loop-k.k (omega arith) b) ∙ c.loop-k.invariant.1)
