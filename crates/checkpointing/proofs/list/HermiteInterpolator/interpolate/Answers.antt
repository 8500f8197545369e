use Rattle.std.proofs.Common.{length, is_some, unwrap_or, sym, ap, ◌∙◌, arith}
use Rattle.checkpointing.specs.Knots.{knot_at, asked}
use Rattle.checkpointing.specs.Held.{held}
use Rattle.checkpointing.proofs.LookUps.{answer_is, answer_other, fills_says}
use Rattle.checkpointing.proofs.list.HermiteInterpolator.interpolate.Goals as goal

pub returns-then-out-self : goal.returns-then-out-self
returns-then-out-self g c =
    let o = g.N.Scalar.kind.ops in
    let s = c.args.self.now in
    let old = c.args.out.now in
    let e = answer_other o (knot_at o s.dim s.rows.now) (g.N.Scalar.kind.value c.args.t) s.dim (length old) (held o s) c.if-out-self.true in
    record { found = ap is_some (sym e); out = ap (λ x. unwrap_or x old) (sym e) }

pub returns : goal.returns
returns g c =
    let o = g.N.Scalar.kind.ops in
    let s = c.args.self.now in
    let K = knot_at o s.dim s.rows.now in
    let old = c.args.out.now in
    let t = g.N.Scalar.kind.value c.args.t in
    let a = answer_is o K t s.dim (length old) s.count (asked o K s.count c.value.result) (omega arith) (ap (asked o K s.count) (sym c.value.ensures)) in
    let f = fills_says _ _ _ _ c.ask.ensures in
    record { found = f.0 ∙ ap is_some (sym a); out = f.1 ∙ ap (λ x. unwrap_or x old) (sym a) }
