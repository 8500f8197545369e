use Rattle.std.proofs.Common.{ap, ◌∙◌, arith}
use Rattle.checkpointing.specs.Knots.{knot_at}
use Rattle.checkpointing.proofs.LookUps.{asked_first, asked_alone, asked_two, finds, finds_none}
use Rattle.checkpointing.proofs.list.HermiteInterpolator.ask.Goals as goal

pub returns-then-equals : goal.returns-then-equals
returns-then-equals g c =
    let o = g.N.Scalar.kind.ops in
    let s = c.args.self.now in
    let K = knot_at o s.dim s.rows.now in
    let e = asked_first o K c.args.t s.count (omega arith) c.if-outside.ensures (c.if-equals.ensures ∙ ap (o.equal c.args.t) c.time.ensures) in
    finds _ _ _ _ e (c.copy_from_slice.ensures.after ∙ c.knot.ensures.state)

pub returns-then-self-eq1 : goal.returns-then-self-eq1
returns-then-self-eq1 g c =
    let o = g.N.Scalar.kind.ops in
    let s = c.args.self.now in
    let K = knot_at o s.dim s.rows.now in
    finds_none _ _ (asked_alone o K c.args.t s.count (omega arith) c.if-outside.ensures (c.if-equals.ensures ∙ ap (o.equal c.args.t) c.time.ensures))

pub returns : goal.returns
returns g c =
    let o = g.N.Scalar.kind.ops in
    let s = c.args.self.now in
    let K = knot_at o s.dim s.rows.now in
    let e = asked_two o K c.args.t s.count c.lower-j.result (omega arith) c.lower-j.ensures c.if-outside.ensures (c.if-equals.ensures ∙ ap (o.equal c.args.t) c.time.ensures) in
    finds _ _ _ _ e (cc)
