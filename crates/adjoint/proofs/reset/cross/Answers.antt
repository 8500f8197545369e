use Rattle.std.proofs.Common.{rules, ◌≡◌, ◌*◌, take, drop}
use Rattle.adjoint.specs.declared.lanes.Mode.TheVariants.{Become, Lose, Gain}
use Rattle.adjoint.specs.Lanes.{with_products}
use Rattle.adjoint.specs.Reset.{alphas}
use Rattle.adjoint.proofs.reset.cross.Goals as goal

pub returns-clause-rule : goal.returns-clause-rule
returns-clause-rule g c =
    let o = g.N.Scalar.kind.ops in
    let w = c.args.work.now in
    let n = w.sizes.channels in
    let ns = w.sizes.states in
    let np = w.sizes.parameters in
    let nr = w.sizes.roots in
    let v = c.args.v.now in
    let s = take (n * ns) v in
    let β = alphas o w.crossing.gap.items c.args.rate nr c.args.r ns s n in
    let all : c.fill.new.out ≡ β = search rules in
    let a : c.meet.new.parts ≡ with_products o Lose w.by_parameter.items np ns s n (drop (n * ns) v) = search rules in
    let b : c.meet-2.new.parts ≡ with_products o Gain w.root_by_parameter.items np nr c.fill.new.out n c.meet.new.parts = search rules in
    let d : c.meet-3.new.parts ≡ with_products o Become w.crossing.root_by_state.items ns nr c.fill.new.out n s = search rules in
    let e : c.meet-4.new.parts ≡ with_products o Lose w.crossing.reset_by_state.items ns ns s n c.meet-3.new.parts = search rules in
    rw (e, d, b, a, all)
