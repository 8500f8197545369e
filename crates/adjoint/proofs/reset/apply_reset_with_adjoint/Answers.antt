use Rattle.std.proofs.Common.{eqb, [], ◌∷◌, ◌++◌, length, rules, sym, ◌∙◌}
use Rattle.std.proofs.lemmas.Bool.{eqb-true}
use Rattle.refusals.specs.declared.sizes.Size.TheVariants.{CheckpointState, CheckpointSlope}
use Rattle.refusals.specs.Sizes.{first_wrong}
use Rattle.adjoint.specs.Rules.{vector_fits, space_fits}
use Rattle.adjoint.specs.Sizes.{limits}
use Rattle.adjoint.proofs.Fits.{is_made, vector_is, passed, stopped}
use Rattle.adjoint.proofs.Roots.{root_below}
use Rattle.adjoint.proofs.reset.apply_reset_with_adjoint.Goals as goal

pub reset_lanes-requires : goal.reset_lanes-requires
reset_lanes-requires g c =
    let o = g.N.Scalar.kind.ops in
    let m = g.E.OdeEquations.model c.args.eqn.now in
    let n = c.args.channels in
    let b = c.args.boundary.now in
    let s = c.args.work.now.sizes in
    let v = c.args.v.now in
    let fits = rw (c.vector_fits.ensures, c.nstates-states.ensures, c.space_fits.ensures) at c.in_ok-all_fit.ensures in
    let right =
    passed (limits m n) ((eqb (length b.y.now) m.states, CheckpointState) ∷ (eqb (length b.below.now) m.states, CheckpointSlope) ∷ (eqb (length b.above.now) m.states, CheckpointSlope) ∷ vector_fits o m n v ∷ space_fits o m n s ∷ []) fits in
    let made = is_made m n s right.1.1.1.1.0 in
    record {
      space = made.1;
      slope = eqb-true (length b.below.now) m.states right.1.0 ∙ sym made.1.states;
      root = rw made.1.roots (root_below o m b.segment b.root c.in_ok-r.r c.in_ok-r.ensures);
      both = vector_is m n s (length v) made right.1.1.1.0;
    }

pub returns-in_err-all_fit-clause-rule : goal.returns-in_err-all_fit-clause-rule
returns-in_err-all_fit-clause-rule g c =
    let o = g.N.Scalar.kind.ops in
    let m = g.E.OdeEquations.model c.args.eqn.now in
    let n = c.args.channels in
    let b = c.args.boundary.now in
    let v = c.args.v.now in
    let fits = rw (c.vector_fits.ensures, c.nstates-states.ensures, c.space_fits.ensures) at c.in_err-all_fit.ensures in
    let tests = (eqb (length b.y.now) m.states, CheckpointState) ∷ (eqb (length b.below.now) m.states, CheckpointSlope) ∷ (eqb (length b.above.now) m.states, CheckpointSlope) ∷ vector_fits o m n v ∷ space_fits o m n c.args.work.now.sizes ∷ [] in
    stopped (first_wrong (limits m n ++ tests)) _ c.in_err-all_fit.field-0.0 c.from_residual.result v fits (search rules)
