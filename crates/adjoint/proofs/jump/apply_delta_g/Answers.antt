use Rattle.std.proofs.Common.{◌*◌, eqb, [], ◌∷◌, ◌++◌, length, rules}
use Rattle.std.proofs.lemmas.Bool.{eqb-true}
use Rattle.refusals.specs.declared.sizes.Size.TheVariants.{Columns, ForwardState}
use Rattle.refusals.specs.Sizes.{first_wrong}
use Rattle.adjoint.specs.Rules.{vector_fits, space_fits}
use Rattle.adjoint.specs.Sizes.{limits, rows_of}
use Rattle.adjoint.proofs.Fits.{is_made, vector_is, passed, stopped}
use Rattle.adjoint.proofs.jump.apply_delta_g.Goals as goal

pub jump_out-requires : goal.jump_out-requires
jump_out-requires g c =
    let o = g.N.Scalar.kind.ops in
    let m = g.E.OdeEquations.model c.args.eqn.now in
    let n = c.args.channels in
    let b = c.args.instant.now in
    let s = c.args.work.now.sizes in
    let v = c.args.v.now in
    let fits = simp (c.fills.ensures, c.outputs-rows.ensures, c.vector_fits.ensures, c.nstates-states.ensures, c.space_fits.ensures) at c.in_ok-all_fit.ensures in
    let right =
    passed (limits m n) ((eqb (length b.columns.now) (n * rows_of m), Columns) ∷ vector_fits o m n v ∷ (eqb (length b.x.now) m.states, ForwardState) ∷ space_fits o m n s ∷ []) fits in
    let made = is_made m n s right.1.1.1.0 in
    record {
      space = made.1;
      rows = search rules;
      columns = rw (made.0, made.1.outputs) (eqb-true (length b.columns.now) (n * rows_of m) right.0);
      both = vector_is m n s (length v) made right.1.0;
    }

pub returns-in_err-all_fit-clause-rule : goal.returns-in_err-all_fit-clause-rule
returns-in_err-all_fit-clause-rule g c =
    let o = g.N.Scalar.kind.ops in
    let m = g.E.OdeEquations.model c.args.eqn.now in
    let n = c.args.channels in
    let b = c.args.instant.now in
    let v = c.args.v.now in
    let fits = simp (c.fills.ensures, c.outputs-rows.ensures, c.vector_fits.ensures, c.nstates-states.ensures, c.space_fits.ensures) at c.in_err-all_fit.ensures in
    let tests = (eqb (length b.columns.now) (n * rows_of m), Columns) ∷ vector_fits o m n v ∷ (eqb (length b.x.now) m.states, ForwardState) ∷ space_fits o m n c.args.work.now.sizes ∷ [] in
    stopped (first_wrong (limits m n ++ tests)) _ c.in_err-all_fit.field-0.0 c.from_residual.result v fits (search rules)
