use Rattle.std.proofs.Common.{[], ◌∷◌, length}
use Rattle.adjoint.specs.Rules.{vector_fits, space_fits}
use Rattle.adjoint.specs.Sizes.{limits}
use Rattle.adjoint.proofs.Fits.{is_made, vector_is, passed}
use Rattle.adjoint.proofs.correct.correct_sg_for_init.Goals as goal

pub correct_lanes-requires : goal.correct_lanes-requires
correct_lanes-requires g c =
    let o = g.N.Scalar.kind.ops in
    let m = g.E.OdeEquations.model c.args.eqn.now in
    let n = c.args.channels in
    let s = c.args.work.now.sizes in
    let v = c.args.v.now in
    let fits = rw (c.vector_fits.ensures, c.space_fits.ensures) at c.in_ok-all_fit.ensures in
    let right = passed (limits m n) (vector_fits o m n v ∷ space_fits o m n s ∷ []) fits in
    let made = is_made m n s right.1.0 in
    record { space = made.1; both = vector_is m n s (length v) made right.0 }
