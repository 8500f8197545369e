use Rattle.std.proofs.Common.{◌≡◌, length}
use Rattle.adjoint.specs.Lanes.{lane_product, laned}
use Rattle.adjoint.proofs.Laned.{partly}
use Rattle.adjoint.proofs.lanes.Product.meet.Given as goal

abbrev pub invariant-loop-i : goal.invariant-loop-i
invariant-loop-i g l =
    let w = length l.initial.space in
    let f = lane_product g.N.Scalar.kind.ops l.self.mode l.self.matrix.now w l.self.rows l.self.vectors.now in
    partly f w l.lanes l.parts l.i ≡ laned f w 0 l.lanes l.initial.parts
