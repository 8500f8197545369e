use Rattle.std.proofs.Common.{◌≡◌, ◌+◌, ◌*◌, ◌≤◌, length, sym, ◌∙◌, arith}
use Rattle.scalar.proofs.Rows.{row_within}
use Rattle.scalar.proofs.Placewise.{length-placewise}
use Rattle.adjoint.specs.Lanes.{lane_of, lane_product, product_of, combined}
use Rattle.adjoint.proofs.Laned.{lanes_none, lane_more, lanes_all, lane_length}
use Rattle.adjoint.proofs.lanes.Product.meet.Goals as goal

pub loop-i-init : goal.loop-i-init
loop-i-init g c =
    let p = c.args.self.now in
    let w = length c.args.space.now in
    lanes_none (lane_product g.N.Scalar.kind.ops p.mode p.matrix.now w p.rows p.vectors.now) w c.args.lanes c.args.parts.now

pub loop-i-preserved : goal.loop-i-preserved
loop-i-preserved g c =
    let o = g.N.Scalar.kind.ops in
    let p = c.args.self.now in
    let i = c.loop-i.i in
    let w = length c.args.space.now in
    let parts = c.loop-i.parts in
    let inside = row_within i c.args.lanes w (omega arith) in
    let room : i * w + w ≤ length parts = omega arith in
    let same : length c.loop-i.space ≡ w = omega arith in
    let long = length-placewise (combined o p.mode) (lane_of w parts i) (product_of o p.matrix.now w (lane_of p.rows p.vectors.now i)) ∙ lane_length parts i w room in
    let made = rw same at c.meet_lane.ensures in
    lane_more (lane_product o p.mode p.matrix.now w p.rows p.vectors.now) w c.args.lanes parts c.meet_lane.new.parts i (omega arith) room long made ∙ c.loop-i.invariant

pub returns : goal.returns
returns g c =
    let p = c.args.self.now in
    let w = length c.args.space.now in
    sym (lanes_all (lane_product g.N.Scalar.kind.ops p.mode p.matrix.now w p.rows p.vectors.now) w c.args.lanes c.loop-i.parts c.loop-i.i (omega arith)) ∙ c.loop-i.invariant
