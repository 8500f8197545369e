use Rattle.std.proofs.Common.{◌+◌, ◌*◌, ◌≤◌, cond, eqb, length, sym, ◌∙◌, arith}
use Rattle.std.proofs.lemmas.List.FromFn.{length-map-range_with_len}
use Rattle.scalar.proofs.Rows.{row_within}
use Rattle.adjoint.specs.Lanes.{lane_of}
use Rattle.adjoint.specs.Reset.{at_root, alpha}
use Rattle.adjoint.proofs.Laned.{lanes_none, lane_more, lanes_all, lanes_joined}
use Rattle.adjoint.proofs.Alphas.{alpha_lane}
use Rattle.adjoint.proofs.crossing.Alphas.fill.Goals as goal

pub loop-i-init : goal.loop-i-init
loop-i-init g c =
    lanes_none (alpha_lane g.N.Scalar.kind.ops c.args.self.now.gap.now c.args.self.now.rate c.args.self.now.roots c.args.self.now.root (length c.args.self.now.gap.now) c.args.s.now) c.args.self.now.roots c.args.lanes c.args.out.now

pub loop-i-preserved : goal.loop-i-preserved
loop-i-preserved g c =
    let o = g.N.Scalar.kind.ops in
    let k = c.args.self.now in
    let i = c.loop-i.i in
    let n = k.roots in
    let w = length k.gap.now in
    let s = c.args.s.now in
    let inside = row_within i c.args.lanes n (omega arith) in
    let room : i * n + n ≤ length c.loop-i.out = omega arith in
    let long = length-map-range_with_len (λ j. cond (eqb j k.root) (alpha o k.gap.now k.rate (lane_of w s i)) (o.whole 0)) 0 n in
    lane_more (alpha_lane o k.gap.now k.rate n k.root w s) n c.args.lanes c.loop-i.out c.fill_lane.new.out i (omega arith) room long c.fill_lane.ensures ∙ c.loop-i.invariant

pub returns : goal.returns
returns g c =
    let o = g.N.Scalar.kind.ops in
    let k = c.args.self.now in
    let w = length k.gap.now in
    let f = alpha_lane o k.gap.now k.rate k.roots k.root w c.args.s.now in
    sym (lanes_all f k.roots c.args.lanes c.loop-i.out c.loop-i.i (omega arith))
    ∙ c.loop-i.invariant
    ∙ lanes_joined (λ i. at_root o k.roots k.root (alpha o k.gap.now k.rate (lane_of w c.args.s.now i))) k.roots 0 c.args.lanes c.args.out.now (omega arith)
