use Rattle.std.proofs.Common.{◌≡◌, length}
use Rattle.adjoint.specs.Lanes.{laned}
use Rattle.adjoint.proofs.Laned.{partly}
use Rattle.adjoint.proofs.Alphas.{alpha_lane}
use Rattle.adjoint.proofs.crossing.Alphas.fill.Given as goal

abbrev pub invariant-loop-i : goal.invariant-loop-i
invariant-loop-i g l =
    let f = alpha_lane g.N.Scalar.kind.ops l.self.gap.now l.self.rate l.self.roots l.self.root (length l.self.gap.now) l.s in
    partly f l.self.roots l.lanes l.out l.i ≡ laned f l.self.roots 0 l.lanes l.initial.out
