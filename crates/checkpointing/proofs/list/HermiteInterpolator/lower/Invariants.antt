use Rattle.std.proofs.Common.{◌≡◌, ◌≤◌}
use Rattle.checkpointing.specs.Knots.{knot_at, last_not_after}
use Rattle.checkpointing.proofs.list.HermiteInterpolator.lower.Given as goal

abbrev pub invariant-loop-k : goal.invariant-loop-k
invariant-loop-k g l =
    let o = g.N.Scalar.kind.ops in
    let K = knot_at o l.self.dim l.self.rows.now in
    (1 ≤ l.k) × (last_not_after o K l.t l.k ≡ last_not_after o K l.t l.self.count)
