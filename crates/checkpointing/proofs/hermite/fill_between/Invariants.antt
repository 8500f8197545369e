use Rattle.std.proofs.Common.{◌≡◌, ℕ, ◌<◌}
use Rattle.scalar.specs.Vectors.{at}
use Rattle.checkpointing.specs.Knots.{cubic}
use Rattle.checkpointing.specs.Weights.{Weighs}
use Rattle.checkpointing.proofs.hermite.fill_between.Given as goal

abbrev pub invariant-loop-i : goal.invariant-loop-i
invariant-loop-i g l =
    let o = g.N.Scalar.kind.ops in
    (d θ : g.row.N.Denot) → Weighs o d θ l.w → (k : ℕ) → k < l.i
    → at o l.out k ≡ cubic o d θ (at o l.a.u.now k) (at o l.a.f.now k) (at o l.b.u.now k) (at o l.b.f.now k)
