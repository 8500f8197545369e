-- The knots that a list holds, in their order and by their number, and what a list that is asked does.
use Rattle.std.specs.Prelude.{◌≡◌, ℕ, List, Some, None, Option}
use Rattle.scalar.specs.Ops.{Ops}
use Rattle.checkpointing.specs.declared.list.HermiteInterpolator.{HermiteInterpolator}
use Rattle.checkpointing.specs.Knots.{Knot, knot_at, knots}

abbrev pub held : {N : Type 0} → Ops N → HermiteInterpolator N → List (Knot N)
held o list = knots o list.dim list.rows.now list.count

abbrev pub numbered : {N : Type 0} → Ops N → HermiteInterpolator N → ℕ → Knot N
numbered o list k = knot_at o list.dim list.rows.now k

-- a state that was found is what the buffer becomes; without one the buffer stays
abbrev pub Fills : {N : Type 0} → Option (List N) → Option (Unit {0}) → List N → List N → Type 0
Fills None r old new = (r ≡ None) × (new ≡ old)
Fills (Some u) r old new = (r ≡ Some tt) × (new ≡ u)
