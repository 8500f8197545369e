-- The sizes that a rule works with, and their limits.
use Rattle.std.specs.Prelude.{◌≡◌, ℕ, ◌+◌, ◌*◌, Bool, ◌&&◌, List, [], ◌∷◌, Some, None, Ok, Err, Result, ◌==◌, nat_le}
use Rattle.refusals.specs.declared.sizes.Size.{Size}
use Rattle.refusals.specs.declared.sizes.Size.TheVariants.{Channels, States, Parameters, Outputs, Roots}
use Rattle.refusals.specs.declared.sizes.WrongSize.{WrongSize}
use Rattle.refusals.specs.Sizes.{first_wrong}
use Rattle.equations.specs.Model.{Model}
use Rattle.adjoint.specs.declared.measures.Sizes.{Sizes}

-- the outputs; a model without an output function has its states as outputs
abbrev pub rows_of : {N T F : Type 0} → Model N T F → ℕ
rows_of m = elim m.outputs [ Some rows ↦ rows | None ↦ m.states ]

abbrev pub within : ℕ → ℕ → ℕ → Bool
within low n high = nat_le low n && nat_le n high

-- each size with whether it lies within its limits
abbrev pub limits : {N T F : Type 0} → Model N T F → ℕ → List (Bool × Size)
limits m channels =
    (within 1 channels 8, Channels)
    ∷ (within 1 m.states 16, States)
    ∷ (within 0 m.parameters 16, Parameters)
    ∷ (within 1 (rows_of m) 16, Outputs)
    ∷ (within 0 m.roots 8, Roots)
    ∷ []

-- these are the sizes of the model with so many channels
abbrev pub made_for : {N T F : Type 0} → Model N T F → ℕ → Sizes → Bool
made_for m channels s =
    (s.channels == channels) && (s.states == m.states && (s.parameters == m.parameters && (s.outputs == rows_of m && s.roots == m.roots)))

-- The sizes of the model, the channels apart, as equations. A premise of functions that take model and space, and no type of the two:
-- a caller lends each by itself, and uses it by itself between two rules.
pub record Made {N T F : Type 0} (m : Model N T F) (s : Sizes) : Type 0 where
  pub states : s.states ≡ m.states
  pub parameters : s.parameters ≡ m.parameters
  pub outputs : s.outputs ≡ rows_of m
  pub roots : s.roots ≡ m.roots

-- the numbers of all s and all sg
abbrev pub vector_length : Sizes → ℕ
vector_length s = s.channels * s.states + s.channels * s.parameters

-- what measuring a model answers
abbrev pub Sized : {N T F : Type 0} → Model N T F → ℕ → Result Sizes WrongSize → Type 0
Sized m channels (Ok s) = (first_wrong (limits m channels) ≡ Ok tt) × (s.channels ≡ channels) × (s.states ≡ m.states) × (s.parameters ≡ m.parameters) × (s.outputs ≡ rows_of m) × (s.roots ≡ m.roots)
Sized m channels (Err w) = first_wrong (limits m channels) ≡ Err w
