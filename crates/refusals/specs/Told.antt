-- What a refusal tells: a number of the table of refusals, and values.
use Rattle.std.specs.Prelude.{◌≡◌, ℕ, ◌⊎◌, List, [], ◌∷◌}
use Rattle.refusals.specs.declared.sizes.Size.{Size}
use Rattle.refusals.specs.declared.sizes.WrongSize.{WrongSize}
use Rattle.refusals.specs.declared.times.Times.{Times}
use Rattle.refusals.specs.declared.times.NoTime.{NoTime}

-- a value that comes with a number: which size, which list of times, a time, or an index, a segment or a count
pub data Value (T : Type 0) : Type 0 where
  size : Size → Value T
  list : Times → Value T
  time : T → Value T
  count : ℕ → Value T

pub record Told (T : Type 0) : Type 0 where
  pub number : ℕ
  pub values : List (Value T)

-- the number is one of these
abbrev pub Among : List ℕ → ℕ → Type 0
Among [] n = ⊥
Among (m ∷ ms) n = (n ≡ m) ⊎ Among ms n

abbrev pub size_told : {T : Type 0} → WrongSize → Told T
size_told w = record { number = 1; values = Value.size w.size ∷ Value.count w.index ∷ [] }

abbrev pub time_told : {T : Type 0} → NoTime → Told T
time_told n = record { number = 2; values = Value.list n.list ∷ Value.count n.index ∷ [] }
