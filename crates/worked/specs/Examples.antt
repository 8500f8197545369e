-- The worked examples as one table. Their numbers are held exactly by both float formats, so that a row serves for both.
use Rattle.std.specs.Prelude.{◌≡◌, ℕ, ◌<◌, false, List, [], ◌∷◌, length, ℤ, pos, Some, None, Option, slice_index_or, Float}
use Rattle.std.specs.Float.{fin}
use Rattle.scalar.specs.Ops.{Ops}
use Rattle.scalar.specs.Floats.{ops32, ops64}
use Rattle.checkpointing.specs.Knots.{Knot, look_up}

-- an example: what is computed, from which numbers, and the result
pub data Example : Type 0 where
  -- knots, a time, and the state that the list answers there
  looked : List (Knot Float) → Float → Option (List Float) → Example

-- that the result comes out, over the operations of a format
abbrev pub Holds : Ops Float → Example → Type 0
Holds o (looked ks t x) = look_up o ks t ≡ x

-- m · 2 ^ e, for an odd m, and zero
abbrev num : ℕ → ℤ → Float
num m e = fin false m e

abbrev zero : Float
zero = fin false 0 (pos 0)

-- knots at 0 (state 1, slope 0) and at 2 (state 5, slope 4)
abbrev two : List (Knot Float)
two = record { t = zero; u = num 1 (pos 0) ∷ []; f = zero ∷ [] } ∷ record { t = num 1 (pos 1); u = num 5 (pos 0) ∷ []; f = num 1 (pos 2) ∷ [] } ∷ []

abbrev pub table : List Example
table =
    -- at 1 the value is 2
    looked two (num 1 (pos 0)) (Some (num 1 (pos 1) ∷ []))
    -- at 2 it is 5, and at 0 the first knot's state as stored
    ∷ looked two (num 1 (pos 1)) (Some (num 5 (pos 0) ∷ []))
    ∷ looked two zero (Some (num 1 (pos 0) ∷ []))
    -- past the last knot there is no answer
    ∷ looked two (num 3 (pos 0)) None
    ∷ []

-- every row, in both formats
abbrev pub Worked : Type 0
Worked = (k : ℕ) (d : Example) → k < length table → Holds ops64 (slice_index_or table k d) × Holds ops32 (slice_index_or table k d)
