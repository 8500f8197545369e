-- Which segment an instant belongs to.
use Rattle.std.specs.Prelude.{◌≡◌, ℕ, zero, suc, ◌+◌, ◌<◌, Bool, true, false, cond, not, ◌&&◌, ◌||◌, List, length, Some, None, Option, ◌==◌, slice_index_or}
use Rattle.scalar.specs.Kind.{Kind, before, equal}

module _ {N T : Type 0} (k : Kind N T) where
  -- not before the segment's first time nor after its end; an instant at the end only in the ride's last segment
  abbrev pub belongs : Bool → T → T → T → Bool
  belongs last first end t = not (before k t first) && (not (before k end t) && (last || not (equal k t end)))

  -- whether t belongs to segment n of a ride, whose segments are given by their two ends
  abbrev pub here : List (T × T) → T → ℕ → Bool
  here ends t n = belongs (n + 1 == length ends) (slice_index_or ends n (t, t)).0 (slice_index_or ends n (t, t)).1 t

  -- of the first n segments the last that t belongs to
  abbrev pub last_of : List (T × T) → T → ℕ → Option ℕ
  last_of ends t zero = None
  last_of ends t (suc n) = cond (here ends t n) (Some n) (last_of ends t n)

  abbrev pub segment_of : List (T × T) → T → Option ℕ
  segment_of ends t = last_of ends t (length ends)

  -- The law of the answer: t belongs to that segment, and to none after it; without an answer t belongs to none.
  abbrev pub Last : List (T × T) → T → ℕ → Option ℕ → Type 0
  Last ends t n None = (k : ℕ) → k < n → here ends t k ≡ false
  Last ends t n (Some i) = (i < n) × (here ends t i ≡ true) × ((k : ℕ) → i < k → k < n → here ends t k ≡ false)
