-- Where the pieces of a text end.
use Rattle.std.specs.Prelude.{◌≡◌, ℕ, zero, suc, ◌<◌, ◌≤◌, Bool, true, false, cond, ◌||◌, List, [], ◌∷◌, length, ◌==◌, slice_index}

-- a line ends at byte 10
abbrev pub is_end : ℕ → Bool
is_end b = b == 10

-- a break is a blank, byte 32, or a line's end; no other byte separates
abbrev pub is_break : ℕ → Bool
is_break b = b == 32 || is_end b

-- the place of the first break at or after the place i, or the length where there is none
abbrev pub next_break : List ℕ → ℕ → ℕ
next_break [] i = 0
next_break (b ∷ bs) zero = cond (is_break b) 0 (suc (next_break bs 0))
next_break (b ∷ bs) (suc i) = suc (next_break bs i)

-- the same as a law, for the bytes that a test p picks out: r is within the text and not before i, none of them stands from i up to r, and one stands at r
-- unless r is the end
pub record First (p : ℕ → Bool) (bs : List ℕ) (i r : ℕ) : Type 0 where
  pub within : r ≤ length bs
  pub after : r < length bs → i ≤ r
  pub none : (k : ℕ) → i ≤ k → k < r → p (slice_index bs k) ≡ false
  pub found : r < length bs → p (slice_index bs r) ≡ true
