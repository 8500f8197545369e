-- What one step of the reader finds: a line, or a line that has a word.
use Rattle.std.specs.Prelude.{◌≡◌, ℕ, ◌+◌, cond, Some, None, Option, List, [], ◌∷◌}
use Rattle.tables.specs.Tables.{Left}
use Rattle.tables.specs.Text.{is_blank}

-- the next line with its number, and the lines that are left after it; where no line is left there is none, and nothing changes
abbrev pub TakesLine : Left → Option (ℕ × List ℕ) → Left → Type 0
TakesLine before None after = (before.1 ≡ []) × (after ≡ before)
TakesLine before (Some line) after = (before ≡ (line.0, line.1 ∷ after.1)) × (after.0 ≡ line.0 + 1)

-- the lines from the first on that is not blank; the first that is given is the n-th
abbrev pub skip_of : ℕ → List (List ℕ) → Left
skip_of n [] = (n, [])
skip_of n (l ∷ ls) = cond (is_blank l) (skip_of (n + 1) ls) (n, l ∷ ls)
