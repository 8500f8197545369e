-- The tables of a ride, and the first thing wrong with them. A text has three tables: checkpoints, samples and settings, each a line of names and rows of
-- whole numbers under it. A table's rows end at a blank line or the end of the text, and before the names of a table any number of blank lines may stand. The
-- text is read from top to bottom, and what is found first is told, with its line.
use Rattle.std.specs.Prelude.{◌≡◌, ℕ, zero, suc, ◌+◌, ◌-◌, ◌*◌, ◌^◌, ◌<◌, ◌≤◌, min, cond, ◌||◌, ◌⊎◌, List, [], ◌∷◌, length, ℤ, pos, ◌+ℤ◌, Ok, Err, Result, slice_index_or, unsigned_abs}
use Rattle.std.specs.List.{AllByRecursion}
use Rattle.std.specs.Ordering.{int_eq}
use Rattle.tables.specs.declared.faults.Wrong.TheVariants.{Extra, Order, NoCheckpoint, NoSettings}
use Rattle.tables.specs.declared.faults.Part.TheVariants.{Checkpoints, Samples, Settings}
use Rattle.tables.specs.declared.faults.Fault.{Fault}
use Rattle.tables.specs.declared.faults.Fault.TheVariants.{Line}
use Rattle.tables.specs.Numbers.{map_ok}
use Rattle.tables.specs.Tables.{Left, and_then, at_line, row_of, head_of, rows_of}
use Rattle.tables.specs.Text.{lines_of, words_of, is_blank}

-- of numbers in rows of seven, the first of each row, the segment; k numbers are left of the row that has begun
abbrev pub segments : ℕ → List ℤ → List ℤ
segments k [] = []
segments zero (z ∷ zs) = z ∷ segments 6 zs
segments (suc k) (z ∷ zs) = segments k zs

-- after the segment p, from the n-th line on: each segment is the one before or the next one
abbrev pub steps_of : ℕ → ℤ → List ℤ → Result (Unit {0}) Fault
steps_of n p [] = Ok tt
steps_of n p (s ∷ ss) = cond (int_eq s p || int_eq s (p +ℤ pos 1)) (steps_of (n + 1) s ss) (Err (Line n Order))

-- the first segment is 0
abbrev pub start_of : ℕ → List ℤ → Result (Unit {0}) Fault
start_of n [] = Err (Line (n - 1) NoCheckpoint)
start_of n (s ∷ ss) = cond (int_eq s (pos 0)) (steps_of (n + 1) s ss) (Err (Line n Order))

-- the rows of checkpoints, from the n-th line on, are in order; without one the line of the names is told
abbrev pub order_of : ℕ → List ℤ → Result (Unit {0}) Fault
order_of n zs = start_of n (segments 0 zs)

-- from the n-th line on: the names and the rows of the checkpoints, then their order
abbrev pub checkpoints_of : ℕ → ℕ → List (List ℕ) → Result (List ℤ × Left) Fault
checkpoints_of m n ls = and_then (head_of Checkpoints n ls) (λ a. and_then (rows_of m 7 a.0 a.1) (λ p. map_ok (λ _. p) (order_of a.0 p.0)))

-- the names and the rows of the samples, which may be none
abbrev pub samples_of : ℕ → ℕ → List (List ℕ) → Result (List ℤ × Left) Fault
samples_of m n ls = and_then (head_of Samples n ls) (λ a. rows_of m 2 a.0 a.1)

-- only blank lines are left
abbrev pub end_of : ℕ → List (List ℕ) → Result (Unit {0}) Fault
end_of n [] = Ok tt
end_of n (l ∷ ls) = cond (is_blank l) (end_of (n + 1) ls) (Err (Line n Extra))

-- one row of five numbers is the n-th line, right below the names, and nothing follows; without it the line of the names is told
abbrev pub last_of : ℕ → ℕ → List (List ℕ) → Result (List ℤ) Fault
last_of m n [] = Err (Line (n - 1) NoSettings)
last_of m n (l ∷ ls) = cond (is_blank l) (Err (Line (n - 1) NoSettings)) (and_then (at_line n (row_of m 5 (words_of l))) (λ zs. map_ok (λ _. zs) (end_of (n + 1) ls)))

-- the names and the row of the settings
abbrev pub settings_of : ℕ → ℕ → List (List ℕ) → Result (List ℤ) Fault
settings_of m n ls = and_then (head_of Settings n ls) (λ a. last_of m a.0 a.1)

-- the numbers of the three tables, each row after the one before
pub record Said : Type 0 where
  pub checkpoints : List ℤ
  pub samples : List ℤ
  pub settings : List ℤ

-- a number's distance from 0 is at most `largest`, and fits 63 bits
abbrev pub limit_of : ℕ → ℕ
limit_of largest = min largest (2 ^ 63 - 1)

-- what a text says: three tables, from its first line on
abbrev pub ride_of : ℕ → List ℕ → Result Said Fault
ride_of largest bs =
    and_then (checkpoints_of (limit_of largest) 1 (lines_of bs)) (λ p.
    and_then (samples_of (limit_of largest) p.1.0 p.1.1) (λ q.
    map_ok (λ zs. record { checkpoints = p.0; samples = q.0; settings = zs }) (settings_of (limit_of largest) q.1.0 q.1.1)))

-- b is the segment a or the next one
abbrev pub Follows : ℤ → ℤ → Type 0
Follows a b = (b ≡ a) ⊎ (b ≡ a +ℤ pos 1)

-- no number is further from 0 than m
abbrev pub Within : ℕ → List ℤ → Type 0
Within m zs = AllByRecursion (λ z. unsigned_abs z ≤ m) zs

-- what holds of every ride that is read: seven numbers to a checkpoint, of which there is one at least, two to a sample, five settings; the segments, the
-- first number of each checkpoint, begin at 0, and each is the one before or the next; no number is too large
pub record Sound (largest : ℕ) (said : Said) : Type 0 where
  pub sevens : (k : ℕ) × (1 ≤ k) × (length said.checkpoints ≡ 7 * k)
  pub pairs : (k : ℕ) × (length said.samples ≡ 2 * k)
  pub five : length said.settings ≡ 5
  pub start : slice_index_or said.checkpoints 0 (pos 0) ≡ pos 0
  pub steps : (k : ℕ) → 7 * (k + 1) < length said.checkpoints → Follows (slice_index_or said.checkpoints (7 * k) (pos 0)) (slice_index_or said.checkpoints (7 * (k + 1)) (pos 0))
  pub small : Within largest said.checkpoints × Within largest said.samples × Within largest said.settings
