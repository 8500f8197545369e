-- The rows of a table, and the first thing wrong with them.
use Rattle.std.specs.Prelude.{◌≡◌, ℕ, zero, suc, ◌+◌, cond, List, [], ◌∷◌, ◌++◌, ℤ, Ok, Err, codes, Result}
use Rattle.tables.specs.declared.faults.Wrong.{Wrong}
use Rattle.tables.specs.declared.faults.Wrong.TheVariants.{TooFew, TooMany, Names, Missing}
use Rattle.tables.specs.declared.faults.Part.{Part}
use Rattle.tables.specs.declared.faults.Part.TheVariants.{Checkpoints, Samples, Settings}
use Rattle.tables.specs.declared.faults.Fault.{Fault}
use Rattle.tables.specs.declared.faults.Fault.TheVariants.{Memory, Line}
use Rattle.tables.specs.Numbers.{map_ok, whole_of}
use Rattle.tables.specs.Text.{words_of, is_blank, same_words}

-- a reader answers what the text says: a value, or the first line that is wrong; for want of memory it may say nothing of the text
abbrev pub Tells : {X : Type 0} → Result X Fault → Result X Fault → Type 0
Tells says (Ok x) = says ≡ Ok x
Tells says (Err Memory) = Unit {0}
Tells says (Err (Line n w)) = says ≡ Err (Line n w)

-- what comes next is read only where nothing was wrong before it
abbrev pub and_then : {X Y E : Type 0} → Result X E → (X → Result Y E) → Result Y E
and_then (Ok x) f = f x
and_then (Err e) f = Err e

-- what is wrong with the n-th line
abbrev pub at_line : {X : Type 0} → ℕ → Result X Wrong → Result X Fault
at_line n (Ok x) = Ok x
at_line n (Err w) = Err (Line n w)

-- the words of a row are so many whole numbers, none past m: from left to right, then too few or too many
abbrev pub row_of : ℕ → ℕ → List (List ℕ) → Result (List ℤ) Wrong
row_of m zero [] = Ok []
row_of m zero (w ∷ ws) = Err TooMany
row_of m (suc k) [] = Err TooFew
row_of m (suc k) (w ∷ ws) = and_then (whole_of m w) (λ z. map_ok (λ zs. z ∷ zs) (row_of m k ws))

-- the lines that are left, after the number of the first of them
abbrev pub Left : Type 0
Left = ℕ × List (List ℕ)

-- the names of each table's columns, in their order
abbrev pub names_of : Part → List ℕ
names_of Checkpoints = codes "segment t h z v dz dv"
names_of Samples = codes "t dg"
names_of Settings = codes "start k c g b"

-- from the n-th line on: blank lines, then the line of the table's names; the lines after it
abbrev pub head_of : Part → ℕ → List (List ℕ) → Result Left Fault
head_of part n [] = Err (Line n (Missing part))
head_of part n (l ∷ ls) = cond (is_blank l) (head_of part (n + 1) ls) (cond (same_words (words_of l) (words_of (names_of part))) (Ok (n + 1, ls)) (Err (Line n (Names part))))

-- numbers, and then those of the rows after them
abbrev pub ahead : List ℤ → Result (List ℤ × Left) Fault → Result (List ℤ × Left) Fault
ahead zs r = map_ok (λ p. (zs ++ p.0, p.1)) r

-- from the n-th line on: rows of so many numbers up to a blank line or the end; all their numbers, and the lines after the blank one
abbrev pub rows_of : ℕ → ℕ → ℕ → List (List ℕ) → Result (List ℤ × Left) Fault
rows_of m width n [] = Ok ([], (n, []))
rows_of m width n (l ∷ ls) = cond (is_blank l) (Ok ([], (n + 1, ls))) (and_then (at_line n (row_of m width (words_of l))) (λ zs. ahead zs (rows_of m width (n + 1) ls)))
