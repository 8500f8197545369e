-- Sums, products and additions over a number kind, in the one order that fixes their bits.
use Rattle.std.specs.Prelude.{ℕ, zero, suc, ◌+◌, ◌*◌, min, Bool, List, [], ◌∷◌, map, length, ◌==◌, slice_index_or}
use Rattle.std.specs.List.{range_with_len}
use Rattle.scalar.specs.Ops.{Ops}

-- f y x at every place that both lists have; what is left of the first stays as it is
abbrev pub placewise : {N : Type 0} → (N → N → N) → List N → List N → List N
placewise f [] xs = []
placewise f (y ∷ ys) [] = y ∷ ys
placewise f (y ∷ ys) (x ∷ xs) = f y x ∷ placewise f ys xs

-- a matrix of so many rows and columns lies in the list
abbrev pub fills : {N : Type 0} → List N → ℕ → ℕ → Bool
fills m rows columns = length m == rows * columns

module _ {N : Type 0} (o : Ops N) where
  -- the entry i; past the end, zero
  abbrev pub at : List N → ℕ → N
  at xs i = slice_index_or xs i (o.whole 0)

  -- f 0 + f 1 + .. + f (n - 1): it starts at zero and adds by ascending index
  abbrev pub sum_to : (ℕ → N) → ℕ → N
  sum_to f zero = o.whole 0
  sum_to f (suc n) = o.plus (sum_to f n) (f n)

  abbrev pub sum_of : List N → N
  sum_of xs = sum_to (at xs) (length xs)

  -- over the places that both have
  unfoldable pub dot_of : List N → List N → N
  dot_of xs ys = sum_to (λ i. o.times (at xs i) (at ys i)) (min (length xs) (length ys))

  -- y + a·x
  abbrev pub scaling : N → N → N → N
  scaling a y x = o.plus y (o.times a x)

  -- row i of the matrix whose entry (i, j) is `cell i j`, times v
  abbrev pub row_times : (ℕ → ℕ → N) → List N → ℕ → N
  row_times cell v i = sum_to (λ j. o.times (cell i j) (at v j)) (length v)

  -- column j of it, times v
  abbrev pub column_times : (ℕ → ℕ → N) → List N → ℕ → N
  column_times cell v j = sum_to (λ i. o.times (cell i j) (at v i)) (length v)

  -- the matrix, with n rows, times v
  unfoldable pub product : (ℕ → ℕ → N) → List N → ℕ → List N
  product cell v n = map (row_times cell v) (range_with_len 0 n)

  -- minus the transposed matrix, which has n columns, times v
  unfoldable pub minus_transposed : (ℕ → ℕ → N) → List N → ℕ → List N
  minus_transposed cell v n = map (λ j. o.negated (column_times cell v j)) (range_with_len 0 n)

  -- a matrix with w columns that lies row by row in a list
  abbrev pub row_by_row : List N → ℕ → ℕ → ℕ → N
  row_by_row m w i j = at m (i * w + j)
