-- The whole number that a word writes.
use Rattle.std.specs.Prelude.{ℕ, ◌+◌, ◌-◌, ◌*◌, Bool, true, cond, ◌&&◌, List, [], ◌∷◌, ℤ, pos, neg_ℤ, Ok, Err, Result, ◌==◌, nat_le}
use Rattle.std.specs.Char.{is_ascii_digit}
use Rattle.tables.specs.declared.faults.Wrong.{Wrong}
use Rattle.tables.specs.declared.faults.Wrong.TheVariants.{NotWhole, TooLarge}

-- what is made of a value, where there is one
abbrev pub map_ok : {X Y E : Type 0} → (X → Y) → Result X E → Result Y E
map_ok f (Ok x) = Ok (f x)
map_ok f (Err e) = Err e

-- each byte is a digit
abbrev pub digits : List ℕ → Bool
digits [] = true
digits (c ∷ cs) = is_ascii_digit c && digits cs

-- the number that the digits cs write after the number n
abbrev pub decimal : ℕ → List ℕ → ℕ
decimal n [] = n
decimal n (c ∷ cs) = decimal (n * 10 + (c - 48)) cs

-- a number may be at most m
abbrev pub bounded : ℕ → ℕ → Result ℕ Wrong
bounded m n = cond (nat_le n m) (Ok n) (Err TooLarge)

-- digits, one at least; any number of leading zeros
abbrev pub size_of : ℕ → List ℕ → Result ℕ Wrong
size_of m [] = Err NotWhole
size_of m (c ∷ cs) = cond (digits (c ∷ cs)) (bounded m (decimal 0 (c ∷ cs))) (Err NotWhole)

-- digits, after a minus sign or none
abbrev pub whole_of : ℕ → List ℕ → Result ℤ Wrong
whole_of m [] = Err NotWhole
whole_of m (c ∷ cs) = cond (c == 45) (map_ok (λ n. neg_ℤ (pos n)) (size_of m cs)) (map_ok pos (size_of m (c ∷ cs)))
