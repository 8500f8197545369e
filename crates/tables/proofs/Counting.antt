-- The digits of a number, one at a time.
use Rattle.std.proofs.Common.{◌≡◌, ℕ, ◌+◌, ◌-◌, ◌*◌, ◌^◌, ◌<◌, min, List, [], ◌∷◌, length, get_or, drop, sym, ap, ◌∙◌, arith}
use Rattle.std.proofs.lemmas.List.{at_drop_more}
use Rattle.tables.specs.Numbers.{decimal}

-- numbers that are the same up to a cap stay so with more digits
capped : (cs : List ℕ) (a b cap : ℕ) → min a cap ≡ min b cap → min (decimal a cs) cap ≡ min (decimal b cs) cap
capped [] a b cap e = e
capped (c ∷ cs) a b cap e = capped cs (a * 10 + (c - 48)) (b * 10 + (c - 48)) cap (omega arith)

pub decimal_more : (s : List ℕ) (i n q cap : ℕ) → i < length s → cap < 2 ^ 64 → q ≡ min (min (min (n * 10) (2 ^ 64 - 1) + (get_or s i 0 - 48)) (2 ^ 64 - 1)) cap
    → min (decimal q (drop (i + 1) s)) cap ≡ min (decimal n (drop i s)) cap
decimal_more s i n q cap h l e =
    capped (drop (i + 1) s) q (n * 10 + (get_or s i 0 - 48)) cap (omega arith) ∙ ap (λ d. min d cap) (sym (at_drop_more (decimal n) s i 0 h))
