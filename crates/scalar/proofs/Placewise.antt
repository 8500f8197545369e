-- A loop that goes over two lists place by place.
use Rattle.std.proofs.Common.{◌≡◌, ℕ, zero, suc, ◌<◌, ◌≤◌, min, ◌⊎◌, List, [], ◌∷◌, ◌++◌, length, get_or, take, drop, set, sym, refl, ap, ◌∙◌, inl, inr, arith}
use Rattle.std.proofs.lemmas.List.{take-append-drop, drop_all}
use Rattle.std.proofs.lemmas.Bool.{cases_lt}
use Rattle.scalar.specs.Vectors.{placewise}

module _ {N : Type 0} (f : N → N → N) where
  -- what is done up to i, and what is still to do from there on
  abbrev pub partly : List N → List N → ℕ → List N
  partly ys xs i = take i ys ++ placewise f (drop i ys) (drop i xs)

  pub placewise_more : (ys xs : List N) (i : ℕ) (d x v : N) → i < length ys → i < length xs → x ≡ get_or xs i x → v ≡ f (get_or ys i d) x → partly (set ys i v) xs (suc i) ≡ partly ys xs i
  placewise_more [] xs i d x v p q e h = absurd (omega arith)
  placewise_more (y ∷ ys) [] i d x v p q e h = absurd (omega arith)
  placewise_more (y ∷ ys) (z ∷ xs) zero d x v p q e h = ap (λ a. a ∷ placewise f ys xs) (h ∙ ap (f y) e)
  placewise_more (y ∷ ys) (z ∷ xs) (suc i) d x v p q e h = ap (λ a. y ∷ a) (placewise_more ys xs i d x v (omega arith) (omega arith) e h)

  alone : (ys : List N) → placewise f ys [] ≡ ys
  alone [] = refl
  alone (y ∷ ys) = refl

  -- past the end of either list nothing is left to do
  at_end : (ys xs : List N) (i : ℕ) → (length ys ≤ i) ⊎ (length xs ≤ i) → partly ys xs i ≡ ys
  at_end ys xs i (inl h) = rw (drop_all i ys h) (ap (λ a. take i ys ++ a) (sym (drop_all i ys h)) ∙ take-append-drop i ys)
  at_end ys xs i (inr h) = rw (drop_all i xs h, alone, take-append-drop) refl

  pub placewise_all : (ys xs zs : List N) (i : ℕ) → length ys ≡ length zs → i ≡ min (length zs) (length xs) → partly ys xs i ≡ placewise f zs xs → ys ≡ placewise f zs xs
  placewise_all ys xs zs i n e h = sym (at_end ys xs i (which (cases_lt (length ys) (length xs)))) ∙ h
    where
      which : (length ys < length xs) ⊎ (length xs ≤ length ys) → (length ys ≤ i) ⊎ (length xs ≤ i)
      which (inl a) = inl (omega arith)
      which (inr b) = inr (omega arith)

  pub length-placewise : (ys xs : List N) → length (placewise f ys xs) ≡ length ys
  length-placewise [] xs = refl
  length-placewise (y ∷ ys) [] = refl
  length-placewise (y ∷ ys) (x ∷ xs) = ap (λ n. suc n) (length-placewise ys xs)
