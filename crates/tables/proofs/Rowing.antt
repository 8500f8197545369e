-- A row of numbers, word by word.
use Rattle.std.proofs.Common.{◌≡◌, ℕ, zero, suc, ◌+◌, ◌-◌, ◌<◌, List, [], ◌∷◌, ◌++◌, ℤ, Ok, Err, Result, sym, refl, ap, ◌∙◌, append_assoc, arith}
use Rattle.tables.specs.declared.faults.Wrong.{Wrong}
use Rattle.tables.specs.declared.faults.Wrong.TheVariants.{TooFew}
use Rattle.tables.specs.Numbers.{map_ok, whole_of}
use Rattle.tables.specs.Tables.{and_then, row_of}

-- the row so far, before what is left of it
abbrev pub on_row : List ℤ → Result (List ℤ) Wrong → Result (List ℤ) Wrong
on_row vs r = map_ok (λ zs. vs ++ zs) r

on_row-push : (vs : List ℤ) (z : ℤ) (r : Result (List ℤ) Wrong) → on_row vs (map_ok (λ zs. z ∷ zs) r) ≡ on_row (vs ++ z ∷ []) r
on_row-push vs z (Ok zs) = ap Ok (sym (append_assoc vs (z ∷ []) zs))
on_row-push vs z (Err w) = refl

module _ (m k : ℕ) (vs : List ℤ) (says : Result (List ℤ) Wrong) (words : List (List ℕ)) (inv : says ≡ on_row vs (row_of m k words)) where
  few : (j : ℕ) → 0 < j → row_of m j [] ≡ Err TooFew
  few zero h = absurd (omega arith)
  few (suc j) h = refl

  one : (j : ℕ) (w : List ℕ) (ws : List (List ℕ)) → 0 < j → row_of m j (w ∷ ws) ≡ and_then (whole_of m w) (λ z. map_ok (λ zs. z ∷ zs) (row_of m (j - 1) ws))
  one zero w ws h = absurd (omega arith)
  one (suc j) w ws h = let e : j ≡ suc j - 1 = omega arith in ap (λ i. and_then (whole_of m w) (λ z. map_ok (λ zs. z ∷ zs) (row_of m i ws))) e

  pub row_few : 0 < k → words ≡ [] → says ≡ Err TooFew
  row_few h e = inv ∙ ap (λ l. on_row vs (row_of m k l)) e ∙ ap (on_row vs) (few k h)

  pub row_bad : (w : List ℕ) (ws : List (List ℕ)) (b : Wrong) → 0 < k → words ≡ w ∷ ws → Err b ≡ whole_of m w → says ≡ Err b
  row_bad w ws b h e q =
      inv ∙ ap (λ l. on_row vs (row_of m k l)) e ∙ ap (on_row vs) (one k w ws h) ∙ ap (λ o. on_row vs (and_then o (λ z. map_ok (λ zs. z ∷ zs) (row_of m (k - 1) ws)))) (sym q)

  pub row_more : (j : ℕ) (w : List ℕ) (ws : List (List ℕ)) (z : ℤ) (us : List ℤ) → k ≡ j + 1 → words ≡ w ∷ ws → Ok z ≡ whole_of m w → us ≡ vs ++ z ∷ [] → says ≡ on_row us (row_of m j ws)
  row_more j w ws z us h e q p =
      let next : k - 1 ≡ j = omega arith in
      inv ∙ ap (λ l. on_row vs (row_of m k l)) e ∙ ap (on_row vs) (one k w ws (omega arith)) ∙ ap (λ o. on_row vs (and_then o (λ z. map_ok (λ zs. z ∷ zs) (row_of m (k - 1) ws)))) (sym q)
      ∙ on_row-push vs z (row_of m (k - 1) ws) ∙ ap (λ l. on_row l (row_of m (k - 1) ws)) (sym p) ∙ ap (λ i. on_row us (row_of m i ws)) next
