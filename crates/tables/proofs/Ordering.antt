-- The segments of the checkpoints, row by row.
use Rattle.std.proofs.Common.{◌≡◌, ℕ, zero, suc, ◌+◌, ◌-◌, ◌<◌, true, false, ◌⊎◌, List, [], ◌∷◌, ◌++◌, length, get_or, take, drop, subst, ℤ, pos, ◌+ℤ◌, Err, Result, sym, refl, ap, ◌∙◌, ⊎_elim, arith}
use Rattle.std.proofs.lemmas.List.{at_drop_more, drop-drop, drop_at, take_rest, length-drop, get_or-drop}
use Rattle.tables.specs.Parts.{joined}
use Rattle.std.specs.Ordering.{int_eq}
use Rattle.std.proofs.lemmas.Bool.Decides.{Decides-int_eq}
use Rattle.std.proofs.lemmas.Bool.{false_from_ne_true, cond-true, cond-false, or_left, or_right, or_from}
use Rattle.tables.specs.declared.faults.Wrong.TheVariants.{Order}
use Rattle.tables.specs.declared.faults.Fault.{Fault}
use Rattle.tables.specs.declared.faults.Fault.TheVariants.{Line}
use Rattle.tables.specs.Rides.{segments, steps_of, start_of, order_of}

same : (a b : ℤ) → a ≡ b → int_eq a b ≡ true
same a b e = (Decides-int_eq a b).1 e

other : (a b : ℤ) → (a ≡ b → ⊥) → int_eq a b ≡ false
other a b ne = false_from_ne_true _ (λ t. ne ((Decides-int_eq a b).0 t))

segments_drop : (k : ℕ) (zs : List ℤ) → segments k zs ≡ segments 0 (drop k zs)
segments_drop zero zs = refl
segments_drop (suc k) [] = refl
segments_drop (suc k) (z ∷ zs) = segments_drop k zs

pub segments_more : (zs : List ℤ) (i j : ℕ) → i < length zs → j ≡ i + 7 → segments 0 (drop i zs) ≡ get_or zs i (pos 0) ∷ segments 0 (drop j zs)
segments_more zs i j h e =
    let next : (i + 1) + 6 ≡ j = omega arith in
    at_drop_more (segments 0) zs i (pos 0) h
    ∙ ap (λ l. get_or zs i (pos 0) ∷ l) (segments_drop 6 (drop (i + 1) zs) ∙ ap (segments 0) (drop-drop 6 (i + 1) zs ∙ ap (λ k. drop k zs) next))

-- rows of seven numbers, of which the first is the segment
abbrev pub Sevens : List (List ℤ) → Type 0
Sevens rows = (i : ℕ) → i < length rows → length (get_or rows i []) ≡ 7

pub sevens_later : (rows : List (List ℤ)) → Sevens rows → Sevens (take (length rows - 1) (drop 1 rows))
sevens_later rows w =
    let long = length-drop 1 rows in
    subst Sevens (sym (take_rest rows 1)) (λ i h. let next : 1 + i < length rows = omega arith in ap length (get_or-drop 1 rows i []) ∙ w (1 + i) next)

segments_row : (row zs : List ℤ) → length row ≡ 7 → segments 0 (row ++ zs) ≡ get_or row 0 (pos 0) ∷ segments 0 zs
segments_row [] zs h = absurd (omega arith)
segments_row (z ∷ row) zs h = let six : length row ≡ 6 = omega arith in ap (λ l. z ∷ l) (segments_drop 6 (row ++ zs) ∙ ap (segments 0) (drop_at row zs 6 six))

module _ (rows : List (List ℤ)) (w : Sevens rows) (k : ℕ) (h : k < length rows) where
  next_segment : segments 0 (joined (drop k rows)) ≡ get_or (get_or rows k []) 0 (pos 0) ∷ segments 0 (joined (drop (k + 1) rows))
  next_segment = at_drop_more (λ l. segments 0 (joined l)) rows k [] h ∙ segments_row (get_or rows k []) (joined (drop (k + 1) rows)) (w k h)

  module _ (n : ℕ) (p : ℤ) (says : Result (Unit {0}) Fault) (inv : says ≡ steps_of n p (segments 0 (joined (drop k rows)))) where
    begins : (s : ℤ) → s ≡ get_or (get_or rows k []) 0 (pos 0) → says ≡ steps_of n p (s ∷ segments 0 (joined (drop (k + 1) rows)))
    begins s es = inv ∙ ap (steps_of n p) (next_segment ∙ ap (λ z. z ∷ segments 0 (joined (drop (k + 1) rows))) (sym es))

    pub order_more : (m : ℕ) (s : ℤ) → m ≡ n + 1 → s ≡ get_or (get_or rows k []) 0 (pos 0) → (s ≡ p) ⊎ (s ≡ p +ℤ pos 1) → says ≡ steps_of m s (segments 0 (joined (drop (k + 1) rows)))
    order_more m s em es q =
        begins s es ∙ cond-true _ _ _ (⊎_elim (λ e. or_left _ _ (same _ _ e)) (λ e. or_right (int_eq s p) _ (same _ _ e)) q)
        ∙ ap (λ i. steps_of i s (segments 0 (joined (drop (k + 1) rows)))) (sym em)

    pub order_other : (s : ℤ) → s ≡ get_or (get_or rows k []) 0 (pos 0) → (s ≡ p → ⊥) → (s ≡ p +ℤ pos 1 → ⊥) → says ≡ Err (Line n Order)
    order_other s es q r = begins s es ∙ cond-false _ _ _ (or_from _ _ (other _ _ q) (other _ _ r))

pub order_start : (rows : List (List ℤ)) (n : ℕ) → Sevens rows → 0 < length rows → get_or (get_or rows 0 []) 0 (pos 0) ≡ pos 0
    → order_of n (joined rows) ≡ steps_of (n + 1) (pos 0) (segments 0 (joined (take (length rows - 1) (drop 1 rows))))
order_start rows n w h e =
    let first : segments 0 (joined rows) ≡ pos 0 ∷ segments 0 (joined (drop 1 rows)) = next_segment rows w 0 h ∙ ap (λ z. z ∷ segments 0 (joined (drop 1 rows))) e in
    ap (start_of n) first ∙ ap (λ l. steps_of (n + 1) (pos 0) (segments 0 (joined l))) (sym (take_rest rows 1))
