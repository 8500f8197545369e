-- The first break: what the definition gives obeys the law, and the law leaves one place.
use Rattle.std.proofs.Common.{◌≡◌, ℕ, zero, suc, ◌+◌, ◌<◌, ◌≤◌, true, false, List, [], ◌∷◌, length, get_or, drop, sym, ap, ◌∙◌, ◌-◌, ⊎_elim, length-drop, arith}
use Rattle.std.specs.List.{slice_range, AllWithin, HoldsAt}
use Rattle.std.proofs.lemmas.List.{take_rest, get_or-drop}
use Rattle.std.proofs.lemmas.Bool.{cond_both, both_ways, cases_order}
use Rattle.tables.specs.Breaks.{is_end, is_break, next_break, First}

none_more : (b : ℕ) (bs : List ℕ) (i r : ℕ) → ((k : ℕ) → i ≤ k → k < r → is_break (get_or bs k 0) ≡ false) → (k : ℕ) → suc i ≤ k → k < suc r → is_break (get_or (b ∷ bs) k 0) ≡ false
none_more b bs i r none zero h l = absurd (omega arith)
none_more b bs i r none (suc k) h l = none k (omega arith) (omega arith)

none_all : (b : ℕ) (bs : List ℕ) (r : ℕ) → is_break b ≡ false → ((k : ℕ) → 0 ≤ k → k < r → is_break (get_or bs k 0) ≡ false) → (k : ℕ) → 0 ≤ k → k < suc r → is_break (get_or (b ∷ bs) k 0) ≡ false
none_all b bs r e none zero h l = e
none_all b bs r e none (suc k) h l = none k (omega arith) (omega arith)

pub first_of : (bs : List ℕ) (i : ℕ) → First is_break bs i (next_break bs i)
first_of [] i = record { within = omega arith; after = λ l. absurd (omega arith); none = λ k h l. absurd (omega arith); found = λ l. absurd (omega arith) }
first_of (b ∷ bs) zero =
    cond_both (is_break b) 0 (suc (next_break bs 0)) (λ r. First is_break (b ∷ bs) 0 r)
    (λ e. record { within = omega arith; after = λ l. omega arith; none = λ k h l. absurd (omega arith); found = λ l. e })
    (λ e. let f = first_of bs 0 in record { within = omega (arith, f.within); after = λ l. omega arith; none = none_all b bs _ e f.none; found = λ l. f.found (omega arith) })
first_of (b ∷ bs) (suc i) =
    let f = first_of bs i in record { within = omega (arith, f.within); after = λ l. omega (arith, f.after (omega arith)); none = none_more b bs i _ f.none; found = λ l. f.found (omega arith) }

pub one_first : (bs : List ℕ) (i r q : ℕ) → First is_break bs i r → First is_break bs i q → r ≡ q
one_first bs i r q f g =
    ⊎_elim (λ e. e) (⊎_elim
    (λ l. let w : r < length bs = omega (arith, g.within) in absurd (both_ways _ (g.none r (f.after w) l) (f.found w)))
    (λ l. let w : q < length bs = omega (arith, f.within) in absurd (both_ways _ (f.none q (g.after w) l) (g.found w))))
    (cases_order r q)

-- what stands from the place i on was looked through
module _ (bs rest : List ℕ) (i : ℕ) (h : i ≤ length bs) (e : rest ≡ slice_range bs i (length bs)) where
  same : rest ≡ drop i bs
  same = e ∙ take_rest bs i

  same_at : (k : ℕ) → get_or bs (i + k) 0 ≡ get_or rest k 0
  same_at k = sym (ap (λ l. get_or l k 0) same ∙ get_or-drop i bs k 0)

  free : (n : ℕ) → AllWithin (λ b. is_break b ≡ false) rest 0 n → (k : ℕ) → i ≤ k → k < i + n → is_break (get_or bs k 0) ≡ false
  free n w k lo hi =
      let at : k ≡ i + (k - i) = omega arith in
      ap (λ j. is_break (get_or bs j 0)) at ∙ ap is_break (same_at (k - i)) ∙ w (k - i) 0 (omega arith) (omega arith)

  pub first_found : (n : ℕ) → (n < length rest) × HoldsAt (λ b. is_break b ≡ true) rest n × AllWithin (λ b. is_break b ≡ false) rest 0 n → First is_break bs i (i + n)
  first_found n (l, y, w) =
      let long : length rest ≡ length bs - i = ap length same ∙ length-drop i bs in
      record { within = omega arith; after = λ _. omega arith; none = free n w; found = λ _. ap is_break (same_at n) ∙ y 0 }

  pub first_none : AllWithin (λ b. is_break b ≡ false) rest 0 (length rest) → First is_break bs i (length bs)
  first_none w =
      let long : length rest ≡ length bs - i = ap length same ∙ length-drop i bs in
      record { within = omega arith; after = λ _. h; none = λ k lo hi. free (length rest) w k lo (omega arith); found = λ l. absurd (omega arith) }

-- no line ends before the place r
abbrev pub Unended : List ℕ → ℕ → Type 0
Unended bs r = (r ≤ length bs) × ((k : ℕ) → k < r → is_end (get_or bs k 0) ≡ false)
