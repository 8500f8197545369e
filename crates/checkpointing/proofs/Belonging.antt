-- Going down the segments one by one.
use Rattle.std.proofs.Common.{◌≡◌, ℕ, zero, suc, ◌+◌, ◌-◌, ◌<◌, ◌≤◌, Bool, true, false, cond, ◌⊎◌, List, length, take, Some, None, Option, sym, refl, ap, ◌∙◌, subst, inl, inr, arith, ◌==◌, slice_index_or}
use Rattle.std.proofs.lemmas.List.{get_or_default, get_or-take}
use Rattle.std.proofs.lemmas.Bool.{cases_lt}
use Rattle.scalar.specs.Kind.{Kind}
use Rattle.checkpointing.specs.Segments.{belongs, here, last_of, segment_of, Last}

module _ {N T : Type 0} (k : Kind N T) (ends : List (T × T)) (t : T) where
  down : (n : ℕ) → 0 < n → last_of k ends t n ≡ cond (here k ends t (n - 1)) (Some (n - 1)) (last_of k ends t (n - 1))
  down zero h = absurd (omega arith)
  down (suc m) h = let e : m ≡ suc m - 1 = omega arith in ap (λ i. cond (here k ends t i) (Some i) (last_of k ends t i)) e

  pub found : (n : ℕ) → 0 < n → true ≡ here k ends t (n - 1) → last_of k ends t n ≡ Some (n - 1)
  found n h e = down n h ∙ ap (λ b. cond b (Some (n - 1)) (last_of k ends t (n - 1))) (sym e)

  pub passed : (n : ℕ) → 0 < n → false ≡ here k ends t (n - 1) → last_of k ends t n ≡ last_of k ends t (n - 1)
  passed n h e = down n h ∙ ap (λ b. cond b (Some (n - 1)) (last_of k ends t (n - 1))) (sym e)

  -- the last of the first segments: what is asked of it is asked of a segment of the ride
  pub front : (rest : List (T × T)) (a b : T × T) → 0 < length rest → rest ≡ take (length rest) ends
      → a ≡ slice_index_or rest (length rest - 1) a → b ≡ slice_index_or rest (length rest - 1) b
      → belongs k (length rest == length ends) a.0 b.1 t ≡ here k ends t (length rest - 1)
  front rest a b h e p q =
      let n : ℕ = length rest in
      let up : n ≡ n - 1 + 1 = omega arith in
      let at : slice_index_or rest (n - 1) (t, t) ≡ slice_index_or ends (n - 1) (t, t) = ap (λ xs. slice_index_or xs (n - 1) (t, t)) e ∙ get_or-take n ends (n - 1) (t, t) (omega arith) in
      let x = p ∙ get_or_default rest (n - 1) a (t, t) (omega arith) ∙ at in
      let y = q ∙ get_or_default rest (n - 1) b (t, t) (omega arith) ∙ at in
      ap (λ (m : ℕ). belongs k (m == length ends) a.0 b.1 t) up ∙ ap (λ (z : T × T). belongs k (n - 1 + 1 == length ends) z.0 b.1 t) x ∙ ap (λ (z : T × T). belongs k (n - 1 + 1 == length ends) (slice_index_or ends (n - 1) (t, t)).0 z.1 t) y

  -- a segment that t does not belong to adds nothing
  still : (n : ℕ) → here k ends t n ≡ false → (i : ℕ) → i < suc n → (i < n → here k ends t i ≡ false) → (i < n) ⊎ (n ≤ i) → here k ends t i ≡ false
  still n e i p h (inl q) = h q
  still n e i p h (inr q) = let z : i ≡ n = omega arith in ap (here k ends t) z ∙ e

  one_more : (n : ℕ) (r : Option ℕ) → here k ends t n ≡ false → Last k ends t n r → Last k ends t (suc n) r
  one_more n None e h = λ i p. still n e i p (h i) (cases_lt i n)
  one_more n (Some j) e h = (omega (arith, h.0), h.1, λ i a p. still n e i p (h.2 i a) (cases_lt i n))

  at_top : (n : ℕ) (b : Bool) → here k ends t n ≡ b → Last k ends t n (last_of k ends t n) → Last k ends t (suc n) (cond b (Some n) (last_of k ends t n))
  at_top n true e h = (omega arith, e, λ i a p. absurd (omega arith))
  at_top n false e h = one_more n (last_of k ends t n) e h

  lasts : (n : ℕ) → Last k ends t n (last_of k ends t n)
  lasts zero = λ i p. absurd (omega arith)
  lasts (suc n) = at_top n (here k ends t n) refl (lasts n)

  pub last_is : (r : Option ℕ) → r ≡ segment_of k ends t → Last k ends t (length ends) r
  last_is r e = subst (λ (x : Option ℕ). Last k ends t (length ends) x) (sym e) (lasts (length ends))
