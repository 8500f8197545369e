-- Looking a time up in knots.
use Rattle.std.proofs.Common.{◌≡◌, ℕ, zero, suc, ◌+◌, ◌-◌, ◌<◌, min, true, false, cond, ◌||◌, ◌≢◌, List, map, is_some, unwrap_or, Some, None, Option, sym, subst, refl, ap, ◌∙◌, arith}
use Rattle.std.specs.List.{range_with_len}
use Rattle.std.proofs.lemmas.List.FromFn.{get_or-map-range_with_len, length-map-range_with_len}
use Rattle.std.proofs.lemmas.Bool.{eq-eqb, ne_eqb}
use Rattle.scalar.specs.Ops.{Ops}
use Rattle.checkpointing.specs.Knots.{Knot, between, last_not_after, around, asked, nth, look_up, answer}
use Rattle.checkpointing.specs.Held.{Fills}

module _ {N : Type 0} (o : Ops N) where
  -- one knot less, where the last one lies after t
  pub passed : (K : ℕ → Knot N) (t : N) (n : ℕ) → 0 < n → o.before t (K (n - 1)).t ≡ true → last_not_after o K t n ≡ last_not_after o K t (n - 1)
  passed K t zero h e = absurd (omega arith)
  passed K t (suc n) h e =
      let s : suc n - 1 ≡ n = omega arith in
      ap (λ m. cond (o.before t (K m).t) (last_not_after o K t n) n) (sym s) ∙ ap (λ b. cond b (last_not_after o K t n) n) e ∙ ap (last_not_after o K t) (sym s)

  pub stopped : (K : ℕ → Knot N) (t : N) (n : ℕ) → 0 < n → o.before t (K (n - 1)).t ≡ false → last_not_after o K t n ≡ n - 1
  stopped K t zero h e = absurd (omega arith)
  stopped K t (suc n) h e =
      let s : suc n - 1 ≡ n = omega arith in
      ap (λ m. cond (o.before t (K m).t) (last_not_after o K t n) n) (sym s) ∙ ap (λ b. cond b (last_not_after o K t n) n) e ∙ sym s

  -- knots that are alike below n answer alike
  module _ (K L : ℕ → Knot N) (t : N) where
    last_alike : (n : ℕ) → ((i : ℕ) → i < n → K i ≡ L i) → last_not_after o K t n ≡ last_not_after o L t n
    last_alike zero h = refl
    last_alike (suc n) h =
        ap (λ k. cond (o.before t k.t) (last_not_after o K t n) n) (h n (omega arith))
        ∙ ap (λ m. cond (o.before t (L n).t) m n) (last_alike n (λ i p. h i (omega arith)))

    around_alike : (n : ℕ) → ((i : ℕ) → i < n → K i ≡ L i) → around o K n t ≡ around o L n t
    around_alike zero h = refl
    around_alike (suc zero) h = refl
    around_alike (suc (suc m)) h =
        let e = last_alike (suc (suc m)) h in
        let j : ℕ = min (last_not_after o L t (suc (suc m))) m in
        let a = h j (omega arith) in
        let b = h (j + 1) (omega arith) in
        ap (λ k. Some (between o (K (min k m)) (K (min k m + 1)) t)) e ∙ ap (λ k. Some (between o k (K (j + 1)) t)) a ∙ ap (λ k. Some (between o (L j) k t)) b

    asked_alike : (n : ℕ) → ((i : ℕ) → i < n → K i ≡ L i) → asked o K n t ≡ asked o L n t
    asked_alike zero h = refl
    asked_alike (suc m) h =
        ap (λ k. cond (o.before t k.t || o.before (K m).t t) None (cond (o.equal t k.t) (Some k.u) (around o K (suc m) t))) (h 0 (omega arith))
        ∙ ap (λ k. cond (o.before t (L 0).t || o.before k.t t) None (cond (o.equal t (L 0).t) (Some (L 0).u) (around o K (suc m) t))) (h m (omega arith))
        ∙ ap (λ k. cond (o.before t (L 0).t || o.before (L m).t t) None (cond (o.equal t (L 0).t) (Some (L 0).u) k)) (around_alike (suc m) h)

  -- a list that is made of numbered knots
  pub look_up_is : (K : ℕ → Knot N) (n : ℕ) (t : N) → look_up o (map K (range_with_len 0 n)) t ≡ asked o K n t
  unfolding look_up
  look_up_is K n t =
      let long = length-map-range_with_len K 0 n in
      ap (λ m. asked o (nth o (map K (range_with_len 0 n))) m t) long
      ∙ asked_alike (nth o (map K (range_with_len 0 n))) K t n (λ i h. get_or-map-range_with_len K 0 n i i _ h (omega arith))

  -- what n knots answer, case by case
  module _ (K : ℕ → Knot N) (t : N) where
    pub asked_none : (n : ℕ) → n ≡ 0 → asked o K n t ≡ None
    asked_none n e = ap (λ m. asked o K m t) e

    pub asked_outside : (n : ℕ) → 0 < n → true ≡ (o.before t (K 0).t || o.before (K (n - 1)).t t) → asked o K n t ≡ None
    asked_outside zero h e = absurd (omega arith)
    asked_outside (suc m) h e =
        let l : suc m - 1 ≡ m = omega arith in
        let x : (o.before t (K 0).t || o.before (K m).t t) ≡ true = ap (λ i. o.before t (K 0).t || o.before (K i).t t) (sym l) ∙ sym e in
        ap (λ b. cond b None (cond (o.equal t (K 0).t) (Some (K 0).u) (around o K (suc m) t))) x

    pub asked_first : (n : ℕ) → 0 < n → false ≡ (o.before t (K 0).t || o.before (K (n - 1)).t t) → true ≡ o.equal t (K 0).t → asked o K n t ≡ Some (K 0).u
    asked_first zero h e f = absurd (omega arith)
    asked_first (suc m) h e f =
        let l : suc m - 1 ≡ m = omega arith in
        let x : (o.before t (K 0).t || o.before (K m).t t) ≡ false = ap (λ i. o.before t (K 0).t || o.before (K i).t t) (sym l) ∙ sym e in
        ap (λ b. cond b None (cond (o.equal t (K 0).t) (Some (K 0).u) (around o K (suc m) t))) x ∙ ap (λ b. cond b (Some (K 0).u) (around o K (suc m) t)) (sym f)

    asked_inside : (n : ℕ) → 0 < n → false ≡ (o.before t (K 0).t || o.before (K (n - 1)).t t) → false ≡ o.equal t (K 0).t → asked o K n t ≡ around o K n t
    asked_inside zero h e f = absurd (omega arith)
    asked_inside (suc m) h e f =
        let l : suc m - 1 ≡ m = omega arith in
        let x : (o.before t (K 0).t || o.before (K m).t t) ≡ false = ap (λ i. o.before t (K 0).t || o.before (K i).t t) (sym l) ∙ sym e in
        ap (λ b. cond b None (cond (o.equal t (K 0).t) (Some (K 0).u) (around o K (suc m) t))) x ∙ ap (λ b. cond b (Some (K 0).u) (around o K (suc m) t)) (sym f)

    pub asked_alone : (n : ℕ) → n ≡ 1 → false ≡ (o.before t (K 0).t || o.before (K (n - 1)).t t) → false ≡ o.equal t (K 0).t → asked o K n t ≡ None
    asked_alone n p e f = asked_inside n (omega arith) e f ∙ ap (λ m. around o K m t) p

    around_two : (n j : ℕ) → 1 < n → j ≡ min (last_not_after o K t n) (n - 2) → around o K n t ≡ Some (between o (K j) (K (j + 1)) t)
    around_two zero j h e = absurd (omega arith)
    around_two (suc zero) j h e = absurd (omega arith)
    around_two (suc (suc m)) j h e =
        let l : suc (suc m) - 2 ≡ m = omega arith in
        ap (λ i. Some (between o (K i) (K (i + 1)) t)) (ap (min (last_not_after o K t (suc (suc m)))) (sym l) ∙ sym e)

    pub asked_two : (n j : ℕ) → 1 < n → j ≡ min (last_not_after o K t n) (n - 2) → false ≡ (o.before t (K 0).t || o.before (K (n - 1)).t t) → false ≡ o.equal t (K 0).t → asked o K n t ≡ Some (between o (K j) (K (j + 1)) t)
    asked_two n j h q e f = asked_inside n (omega arith) e f ∙ around_two n j h q

    pub answer_is : (dim n count : ℕ) (x : Option (List N)) → n ≡ dim → asked o K count t ≡ x → answer o dim (map K (range_with_len 0 count)) n t ≡ x
    answer_is dim n count x e h = ap (λ b. cond b (look_up o (map K (range_with_len 0 count)) t) None) (eq-eqb n dim e) ∙ look_up_is K count t ∙ h

    pub answer_other : (dim n : ℕ) (ks : List (Knot N)) → n ≢ dim → answer o dim ks n t ≡ None
    answer_other dim n ks h = ap (λ b. cond b (look_up o ks t) None) (ne_eqb n dim h)

-- what a list that is asked does, where its answer is known
pub finds : {N : Type 0} (a : Option (List N)) (x old new : List N) → a ≡ Some x → new ≡ x → Fills a (Some tt) old new
finds {N = N} a x old new e h = subst (λ (b : Option (List N)). Fills b (Some tt) old new) (sym e) (refl, h)

pub finds_none : {N : Type 0} (a : Option (List N)) (old : List N) → a ≡ None → Fills a None old old
finds_none {N = N} a old e = subst (λ (b : Option (List N)). Fills b None old old) (sym e) (refl, refl)

pub fills_says : {N : Type 0} (a : Option (List N)) (r : Option (Unit {0})) (old new : List N) → Fills a r old new → (is_some r ≡ is_some a) × (new ≡ unwrap_or a old)
fills_says None r old new h = (ap is_some h.0, h.1)
fills_says (Some u) r old new h = (ap is_some h.0, h.1)
