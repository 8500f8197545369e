-- A loop over lanes.
use Rattle.std.proofs.Common.{◌≡◌, ℕ, zero, suc, ◌+◌, ◌-◌, ◌*◌, ◌<◌, ◌≤◌, List, [], ◌∷◌, ◌++◌, length, take, drop, sym, refl, ap, ◌∙◌, append_assoc, add-mul, arith}
use borrow.Rule.Slice.PartMut.{put_mid}
use Rattle.std.proofs.lemmas.List.{nil_from_length, take-append-drop, drop-drop, length-take-le, length-drop}
use Rattle.std.proofs.lemmas.Slice.{take-put_mid, drop-put_mid}
use Rattle.scalar.specs.Vectors.{placewise}
use Rattle.adjoint.specs.Lanes.{lane_of, laned}
use Rattle.adjoint.specs.Reset.{joined}

-- what a list becomes that takes over another of its length
pub takes_over : {N : Type 0} (f : N → N → N) → ((y x : N) → f y x ≡ x) → (ys xs : List N) → length ys ≡ length xs → xs ≡ placewise f ys xs
takes_over f g [] [] h = refl
takes_over f g [] (x ∷ xs) h = absurd (omega arith)
takes_over f g (y ∷ ys) [] h = absurd (omega arith)
takes_over f g (y ∷ ys) (x ∷ xs) h = ap (λ z. z ∷ xs) (sym (g y x)) ∙ ap (λ zs. f y x ∷ zs) (takes_over f g ys xs (omega arith))

pub lane_length : {N : Type 0} (xs : List N) (i w : ℕ) → i * w + w ≤ length xs → length (lane_of w xs i) ≡ w
lane_length xs i w h = length-take-le w (drop (i * w) xs) (omega (arith, length-drop (i * w) xs))

module _ {N : Type 0} (f : ℕ → List N → List N) (w n : ℕ) where
  -- the first i lanes are done, the others still to do
  abbrev pub partly : List N → ℕ → List N
  partly xs i = take (i * w) xs ++ laned f w i (n - i) (drop (i * w) xs)

  pub lanes_none : (xs : List N) → partly xs 0 ≡ laned f w 0 n xs
  lanes_none xs =
      let e : 0 * w ≡ 0 = omega arith in
      let m : n - 0 ≡ n = omega arith in
      ap (λ k. take k xs ++ laned f w 0 (n - 0) (drop k xs)) e ∙ ap (λ k. laned f w 0 k xs) m

  pub lane_more : (xs ys : List N) (i : ℕ) → i < n → i * w + w ≤ length xs → length (f i (lane_of w xs i)) ≡ w → ys ≡ put_mid (i * w) w xs (f i (lane_of w xs i)) → partly ys (i + 1) ≡ partly xs i
  lane_more xs ys i h room long e =
      let a : ℕ = i * w in
      let y : List N = f i (lane_of w xs i) in
      let next : (i + 1) * w ≡ a + w = omega (arith, add-mul i 1 w) in
      let m : ℕ = n - (i + 1) in
      let left : n - i ≡ suc m = omega arith in
      ap (λ zs. partly zs (i + 1)) e
      ∙ ap (λ k. take k (put_mid a w xs y) ++ laned f w (i + 1) m (drop k (put_mid a w xs y))) next
      ∙ ap (λ zs. zs ++ laned f w (i + 1) m (drop (a + w) (put_mid a w xs y))) (take-put_mid a w xs y (a + w) (omega arith) (omega arith))
      ∙ ap (λ zs. (take a xs ++ y) ++ laned f w (i + 1) m zs) (drop-put_mid a w xs y (a + w) (omega arith) (omega arith) long)
      ∙ append_assoc (take a xs) y (laned f w (i + 1) m (drop (a + w) xs))
      ∙ ap (λ zs. take a xs ++ (y ++ laned f w (i + 1) m zs)) (sym (drop-drop w a xs))
      ∙ ap (λ k. take a xs ++ laned f w i k (drop a xs)) (sym left)

  pub lanes_all : (xs : List N) (i : ℕ) → n ≤ i → partly xs i ≡ xs
  lanes_all xs i h =
      let none : n - i ≡ 0 = omega arith in
      ap (λ k. take (i * w) xs ++ laned f w i k (drop (i * w) xs)) none ∙ take-append-drop (i * w) xs

-- lanes that take nothing over from what was there
pub lanes_joined : {N : Type 0} (f : ℕ → List N) (w : ℕ) (i n : ℕ) (xs : List N) → length xs ≡ n * w → laned (λ j _. f j) w i n xs ≡ joined f i n
lanes_joined f w i zero xs h = nil_from_length xs (omega arith)
lanes_joined f w i (suc n) xs h = ap (λ zs. f i ++ zs) (lanes_joined f w (i + 1) n (drop w xs) (omega (arith, length-drop w xs, add-mul n 1 w)))
