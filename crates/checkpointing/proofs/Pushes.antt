-- One knot more, in the row after the others.
use Rattle.std.proofs.Common.{◌≡◌, ℕ, zero, suc, ◌+◌, ◌-◌, ◌*◌, ◌<◌, ◌≤◌, List, [], ◌∷◌, ◌++◌, map, length, take, drop, refl, ap, ◌∙◌, arith}
use lib.Seq.{paste}
use Rattle.std.specs.List.{range_with_len}
use Rattle.std.proofs.lemmas.List.{take_at, drop_at, take_all, take-append-le, drop-append-le, take-take, drop-take, length-take-le, length-append, length-drop, append_assoc}
use Rattle.std.proofs.lemmas.List.FromFn.{map-range_with_len_more}
use Rattle.scalar.specs.Ops.{Ops}
use Rattle.scalar.proofs.Rows.{row_within}
use Rattle.checkpointing.specs.Knots.{knot_of, row_at, knot_at, knots}

map_alike : {X : Type 0} (f g : ℕ → X) (a n : ℕ) → ((i : ℕ) → i < a + n → f i ≡ g i) → map f (range_with_len a n) ≡ map g (range_with_len a n)
map_alike f g a zero h = refl
map_alike f g a (suc n) h = ap (λ x. x ∷ map f (range_with_len (a + 1) n)) (h a (omega arith)) ∙ ap (λ xs. g a ∷ xs) (map_alike f g (a + 1) n (λ i p. h i (omega arith)))

module _ {N : Type 0} (o : Ops N) (dim : ℕ) where
  -- the new row, and the rows before it
  module _ (rows row : List N) (n w : ℕ) (long : length row ≡ w) (room : n * w + w ≤ length rows) where
    front : length (take (n * w) rows) ≡ n * w
    front = length-take-le (n * w) rows (omega arith)

    pub row_new : row_at o w (paste rows (n * w) row w) n ≡ row
    row_new =
        ap (λ xs. take w (drop (n * w) xs)) (append_assoc (take (n * w) rows) (take w row) (drop (n * w + w) rows))
        ∙ ap (take w) (drop_at (take (n * w) rows) (take w row ++ drop (n * w + w) rows) (n * w) front)
        ∙ take_at (take w row) (drop (n * w + w) rows) w (length-take-le w row (omega arith))
        ∙ take_all w row (omega arith)

    pub row_old : (k : ℕ) → k < n → row_at o w (paste rows (n * w) row w) k ≡ row_at o w rows k
    row_old k h =
        let in_n : k * w + w ≤ n * w = row_within k n w h in
        let m : ℕ = n * w - k * w in
        let split : n * w ≡ k * w + m = omega arith in
        let rest : List N = take w row ++ drop (n * w + w) rows in
        let left : length (drop (k * w) (take (n * w) rows)) ≡ m = length-drop (k * w) (take (n * w) rows) ∙ ap (λ l. l - k * w) front in
        ap (λ xs. take w (drop (k * w) xs)) (append_assoc (take (n * w) rows) (take w row) (drop (n * w + w) rows))
        ∙ ap (take w) (drop-append-le (k * w) (take (n * w) rows) rest (omega (arith, front)))
        ∙ take-append-le w (drop (k * w) (take (n * w) rows)) rest (omega (arith, left))
        ∙ ap (λ l. take w (drop (k * w) (take l rows))) split
        ∙ ap (take w) (drop-take (k * w) m rows)
        ∙ take-take w m (drop (k * w) rows) (omega arith)

  made : (t : N) (u f : List N) → length u ≡ dim → knot_of o dim (t ∷ (u ++ f)) ≡ record { t = t; u = u; f = f }
  made t u f e =
      let s : 1 + dim ≡ suc dim = omega arith in
      ap (λ x. record { t = t; u = x; f = drop (1 + dim) (t ∷ (u ++ f)) }) (take_at u f dim e)
      ∙ ap (λ x. record { t = t; u = u; f = x }) (ap (λ k. drop k (t ∷ (u ++ f))) s ∙ drop_at u f dim e)

  pub knots_more : (rows : List N) (n : ℕ) (t : N) (u f : List N) → length u ≡ dim → length f ≡ dim → n * (1 + 2 * dim) + (1 + 2 * dim) ≤ length rows
      → knots o dim (paste rows (n * (1 + 2 * dim)) (t ∷ (u ++ f)) (1 + 2 * dim)) (n + 1) ≡ knots o dim rows n ++ record { t = t; u = u; f = f } ∷ []
  knots_more rows n t u f p q room =
      let w : ℕ = 1 + 2 * dim in
      let row : List N = t ∷ (u ++ f) in
      let long : length row ≡ w = omega (arith, length-append u f) in
      let new : List N = paste rows (n * w) row w in
      map-range_with_len_more (knot_at o dim new) 0 n n (omega arith)
      ∙ ap (λ x. map (knot_at o dim new) (range_with_len 0 n) ++ x ∷ []) (ap (knot_of o dim) (row_new rows row n w long room) ∙ made t u f p)
      ∙ ap (λ xs. xs ++ record { t = t; u = u; f = f } ∷ []) (map_alike (knot_at o dim new) (knot_at o dim rows) 0 n (λ k h. ap (knot_of o dim) (row_old rows row n w long room k (omega arith))))
