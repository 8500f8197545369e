-- Knots as rows of one width.
use Rattle.std.proofs.Common.{◌≡◌, suc, ◌+◌, ◌-◌, ◌≤◌, List, [], ◌∷◌, ◌++◌, length, drop, set, arith, rules}
use borrow.Rule.Slice.PartMut.{put_mid}
use Rattle.std.proofs.lemmas.Slice.{overwrites}
use Rattle.std.proofs.lemmas.List.{length-drop}

-- a row that is written by its parts
pub row_made : {N : Type 0} (row u f y z : List N) (t : N) → y ≡ u → z ≡ f → length row ≡ 1 + length u + length f
    → put_mid (1 + length u) (length row - (1 + length u)) (put_mid 1 (1 + length u - 1) (set row 0 t) y) z ≡ t ∷ (u ++ f)
row_made [] u f y z t p q n = absurd (omega arith)
row_made (x ∷ xs) u f y z t p q n =
    let a : 1 + length u ≡ suc (length u) = omega arith in
    let b : suc (length u) - 1 ≡ length u = omega arith in
    let c : length (x ∷ xs) - suc (length u) ≡ length f = omega arith in
    let d : length (drop (length u) xs) ≤ length f = simp length-drop (omega arith) in
    rw (p, q, a) (rw (b, c) (search (rules, overwrites)))
