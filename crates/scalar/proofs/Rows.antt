-- A matrix that lies row by row: where a row ends, and what is read there.
use Rattle.std.proofs.Common.{◌≡◌, ℕ, ◌+◌, ◌-◌, ◌*◌, ◌<◌, ◌≤◌, min, List, length, take, drop, ap, ◌∙◌, mul-le-mul_right, arith}
use Rattle.std.proofs.lemmas.List.{get_or-take, get_or-drop, length-take-le, length-drop}
use Rattle.scalar.specs.Ops.{Ops}
use Rattle.scalar.specs.Vectors.{at, sum_to, dot_of, row_times, row_by_row}
use Rattle.scalar.proofs.Sums.{sum_alike}

-- row i of r rows ends within them
pub row_within : (i r w : ℕ) → i < r → i * w + w ≤ r * w
row_within i r w h = omega (arith, mul-le-mul_right w h)

-- the sum over a row is the dot product with that part of the list
pub row_dot : {N : Type 0} (o : Ops N) (m v : List N) (w i : ℕ) → length v ≡ w → i * w + w ≤ length m → dot_of o (take ((i * w + w) - i * w) (drop (i * w) m)) v ≡ row_times o (row_by_row o m w) v i
unfolding dot_of
row_dot o m v w i e h =
    let a : ℕ = i * w in
    let part : List _ = take ((a + w) - a) (drop a m) in
    let n : length part ≡ w = length-take-le ((a + w) - a) (drop a m) (omega (arith, length-drop a m)) ∙ (omega arith) in
    let both : min (length part) (length v) ≡ length v = omega arith in
    ap (sum_to o (λ j. o.times (at o part j) (at o v j))) both
    ∙ sum_alike o (λ j. o.times (at o part j) (at o v j)) (λ j. o.times (row_by_row o m w i j) (at o v j)) (length v)
    (λ j p. ap (λ x. o.times x (at o v j)) (get_or-take ((a + w) - a) (drop a m) j (o.whole 0) (omega arith) ∙ get_or-drop a m j (o.whole 0)))
