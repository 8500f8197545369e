-- Cubic Hermite interpolation, after Hairer, Nørsett and Wanner, each operation in its place.
use Rattle.std.specs.Prelude.{ℕ, zero, suc, ◌+◌, ◌*◌, min, cond, ◌||◌, List, [], map, length, take, drop, Some, None, Option, ◌==◌, slice_index_or}
use Rattle.std.specs.List.{range_with_len}
use Rattle.scalar.specs.Ops.{Ops}
use Rattle.scalar.specs.Vectors.{at}

-- a knot: the state u and the slope f at a time t
pub record Knot (N : Type 0) : Type 0 where
  pub t : N
  pub u : List N
  pub f : List N

module _ {N : Type 0} (o : Ops N) where
  -- where t lies between t0 and t1
  abbrev pub share : N → N → N → N
  share t0 t1 t = o.over (o.minus t t0) (o.minus t1 t0)

  -- q = (d(θ-1)·f0 + (1-2θ)(u1-u0)) + dθ·f1
  abbrev pub inner : N → N → N → N → N → N → N
  inner d θ u0 f0 u1 f1 =
      o.plus
      (o.plus (o.times (o.times d (o.minus θ (o.whole 1))) f0) (o.times (o.minus (o.whole 1) (o.times (o.whole 2) θ)) (o.minus u1 u0)))
      (o.times (o.times d θ) f1)

  -- ((1-θ)·u0 + θ(θ-1)·q) + θ·u1
  abbrev pub cubic : N → N → N → N → N → N → N
  cubic d θ u0 f0 u1 f1 =
      o.plus
      (o.plus (o.times (o.minus (o.whole 1) θ) u0) (o.times (o.times θ (o.minus θ (o.whole 1))) (inner d θ u0 f0 u1 f1)))
      (o.times θ u1)

  abbrev pub hermite : N → N → N → N → N → N → N → N
  hermite t0 u0 f0 t1 u1 f1 t = cubic (o.minus t1 t0) (share t0 t1 t) u0 f0 u1 f1

  -- the state at t between two knots, entry by entry
  unfoldable pub between : Knot N → Knot N → N → List N
  between a b t = map (λ i. hermite a.t (at o a.u i) (at o a.f i) b.t (at o b.u i) (at o b.f i) t) (range_with_len 0 (length a.u))

  -- Knots numbered from 0: of the first n the last that is not after t, or the first where there is none.
  abbrev pub last_not_after : (ℕ → Knot N) → N → ℕ → ℕ
  last_not_after K t zero = 0
  last_not_after K t (suc n) = cond (o.before t (K n).t) (last_not_after K t n) n

  -- t lies between the last knot not after it and the next, or the last two; one knot alone has no next
  abbrev pub around : (ℕ → Knot N) → ℕ → N → Option (List N)
  around K zero t = None
  around K (suc zero) t = None
  around K (suc (suc n)) t = let j = min (last_not_after K t (suc (suc n))) n in Some (between (K j) (K (j + 1)) t)

  -- Knots answer times within their ends, the first knot as stored.
  abbrev pub asked : (ℕ → Knot N) → ℕ → N → Option (List N)
  asked K zero t = None
  asked K (suc n) t = cond (o.before t (K 0).t || o.before (K n).t t) None (cond (o.equal t (K 0).t) (Some (K 0).u) (around K (suc n) t))

  abbrev pub nth : List (Knot N) → ℕ → Knot N
  nth ks i = slice_index_or ks i (record { t = o.whole 0; u = []; f = [] })

  unfoldable pub look_up : List (Knot N) → N → Option (List N)
  look_up ks t = asked (nth ks) (length ks) t

  -- a knot as a row of numbers: its time, its state of `dim` entries, its slope
  abbrev pub knot_of : ℕ → List N → Knot N
  knot_of dim row = record { t = at o row 0; u = take dim (drop 1 row); f = drop (1 + dim) row }

  -- the row k of rows that are w wide
  abbrev pub row_at : ℕ → List N → ℕ → List N
  row_at w rows k = take w (drop (k * w) rows)

  -- knots lie one after the other in a list of numbers: the knot k, and the first `count` knots
  abbrev pub knot_at : ℕ → List N → ℕ → Knot N
  knot_at dim rows k = knot_of dim (row_at (1 + 2 * dim) rows k)

  abbrev pub knots : ℕ → List N → ℕ → List (Knot N)
  knots dim rows count = map (knot_at dim rows) (range_with_len 0 count)

  -- what a list of states with `dim` entries answers where there is room for n: no answer where n is another number
  abbrev pub answer : ℕ → List (Knot N) → ℕ → N → Option (List N)
  answer dim ks n t = cond (n == dim) (look_up ks t) None
