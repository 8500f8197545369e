-- Lanes: the vectors of all channels lie one after the other in a list, each as wide as the others.
use Rattle.std.specs.Prelude.{ℕ, zero, suc, ◌+◌, ◌*◌, List, ◌++◌, take, drop}
use Rattle.scalar.specs.Ops.{Ops}
use Rattle.scalar.specs.Vectors.{placewise, minus_transposed, row_by_row}
use Rattle.adjoint.specs.declared.lanes.Mode.{Mode}
use Rattle.adjoint.specs.declared.lanes.Mode.TheVariants.{Become, Lose, Gain}

-- w numbers from a place on
abbrev pub lane_from : {N : Type 0} → ℕ → ℕ → List N → List N
lane_from a w xs = take w (drop a xs)

-- the part of lane i, of parts that are w wide
abbrev pub lane_of : {N : Type 0} → ℕ → List N → ℕ → List N
lane_of w xs i = lane_from (i * w) w xs

-- the parts of n lanes from lane i on, each with f of its lane
abbrev pub laned : {N : Type 0} → (ℕ → List N → List N) → ℕ → ℕ → ℕ → List N → List N
laned f w i zero xs = xs
laned f w i (suc n) xs = f i (take w xs) ++ laned f w (i + 1) n (drop w xs)

module _ {N : Type 0} (o : Ops N) where
  -- the transposed product, minus sign included, of a matrix that lies row by row and has w columns
  abbrev pub product_of : List N → ℕ → List N → List N
  product_of m w v = minus_transposed o (row_by_row o m w) v w

  -- an entry y becomes, loses or gains an entry x of a product
  abbrev pub combined : Mode → N → N → N
  combined Become y x = x
  combined Lose y x = o.minus y x
  combined Gain y x = o.plus y x

  -- the part of lane i becomes, loses or gains the product with the lane's own vector
  abbrev pub lane_product : Mode → List N → ℕ → ℕ → List N → ℕ → List N → List N
  lane_product mode m w rows vectors i part = placewise (combined mode) part (product_of m w (lane_of rows vectors i))

  -- so each of n lanes
  abbrev pub with_products : Mode → List N → ℕ → ℕ → List N → ℕ → List N → List N
  with_products mode m w rows vectors n parts = laned (lane_product mode m w rows vectors) w 0 n parts
