-- What a time is that is neither before nor equal.
use Rattle.std.proofs.Common.{◌≡◌, Bool, false, T, sym, inl, inr}
use Rattle.std.proofs.lemmas.Bool.{both_ways}
use lib.Ieee.Bits.{is_true}
use Rattle.scalar.specs.Order.{Ordered}

fails : (b : Bool) → false ≡ b → T b → ⊥
fails b e h = both_ways b (sym e) (is_true b h)

module _ {M : Type 0} {before equal : M → M → Bool} (o : Ordered before equal) where
  pub after : (x y : M) → false ≡ before x y → false ≡ equal x y → T (before y x)
  after x y p q = elim (o.some x y) [ inl h ↦ absurd (fails (before x y) p h) | inr (inl h) ↦ absurd (fails (equal x y) q h) | inr (inr h) ↦ h ]
