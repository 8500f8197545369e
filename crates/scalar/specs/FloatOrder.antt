-- Finite floats are in order, in both formats at once.
use Rattle.std.specs.Prelude.{◌≡◌, Bool, T, Float}
use Rattle.std.proofs.Common.{◌⊎◌, inl, inr}
use Rattle.std.specs.Float.Ieee.{lt, eq}
use Rattle.std.specs.Float.{float_is_finite, NotNan, nan, inf, fin}
use Rattle.std.specs.Cmp.{both_ways}
use Rattle.std.proofs.lemmas.Bool.{cases_Bool}
use Rattle.std.proofs.lemmas.Float.{T_from_true, T_from_false, lt_irrefl, lt_trans, le_of_eq, le_of_not-lt, lt-or-eq, lt_of_lt_of_le, lt_of_le_of_lt, eq_flip, eq-not_lt}
use lib.Ieee.{is_nan}
use lib.Ieee.Bits.{is_true}
use Rattle.scalar.specs.Order.{Ordered}

not_nan : (x : Float) → T (float_is_finite x) → NotNan x
unfolding float_is_finite is_nan
not_nan nan p = absurd p
not_nan (inf s) p = absurd p
not_nan (fin s m e) p = tt

alike : (a b : Bool) → (T a → T b) → (T b → T a) → a ≡ b
alike a b f g = both_ways a b (λ e. is_true b (f (T_from_true a e))) (λ e. is_true a (g (T_from_true b e)))

some : (x y : Float) → T (float_is_finite x) → T (float_is_finite y) → T (lt x y) ⊎ (T (eq x y) ⊎ T (lt y x))
some x y p q = elim (cases_Bool (lt x y)) [
  | inl e ↦ inl (T_from_true (lt x y) e)
  | inr e ↦ elim (lt-or-eq y x (le_of_not-lt x y (not_nan x p) (not_nan y q) (T_from_false (lt x y) e))) [ inl l ↦ inr (inr l) | inr s ↦ inr (inl (eq_flip y x s)) ]
]

-- any type of finite floats
module _ {M : Type 0} (value : M → Float) (ok : (x : M) → T (float_is_finite (value x))) where
  pub float_order : Ordered (λ (x y : M). lt (value x) (value y)) (λ (x y : M). eq (value x) (value y))
  float_order = record {
    some = λ a b. some (value a) (value b) (ok a) (ok b);
    not_both = λ a b h k. lt_irrefl (value a) (lt_trans (value a) (value b) (value a) h k);
    not_equal = λ a b h k. eq-not_lt (value a) (value b) k h;
    turned = λ a b. eq_flip (value a) (value b);
    trans = λ a b c. lt_trans (value a) (value b) (value c);
    alike_left = λ a b c e.
        let x = value a in
        let y = value b in
        let z = value c in
        alike (lt x z) (lt y z) (lt_of_le_of_lt y x z (le_of_eq y x (eq_flip x y e))) (lt_of_le_of_lt x y z (le_of_eq x y e));
    alike_right = λ a b c e.
        let x = value a in
        let y = value b in
        let z = value c in
        alike (lt z x) (lt z y) (λ h. lt_of_lt_of_le z x y h (le_of_eq x y e)) (λ h. lt_of_lt_of_le z y x h (le_of_eq y x (eq_flip x y e)));
  }
