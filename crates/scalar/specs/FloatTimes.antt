-- Finite values as times, for any type that is made of a finite value and the proof that it is finite.
use Rattle.std.specs.Prelude.{◌≡◌, ℕ, Bool, true, false, T, Some, None, refl, Float}
use Rattle.std.proofs.Common.{ap, sym, subst, ◌∙◌, arith}
use Rattle.std.proofs.Math.Dec.{T_prop}
use Rattle.std.specs.Float.{Format}
use Rattle.std.specs.Float.Ieee.{le}
use Rattle.std.proofs.lemmas.Bool.{both_ways}
use Rattle.std.specs.Float as Floats
use lib.Ieee.Bits.{is_true}
use Rattle.scalar.specs.Kind.{Lawful}
use Rattle.scalar.specs.Floats.{timed, float_ops, float_kind}
use Rattle.scalar.specs.FloatOrder.{float_order}

module _ {M : Type 0} (make : (v : Float) → T (Floats.float_is_finite v) → M) (value : M → Float) (ok : (t : M) → T (Floats.float_is_finite (value t))) (made : (t : M) → t ≡ make (value t) (ok t)) (back : (v : Float) (o : T (Floats.float_is_finite v)) → value (make v o) ≡ v) where
  at_own : (t : M) (p : Floats.float_is_finite (value t) ≡ true) → Some t ≡ timed make (value t) true p
  at_own t p = ap Some (made t ∙ ap (make (value t)) (T_prop (Floats.float_is_finite (value t)) (ok t) _))

  pub some_is : (t : M) (v : Float) → value t ≡ v → (b : Bool) (p : Floats.float_is_finite v ≡ b) → Floats.float_is_finite v ≡ true → Some t ≡ timed make v b p
  some_is t v e true p h = let P : Float → Type 0 = λ w. (q : Floats.float_is_finite w ≡ true) → Some t ≡ timed make w true q in subst P e (at_own t) p
  some_is t v e false p h = absurd (both_ways _ p h)

  pub none_is : (v : Float) (b : Bool) (p : Floats.float_is_finite v ≡ b) → Floats.float_is_finite v ≡ false → None ≡ timed make v b p
  none_is v true p h = absurd (both_ways _ h p)
  none_is v false p h = refl

  value_at : (v : Float) (t : M) (b : Bool) (p : Floats.float_is_finite v ≡ b) → timed make v b p ≡ Some t → value t ≡ v
  value_at v t true p e = let z : make v (subst T (sym p) tt) ≡ t = cc in sym (ap value z) ∙ back v _
  value_at v t false p e = let z : ◌≡◌ {A = ℕ} 0 1 = cc in absurd (omega arith)

  value_is : (v : Float) (t : M) → timed make v (Floats.float_is_finite v) refl ≡ Some t → value t ≡ v
  value_is v t e = value_at v t (Floats.float_is_finite v) refl e

  time_back : (t : M) → timed make (value t) (Floats.float_is_finite (value t)) refl ≡ Some t
  time_back t = sym (some_is t (value t) refl (Floats.float_is_finite (value t)) refl (is_true (Floats.float_is_finite (value t)) (ok t)))

  -- both formats are number kinds
  pub float_lawful : (f : Format) (e r : Float) → Lawful (float_kind (float_ops f e r) make value)
  unfolding le
  float_lawful f e r = record { order = float_order value ok; at_most = λ t u. refl; value_of = value_is; time_of = time_back }
