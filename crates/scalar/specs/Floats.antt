-- The two binary formats as number kinds: they round to nearest, and their finite values are times.
use Rattle.std.specs.Prelude.{◌≡◌, Bool, true, false, T, pos, negsuc, Some, None, Option, refl, Float}
use Rattle.std.proofs.Common.{sym, subst}
use Rattle.std.specs.Float.Ieee as Ieee
use Rattle.std.specs.Float.{Format, fin}
use Rattle.std.specs.Float as Floats
use Rattle.scalar.specs.Ops.{Ops}
use Rattle.scalar.specs.Kind.{Kind}
use Rattle.scalar.specs.declared.times.Finite64.{Finite64}
use Rattle.scalar.specs.declared.times.Finite32.{Finite32}

abbrev pub float_ops : Format → Float → Float → Ops Float
float_ops f e r = record {
  plus = Ieee.add f;
  minus = Ieee.sub f;
  times = Ieee.mul f;
  over = Ieee.div f;
  negated = Ieee.neg;
  abs = Floats.float_with_sign false;
  before = Ieee.lt;
  equal = Ieee.eq;
  at_most = Ieee.le;
  whole = λ n. Ieee.of_int f (pos n);
  eps = e;
  root_eps = r;
}

-- 2 ^ -52 and 2 ^ -26
abbrev pub ops64 : Ops Float
ops64 = float_ops Ieee.binary64 (fin false 1 (negsuc 51)) (fin false 1 (negsuc 25))

-- 2 ^ -23, and the value of this format nearest to its root
abbrev pub ops32 : Ops Float
ops32 = float_ops Ieee.binary32 (fin false 1 (negsuc 22)) (Ieee.of_bits Ieee.binary32 0x39B504F3)

-- The time that a value is, where times are made from finite values: `b` says whether it is finite.
abbrev pub timed : {M : Type 0} → ((v : Float) → T (Floats.float_is_finite v) → M) → (v : Float) (b : Bool) → Floats.float_is_finite v ≡ b → Option M
timed make v true p = Some (make v (subst T (sym p) tt))
timed make v false p = None

-- Times are made by `make` from a finite value, and `value` answers that value again.
abbrev pub float_kind : {M : Type 0} → Ops Float → ((v : Float) → T (Floats.float_is_finite v) → M) → (M → Float) → Kind Float M
float_kind o make value = record { ops = o; time = λ v. timed make v (Floats.float_is_finite v) refl; value = value }

abbrev pub kind64 : Kind Float Finite64
kind64 = float_kind ops64 (λ v o. record { value = v; ok = o }) (λ t. t.value)

abbrev pub kind32 : Kind Float Finite32
kind32 = float_kind ops32 (λ v o. record { value = v; ok = o }) (λ t. t.value)
