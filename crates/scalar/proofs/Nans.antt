-- Which patterns are a NaN's, in both formats.
use Rattle.std.proofs.Common.{◌≡◌, T, sym, refl, ap, ◌∙◌, subst}
use lib.Ieee.{Float, Format, binary32, binary64, nan, inf, fin, is_nan, nan_bits, of_bits, to_bits}
use lib.Ieee.Bits.{nan_bits_is}
use Rattle.scalar.specs.Nan.{OneNan}

is_nan_lem : (x : Float) → T (is_nan x) → x ≡ nan
unfolding is_nan
is_nan_lem nan h = refl
is_nan_lem (inf s) h = absurd h
is_nan_lem (fin s m e) h = absurd h

nan_is : T (is_nan nan)
unfolding is_nan
nan_is = tt

written_64 : T (nan_bits binary64 (to_bits binary64 nan))
unfolding nan_bits to_bits
written_64 = tt

written_32 : T (nan_bits binary32 (to_bits binary32 nan))
unfolding nan_bits to_bits
written_32 = tt

written : (f : Format) → T (nan_bits f (to_bits f nan))
written binary64 = written_64
written binary32 = written_32

pub one_nan : (f : Format) → OneNan f
one_nan f = record {
  reads = λ n h. is_nan_lem (of_bits f n) (subst T (nan_bits_is f n) h);
  only = λ n e. subst T (sym (nan_bits_is f n ∙ ap is_nan e)) nan_is;
  written = written f;
}
