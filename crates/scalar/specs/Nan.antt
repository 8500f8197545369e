-- A NaN's bits. The logic has one NaN, and every operation on numbers speaks of that one alone. In memory it has many bit
-- patterns, and which of them compiled code holds is the one thing that no contract says.
use Rattle.std.specs.Prelude.{◌≡◌, ℕ, T}
use Rattle.std.specs.Float.Ieee as Ieee
use Rattle.std.specs.Float.{Format, nan}

-- n is a bit pattern of a NaN: the exponent's field is all ones, and the field of the digits is not zero.
abbrev pub NanBits : Format → ℕ → Type 0
NanBits f n = T (Ieee.nan_bits f n)

-- What holds of those patterns: they, and no others, are read as the one NaN; and where a NaN is written, one of them is.
pub record OneNan (f : Format) : Type 0 where
  pub reads : (n : ℕ) → NanBits f n → Ieee.of_bits f n ≡ nan
  pub only : (n : ℕ) → Ieee.of_bits f n ≡ nan → NanBits f n
  pub written : NanBits f (Ieee.to_bits f nan)
