use Rattle.std.proofs.Common.{refl}
use lib.Ieee.{to_bits}
use Rattle.scalar.proofs.Nans.{one_nan}
use Rattle.scalar.proofs.nan.nan_bits.Goals as goal

pub returns : goal.returns
unfolding to_bits
returns c = record { bits = refl; one = (one_nan _, one_nan _) }
