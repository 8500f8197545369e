use Rattle.std.proofs.Common.{refl}
use lib.Ieee.{of_bits}
use Rattle.scalar.proofs.times.binary32.F32Scalar.eps.Goals as goal

pub returns : goal.returns
unfolding of_bits
returns c = refl
