use Rattle.std.proofs.Common.{refl}
use Rattle.worked.proofs.Table.{worked}
use Rattle.worked.proofs.worked_examples.Goals as goal

pub returns : goal.returns
returns c = record { rows = refl; hold = worked }
