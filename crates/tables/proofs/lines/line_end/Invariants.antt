use Rattle.std.proofs.Common.{◌-◌, length}
use Rattle.tables.proofs.Breaking.{Unended}
use Rattle.tables.proofs.lines.line_end.Given as goal

abbrev pub invariant-loop-at : goal.invariant-loop-at
invariant-loop-at l = Unended l.text l.at

abbrev pub decreases-loop-at : goal.decreases-loop-at
decreases-loop-at l = length l.text - l.at
