use Rattle.std.proofs.Common.{◌≡◌}
use Rattle.scalar.specs.Vectors.{placewise}
use Rattle.scalar.proofs.Placewise.{partly}
use Rattle.scalar.proofs.vectors.combine.Given as goal

abbrev pub invariant-loop-i : goal.invariant-loop-i
invariant-loop-i g l = (op : _ → _ → _) → ((y x r : _) → goal.F-post g l.f y x r → r ≡ op y x) → partly op l.ys l.xs l.i ≡ placewise op l.initial.ys l.xs
