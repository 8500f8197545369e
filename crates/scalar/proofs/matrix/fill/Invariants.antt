use Rattle.std.proofs.Common.{◌≡◌, map, take}
use Rattle.std.specs.List.{range_with_len}
use Rattle.scalar.proofs.matrix.fill.Given as goal

abbrev pub invariant-loop-i : goal.invariant-loop-i
invariant-loop-i g l = (entry : _ → _) → ((i : _) (r : _) → goal.F-post g l.f i r → r ≡ entry i) → take l.i l.out ≡ map entry (range_with_len 0 l.i)
