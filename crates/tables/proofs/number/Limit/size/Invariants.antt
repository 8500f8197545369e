use Rattle.std.proofs.Common.{◌≡◌, ◌+◌, min, drop}
use Rattle.tables.specs.Numbers.{digits, decimal}
use Rattle.tables.proofs.number.Limit.size.Given as goal

abbrev pub invariant-loop-b : goal.invariant-loop-b
invariant-loop-b l =
    (digits (drop l.b-index l.digits) ≡ digits l.digits)
    × (min (decimal l.n (drop l.b-index l.digits)) (l.self.most + 1) ≡ min (decimal 0 l.digits) (l.self.most + 1))
