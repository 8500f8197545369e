use Rattle.std.proofs.Common.{◌≡◌, ◌+◌, drop, pos, ◌≤ℤ◌}
use Rattle.tables.specs.Parts.{joined}
use Rattle.tables.specs.Rides.{segments, steps_of, order_of}
use Rattle.tables.proofs.order.ordered.Given as goal

abbrev pub invariant-loop-k : goal.invariant-loop-k
invariant-loop-k l =
    (pos 0 ≤ℤ l.last) × (l.last ≤ℤ pos l.k) × (order_of l.first (joined l.rows) ≡ steps_of (l.first + 1 + l.k) l.last (segments 0 (joined (drop l.k l.later))))
