use Rattle.std.proofs.Common.{sym}
use Rattle.std.proofs.lemmas.Float.{T_from_true}
use Rattle.scalar.proofs.Orders.{after}
use Rattle.scalar.proofs.order.compare.Goals as goal

pub returns-then-is_before : goal.returns-then-is_before
returns-then-is_before g c = record { which = T_from_true _ (sym c.if-is_before.ensures); order = g.met.N.Scalar.lawful.order }

pub returns-then-is_equal : goal.returns-then-is_equal
returns-then-is_equal g c = record { which = T_from_true _ (sym c.if-is_equal.ensures); order = g.met.N.Scalar.lawful.order }

pub returns-else-is_equal : goal.returns-else-is_equal
returns-else-is_equal g c = record { which = after g.met.N.Scalar.lawful.order c.args.t c.args.u c.if-is_before.ensures c.if-is_equal.ensures; order = g.met.N.Scalar.lawful.order }
