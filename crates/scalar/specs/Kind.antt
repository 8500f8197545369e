-- A number kind: its operations, and which of its values are times.
use Rattle.std.specs.Prelude.{◌≡◌, suc, Bool, ◌||◌, ℤ, pos, negsuc, Some, Option}
use Rattle.scalar.specs.Ops.{Ops}
use Rattle.scalar.specs.Order.{Ordered}

-- `time` answers the time that a number is, if it is one, and `value` the number of a time.
pub record Kind (N T : Type 0) : Type 0 where
  pub ops : Ops N
  pub time : N → Option T
  pub value : T → N

-- Times are compared by their numbers.
abbrev pub before : {N T : Type 0} → Kind N T → T → T → Bool
before k t u = k.ops.before (k.value t) (k.value u)

abbrev pub equal : {N T : Type 0} → Kind N T → T → T → Bool
equal k t u = k.ops.equal (k.value t) (k.value u)

-- What every kind shows: its times are in order, `at_most` agrees with that order on times, and number and time name each other.
pub record Lawful {N T : Type 0} (k : Kind N T) : Type 0 where
  pub order : Ordered (before k) (equal k)
  pub at_most : (t u : T) → k.ops.at_most (k.value t) (k.value u) ≡ (before k t u || equal k t u)
  pub value_of : (x : N) (t : T) → k.time x ≡ Some t → k.value t ≡ x
  pub time_of : (t : T) → k.time (k.value t) ≡ Some t

-- A whole number of either sign.
abbrev pub integer : {N : Type 0} → Ops N → ℤ → N
integer o (pos n) = o.whole n
integer o (negsuc n) = o.negated (o.whole (suc n))
