-- What a number kind computes with: each operation a function of its operands alone.
use Rattle.std.specs.Prelude.{ℕ, Bool}

-- `before`, `equal` and `at_most` are tests that may all fail, as at a NaN; `at_most` is no shorthand for the other two.
-- `whole n` is the kind's value nearest to n; `root_eps` stands for the square root of `eps`.
pub record Ops (N : Type 0) : Type 0 where
  pub plus : N → N → N
  pub minus : N → N → N
  pub times : N → N → N
  pub over : N → N → N
  pub negated : N → N
  pub abs : N → N
  pub before : N → N → Bool
  pub equal : N → N → Bool
  pub at_most : N → N → Bool
  pub whole : ℕ → N
  pub eps : N
  pub root_eps : N
