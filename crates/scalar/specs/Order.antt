-- The order of times.
use Rattle.std.specs.Prelude.{◌≡◌, Bool, T, ◌⊎◌}

-- Of two times exactly one of before, equal and after holds; before is transitive; equal times compare alike.
pub record Ordered {M : Type 0} (before equal : M → M → Bool) : Type 0 where
  pub some : (x y : M) → T (before x y) ⊎ (T (equal x y) ⊎ T (before y x))
  pub not_both : (x y : M) → T (before x y) → T (before y x) → ⊥
  pub not_equal : (x y : M) → T (before x y) → T (equal x y) → ⊥
  pub turned : (x y : M) → T (equal x y) → T (equal y x)
  pub trans : (x y z : M) → T (before x y) → T (before y z) → T (before x z)
  pub alike_left : (x y z : M) → T (equal x y) → before x z ≡ before y z
  pub alike_right : (x y z : M) → T (equal x y) → before z x ≡ before z y
