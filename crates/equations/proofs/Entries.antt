-- Places of a matrix, by row and column.
use Rattle.std.proofs.Common.{◌≡◌, ℕ, ◌+◌, ◌*◌, ◌/◌, ◌%◌, ◌<◌, ◌≢◌, sym, ap, ◌∙◌, add-mul, arith}
use Rattle.std.proofs.lemmas.Nat.{div-add-mod'}
use Rattle.std.proofs.Math.Nat.{mod-lt}
use lib.Arith.{digits_div, digits_mod}

-- the place after k, of a matrix with c columns
module _ (c k : ℕ) (some : 0 < c) where
  place_is : (i j : ℕ) → j < c → i * c + j ≡ k + 1 → (i ≡ (k + 1) / c) × (j ≡ (k + 1) % c)
  place_is i j within e = (sym (digits_div i within) ∙ ap (λ n. n / c) e, sym (digits_mod i within) ∙ ap (λ n. n % c) e)

  pub next_row : k % c + 1 ≡ c → (k / c + 1 ≡ (k + 1) / c) × (0 ≡ (k + 1) % c)
  next_row e = place_is (k / c + 1) 0 some (omega (arith, add-mul (k / c) 1 c, div-add-mod' k c))

  pub next_column : k % c + 1 ≢ c → (k / c ≡ (k + 1) / c) × (k % c + 1 ≡ (k + 1) % c)
  next_column e = place_is (k / c) (k % c + 1) (omega (arith, mod-lt k some)) (omega (arith, div-add-mod' k c))
