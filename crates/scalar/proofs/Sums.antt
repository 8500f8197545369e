-- One term more, and terms that agree.
use Rattle.std.proofs.Common.{◌≡◌, ℕ, zero, suc, ◌+◌, ◌<◌, refl, ap, ◌∙◌, add-one, arith}
use Rattle.scalar.specs.Ops.{Ops}
use Rattle.scalar.specs.Vectors.{sum_to}

module _ {N : Type 0} (o : Ops N) where
  pub sum_more : (f : ℕ → N) (i : ℕ) → sum_to o f (i + 1) ≡ o.plus (sum_to o f i) (f i)
  sum_more f i = ap (sum_to o f) (add-one i)

  pub sum_alike : (f g : ℕ → N) (n : ℕ) → ((i : ℕ) → i < n → f i ≡ g i) → sum_to o f n ≡ sum_to o g n
  sum_alike f g zero h = refl
  sum_alike f g (suc n) h = ap (λ a. o.plus a (f n)) (sum_alike f g n (λ i p. h i (omega arith))) ∙ ap (o.plus (sum_to o g n)) (h n (omega arith))
