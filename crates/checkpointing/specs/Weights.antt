-- What the terms of the cubic are multiplied by.
use Rattle.std.specs.Prelude.{◌≡◌}
use Rattle.scalar.specs.Ops.{Ops}
use Rattle.checkpointing.specs.declared.hermite.Weights.{Weights}

pub record Weighs {N : Type 0} (o : Ops N) (d θ : N) (w : Weights N) : Type 0 where
  pub theta : w.theta ≡ θ
  pub u0 : w.u0 ≡ o.minus (o.whole 1) θ
  pub q : w.q ≡ o.times θ (o.minus θ (o.whole 1))
  pub f0 : w.f0 ≡ o.times d (o.minus θ (o.whole 1))
  pub du : w.du ≡ o.minus (o.whole 1) (o.times (o.whole 2) θ)
  pub f1 : w.f1 ≡ o.times d θ
