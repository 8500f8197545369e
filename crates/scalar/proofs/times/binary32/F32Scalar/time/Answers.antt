use Rattle.std.proofs.Common.{sym, refl}
use Rattle.scalar.specs.FloatTimes.{some_is, none_is}
use Rattle.scalar.proofs.times.binary32.F32Scalar.time.Goals as goal

pub returns-then-is_finite : goal.returns-then-is_finite
returns-then-is_finite c = some_is _ (λ t. t.value) (λ t. t.ok) (λ t. refl) (λ v o. refl) _ c.args.self refl _ refl (sym c.if-is_finite.ensures.value)

pub returns-else-is_finite : goal.returns-else-is_finite
returns-else-is_finite c = none_is _ (λ t. t.value) (λ t. t.ok) (λ t. refl) (λ v o. refl) c.args.self _ refl (sym c.if-is_finite.ensures.value)
