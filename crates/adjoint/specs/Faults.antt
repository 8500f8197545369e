-- Number and values of each refusal of a rule; a model's own is passed on.
use Rattle.std.specs.Prelude.{ℕ, List, [], ◌∷◌, refl}
use Rattle.std.proofs.Common.{inl, inr}
use Rattle.refusals.specs.Told.{Told, Among, Value.count, size_told}
use Rattle.adjoint.specs.declared.faults.RuleFault.{RuleFault}
use Rattle.adjoint.specs.declared.faults.RuleFault.TheVariants.{Size, NoRootIndex, NoReset, NoRoot, RootIndex, SmallDenominator, Model}

abbrev pub rule_told : {T F : Type 0} → (F → Told T) → RuleFault F → Told T
rule_told model (Size w) = size_told w
rule_told model (NoRootIndex segment) = record { number = 9; values = count segment ∷ [] }
rule_told model (NoReset segment) = record { number = 10; values = count segment ∷ [] }
rule_told model (NoRoot segment) = record { number = 11; values = count segment ∷ [] }
rule_told model (RootIndex r) = record { number = 12; values = count r ∷ [] }
rule_told model SmallDenominator = record { number = 13; values = count 0 ∷ [] }
rule_told model (Model e) = model e

-- a rule tells one of these numbers, or one of the model's
pub listed : {T F : Type 0} (model : F → Told T) (numbers : List ℕ) → ((e : F) → Among numbers (model e).number)
    → (e : RuleFault F) → Among (1 ∷ 9 ∷ 10 ∷ 11 ∷ 12 ∷ 13 ∷ numbers) (rule_told model e).number
listed model numbers h (Size w) = inl refl
listed model numbers h (NoRootIndex segment) = inr (inl refl)
listed model numbers h (NoReset segment) = inr (inr (inl refl))
listed model numbers h (NoRoot segment) = inr (inr (inr (inl refl)))
listed model numbers h (RootIndex r) = inr (inr (inr (inr (inl refl))))
listed model numbers h SmallDenominator = inr (inr (inr (inr (inr (inl refl)))))
listed model numbers h (Model e) = inr (inr (inr (inr (inr (inr (h e))))))
