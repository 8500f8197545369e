-- The root that is crossed.
use Rattle.std.proofs.Common.{◌≡◌, ℕ, ◌<◌, Bool, true, false, cond, ltb, Some, None, Ok, Err, Option, Result, sym, refl, subst}
use Rattle.std.proofs.lemmas.Bool.{ltb-true}
use Rattle.scalar.specs.Ops.{Ops}
use Rattle.equations.specs.Model.{Model}
use Rattle.adjoint.specs.declared.faults.RuleFault.{RuleFault}
use Rattle.adjoint.specs.declared.faults.RuleFault.TheVariants.{NoReset, NoRoot, RootIndex}
use Rattle.adjoint.specs.Reset.{rooted}

-- the root that is crossed is one of the model's
pub root_below : {N T F : Type 0} (o : Ops N) (m : Model N T F) (segment : ℕ) (root : Option ℕ) (r : ℕ) → Ok r ≡ rooted o m segment root → r < m.roots
root_below {N} {T} {F} o m segment None r h = cc
root_below {N} {T} {F} o m segment (Some i) r h = resets_first m.resets (ltb 0 m.roots) (ltb i m.roots) refl h
  where
    resets_first : (a b c : Bool) → ltb i m.roots ≡ c → ◌≡◌ {A = Result ℕ (RuleFault F)} (Ok r) (cond a (cond b (cond c (Ok i) (Err (RootIndex i))) (Err (NoRoot segment))) (Err (NoReset segment))) → r < m.roots
    resets_first true true true e h = let same : r ≡ i = cc in subst (λ (k : ℕ). k < m.roots) (sym same) (ltb-true i m.roots e)
    resets_first true true false e h = cc
    resets_first true false c e h = cc
    resets_first false b c e h = cc
