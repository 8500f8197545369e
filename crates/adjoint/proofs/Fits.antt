-- What sizes that fit say.
use Rattle.std.proofs.Common.{◌≡◌, ℕ, ◌+◌, ◌*◌, Bool, true, eqb, List, ◌++◌, Ok, Err, Result, refl, ◌∙◌}
use Rattle.std.proofs.lemmas.Bool.{and_parts, eqb-true}
use Rattle.equations.specs.Model.{Model}
use Rattle.refusals.specs.declared.sizes.Size.{Size}
use Rattle.refusals.specs.declared.sizes.WrongSize.{WrongSize}
use Rattle.refusals.specs.Sizes.{first_wrong}
use Rattle.refusals.proofs.Tests.{AllRight, right_after}
use Rattle.adjoint.specs.declared.faults.RuleFault.{RuleFault}
use Rattle.adjoint.specs.Rules.{Does, sized}
use Rattle.adjoint.specs.declared.measures.Sizes.{Sizes}
use Rattle.adjoint.specs.Sizes.{made_for, rows_of, Made, vector_length}

-- working space that was made for a model with so many channels
pub is_made : {N T F : Type 0} (m : Model N T F) (n : ℕ) (s : Sizes) → made_for m n s ≡ true → (s.channels ≡ n) × Made m s
is_made m n s h =
    let a = and_parts (eqb s.channels n) _ h in
    let b = and_parts (eqb s.states m.states) _ a.1 in
    let c = and_parts (eqb s.parameters m.parameters) _ b.1 in
    let d = and_parts (eqb s.outputs (rows_of m)) _ c.1 in (
      eqb-true s.channels n a.0,
      record {
        states = eqb-true s.states m.states b.0;
        parameters = eqb-true s.parameters m.parameters c.0;
        outputs = eqb-true s.outputs (rows_of m) d.0;
        roots = eqb-true s.roots m.roots d.1;
      },
    )

-- the length of a vector that fits that space
pub vector_is : {N T F : Type 0} (m : Model N T F) (n : ℕ) (s : Sizes) (k : ℕ) → (s.channels ≡ n) × Made m s → eqb k (n * m.states + n * m.parameters) ≡ true → k ≡ vector_length s
vector_is m n s k h e = rw (h.0, h.1.states, h.1.parameters) (eqb-true k (n * m.states + n * m.parameters) e)

of_sized : {F : Type 0} (x : Result (Unit {0}) WrongSize) → ◌≡◌ {A = Result (Unit {0}) (RuleFault F)} (Ok tt) (sized x (Ok tt)) → x ≡ Ok tt
of_sized (Ok tt) h = refl
of_sized (Err w) h = cc

-- where a rule goes on each of its tests is passed
pub passed : {F : Type 0} (limits tests : List (Bool × Size)) → ◌≡◌ {A = Result (Unit {0}) (RuleFault F)} (Ok tt) (sized (first_wrong (limits ++ tests)) (Ok tt)) → AllRight tests
passed limits tests h = right_after limits tests (of_sized (first_wrong (limits ++ tests)) h)

-- where it stops at one the vector stays
pub stopped : {N F : Type 0} (x : Result (Unit {0}) WrongSize) (r : Result (List N) (RuleFault F)) (e : RuleFault F) (told : Result (Unit {0}) (RuleFault F)) (v : List N) → ◌≡◌ {A = Result (Unit {0}) (RuleFault F)} (Err e) (sized x (Ok tt)) → told ≡ Err e → Does (sized x r) told v v
stopped (Ok tt) r e told v h k = absurd (cc)
stopped (Err w) r e told v h k = (k ∙ h, refl)
