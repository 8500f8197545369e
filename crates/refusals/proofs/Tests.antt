-- What tests say, one after the other.
use Rattle.std.proofs.Common.{◌≡◌, Bool, true, false, cond, List, [], ◌∷◌, ◌++◌, Ok, Err, Result, refl, ap, ◌∙◌}
use Rattle.refusals.specs.declared.sizes.Size.{Size}
use Rattle.refusals.specs.declared.sizes.WrongSize.{WrongSize}
use Rattle.refusals.specs.Sizes.{first_wrong}

-- a test that lets what comes after it pass, and one that leads to a refusal
taken : (b : Bool) (x : Result (Unit {0}) WrongSize) (w : WrongSize) → cond b x (Err w) ≡ Ok tt → (b ≡ true) × (x ≡ Ok tt)
taken true x w h = (refl, h)
taken false x w h = cc

refused : (b : Bool) (x y : Result (Unit {0}) WrongSize) (v w : WrongSize) → (x ≡ Err w → y ≡ Err w) → cond b x (Err v) ≡ Err w → cond b y (Err v) ≡ Err w
refused true x y v w f h = f h
refused false x y v w f h = h

-- of tests one after the other: those before decide, or those after
pub passes_on : (a b : List (Bool × Size)) → first_wrong a ≡ Ok tt → first_wrong (a ++ b) ≡ first_wrong b
passes_on [] b h = refl
passes_on (test ∷ a) b h =
    let p = taken test.0 (first_wrong a) (record { size = test.1; index = 0 }) h in
    ap (λ f. cond f (first_wrong (a ++ b)) (Err (record { size = test.1; index = 0 }))) p.0 ∙ passes_on a b p.1

pub fails_first : (a b : List (Bool × Size)) (w : WrongSize) → first_wrong a ≡ Err w → first_wrong (a ++ b) ≡ Err w
fails_first [] b w h = cc
fails_first (test ∷ a) b w h = refused test.0 (first_wrong a) (first_wrong (a ++ b)) (record { size = test.1; index = 0 }) w (fails_first a b w) h

-- where nothing is wrong each test is passed
abbrev pub AllRight : List (Bool × Size) → Type 0
AllRight [] = Unit {0}
AllRight (test ∷ rest) = (test.0 ≡ true) × AllRight rest

pub all_right : (a : List (Bool × Size)) → first_wrong a ≡ Ok tt → AllRight a
all_right [] h = tt
all_right (test ∷ a) h = let p = taken test.0 (first_wrong a) (record { size = test.1; index = 0 }) h in (p.0, all_right a p.1)

-- those that come after others
pub right_after : (a b : List (Bool × Size)) → first_wrong (a ++ b) ≡ Ok tt → AllRight b
right_after [] b h = all_right b h
right_after (test ∷ a) b h = right_after a b (taken test.0 (first_wrong (a ++ b)) (record { size = test.1; index = 0 }) h).1
