-- One computed test of the whole table, and the lemma that turns it into each row.
use Rattle.std.proofs.Common.{◌≡◌, ℕ, zero, suc, ◌<◌, Bool, true, false, ◌&&◌, T, eqb, List, [], ◌∷◌, length, get_or, ℤ, pos, negsuc, Some, None, Option, refl, ap, ◌∙◌, arith}
use mathlib.Core.Bool.{beq}
use lib.Ieee as Ieee
use lib.Ieee.{Float, nan, inf, fin}
use lib.Count.{count_trailing_zeros}
use Rattle.std.proofs.lemmas.Bool.{eqb-true}
use Rattle.scalar.specs.Ops.{Ops}
use Rattle.scalar.specs.Floats.{ops32, ops64}
use Rattle.checkpointing.specs.Knots.{look_up, between}
use Rattle.worked.specs.Examples.{Example, Example.looked, Holds, table, Worked}

-- ---- tests for equality, and what they show
abbrev sameℤ : ℤ → ℤ → Bool
sameℤ (pos m) (pos n) = eqb m n
sameℤ (pos m) (negsuc n) = false
sameℤ (negsuc m) (pos n) = false
sameℤ (negsuc m) (negsuc n) = eqb m n

abbrev same : Float → Float → Bool
same nan nan = true
same nan (inf t) = false
same nan (fin t n d) = false
same (inf s) nan = false
same (inf s) (inf t) = beq s t
same (inf s) (fin t n d) = false
same (fin s m e) nan = false
same (fin s m e) (inf t) = false
same (fin s m e) (fin t n d) = beq s t && (eqb m n && sameℤ e d)

abbrev same_all : List Float → List Float → Bool
same_all [] [] = true
same_all [] (y ∷ ys) = false
same_all (x ∷ xs) [] = false
same_all (x ∷ xs) (y ∷ ys) = same x y && same_all xs ys

abbrev same_answer : Option (List Float) → Option (List Float) → Bool
same_answer None None = true
same_answer None (Some y) = false
same_answer (Some x) None = false
same_answer (Some x) (Some y) = same_all x y

left : (a b : Bool) → T (a && b) → T a
left true b h = tt
left false b h = h

right : (a b : Bool) → T (a && b) → T b
right true b h = h
right false b h = absurd h

is_true : (b : Bool) → T b → b ≡ true
is_true true h = refl
is_true false h = absurd h

bool_is : (s t : Bool) → T (beq s t) → s ≡ t
bool_is true true h = refl
bool_is true false h = absurd h
bool_is false true h = absurd h
bool_is false false h = refl

nat_is : (m n : ℕ) → T (eqb m n) → m ≡ n
nat_is m n h = eqb-true m n (is_true (eqb m n) h)

int_is : (a b : ℤ) → T (sameℤ a b) → a ≡ b
int_is (pos m) (pos n) h = ap pos (nat_is m n h)
int_is (pos m) (negsuc n) h = absurd h
int_is (negsuc m) (pos n) h = absurd h
int_is (negsuc m) (negsuc n) h = ap negsuc (nat_is m n h)

same_is : (x y : Float) → T (same x y) → x ≡ y
same_is nan nan h = refl
same_is nan (inf t) h = absurd h
same_is nan (fin t n d) h = absurd h
same_is (inf s) nan h = absurd h
same_is (inf s) (inf t) h = ap inf (bool_is s t h)
same_is (inf s) (fin t n d) h = absurd h
same_is (fin s m e) nan h = absurd h
same_is (fin s m e) (inf t) h = absurd h
same_is (fin s m e) (fin t n d) h =
    let a = bool_is s t (left (beq s t) (eqb m n && sameℤ e d) h) in
    let r = right (beq s t) (eqb m n && sameℤ e d) h in
    let b = nat_is m n (left (eqb m n) (sameℤ e d) r) in
    let c = int_is e d (right (eqb m n) (sameℤ e d) r) in
    cc

all_is : (xs ys : List Float) → T (same_all xs ys) → xs ≡ ys
all_is [] [] h = refl
all_is [] (y ∷ ys) h = absurd h
all_is (x ∷ xs) [] h = absurd h
all_is (x ∷ xs) (y ∷ ys) h = ap (λ a. a ∷ xs) (same_is x y (left (same x y) (same_all xs ys) h)) ∙ ap (λ zs. y ∷ zs) (all_is xs ys (right (same x y) (same_all xs ys) h))

answer_is : (x y : Option (List Float)) → T (same_answer x y) → x ≡ y
answer_is None None h = refl
answer_is None (Some y) h = absurd h
answer_is (Some x) None h = absurd h
answer_is (Some x) (Some y) h = ap Some (all_is x y h)

-- ---- the test of a row, and of a table
abbrev passes : Ops Float → Example → Bool
passes o (looked ks t x) = same_answer (look_up o ks t) x

shows : (o : Ops Float) (e : Example) → T (passes o e) → Holds o e
shows o (looked ks t x) h = answer_is (look_up o ks t) x h

abbrev pass_all : List Example → Bool
pass_all [] = true
pass_all (e ∷ es) = passes ops64 e && (passes ops32 e && pass_all es)

each : (es : List Example) → T (pass_all es) → (k : ℕ) (d : Example) → k < length es → Holds ops64 (get_or es k d) × Holds ops32 (get_or es k d)
each [] h k d p = absurd (omega arith)
each (e ∷ es) h zero d p =
    (shows ops64 e (left (passes ops64 e) (passes ops32 e && pass_all es) h), shows ops32 e (left (passes ops32 e) (pass_all es) (right (passes ops64 e) (passes ops32 e && pass_all es) h)))
each (e ∷ es) h (suc k) d p = each es (right (passes ops32 e) (pass_all es) (right (passes ops64 e) (passes ops32 e && pass_all es) h)) k d (omega arith)

computed : T (pass_all table)
unfolding look_up between Ieee.add Ieee.sub Ieee.mul Ieee.div Ieee.neg Ieee.lt Ieee.eq Ieee.sum Ieee.round Ieee.units Ieee.odd Ieee.size Ieee.span Ieee.climb Ieee.of_int count_trailing_zeros
computed = tt

pub worked : Worked
worked = each table computed
