-- Blank lines before the names of a table, or at the end, are passed over.
use Rattle.std.proofs.Common.{◌≡◌, ℕ, ◌+◌, Bool, true, false, not, Option, Some, None, Bor, sym, ap, ◌∙◌, subst, List, [], ◌∷◌, refl, arith}
use Rattle.std.proofs.lemmas.Bool.{true_from_ne_false, false_from_ne_true, cond-true, cond-false}
use Rattle.std.proofs.lemmas.Grind.{common_steps}
use Rattle.std.specs.Bool.{⊤}
use Rattle.std.specs.Fn.{CalledAt}
use Rattle.std.specs.Iterator.{Yields}
use Rattle.std.specs.List.{FoldsTo}
use Rattle.std.specs.Option.{MatchOption, option_map}
use denote.Param.Members.{Mut}
use Rattle.tables.specs.declared.faults.Part.{Part}
use Rattle.tables.specs.Rides.{end_of}
use Rattle.tables.specs.Tables.{Left, head_of}
use Rattle.tables.specs.Steps.{TakesLine, skip_of}
use Rattle.tables.specs.Text.{is_blank}

pub head_skip : (part : Part) (n : ℕ) (ls : List (List ℕ)) → head_of part n ls ≡ head_of part (skip_of n ls).0 (skip_of n ls).1
head_skip part n [] = refl
head_skip part n (l ∷ ls) = let more = head_skip part (n + 1) ls in grind (arith, common_steps)

pub end_skip : (n : ℕ) (ls : List (List ℕ)) → end_of n ls ≡ end_of (skip_of n ls).0 (skip_of n ls).1
end_skip n [] = refl
end_skip n (l ∷ ls) = let more = end_skip (n + 1) ls in grind (arith, common_steps)

-- `find` over lines, with a closure that tests whether a line has a word
module _ {S A F : Type 0} (left : S → Left) (view : A → ℕ × List ℕ) (g : Mut F (Bor A × Unit {0}) Bool) (f : F)
    (law : (x : A) (b : Bool) (q : F) → CalledAt g f x b q → (q ≡ f) × (b ≡ not (is_blank (view x).1))) where
  abbrev Steps : S → Option A → S → Type 0
  Steps s r t = TakesLine (left s) (option_map view r) (left t)

  abbrev skip : Left → Left
  skip l = skip_of l.0 l.1

  passed : (xs : List A) (s t : S) (j : F) → Yields Steps s xs t → FoldsTo (λ p x q. CalledAt g p x false q) f xs j → (skip (left s) ≡ skip (left t)) × (j ≡ f)
  passed [] s t j y z = (ap (λ s. skip (left s)) y, sym z)
  passed (x ∷ xs) s t j (next, step, y) (k, called, z) =
      let a = law x false k called in
      let blank : is_blank (view x).1 ≡ true = true_from_ne_false _ (λ e. let t : false ≡ true = a.1 ∙ ap not e in cc) in
      let here : skip (left s) ≡ skip (left next) = ap skip step.0 ∙ cond-true _ _ _ blank ∙ ap (λ n. skip_of n (left next).1) (sym step.1) in
      let rest = passed xs next t j y (subst (λ p. FoldsTo (λ p x q. CalledAt g p x false q) p xs j) a.0 z) in
      (here ∙ rest.0, rest.1)

  pub find_law : (s u : S) (j : F) (xs : List A) (t : S) (r : Option A) → Yields Steps s xs t → Steps t r u → FoldsTo (λ p x q. CalledAt g p x false q) f xs j
      → MatchOption r ⊤ (λ x. (h : F) × CalledAt g j x true h) → TakesLine (skip (left s)) (option_map view r) (left u)
  find_law s u j xs t None y e z l =
      let same : skip (left s) ≡ left t = (passed xs s t j y z).0 ∙ ap (skip_of (left t).0) e.0 ∙ ap (λ l. ((left t).0, l)) (sym e.0) in
      (ap (λ (l : Left). l.1) same ∙ e.0, e.1 ∙ sym same)
  find_law s u j xs t (Some x) y e z (h, called) =
      let p = passed xs s t j y z in
      let a = law x true h (subst (λ q. CalledAt g q x true h) p.1 called) in
      let full : is_blank (view x).1 ≡ false = false_from_ne_true _ (λ e. let t : true ≡ false = a.1 ∙ ap not e in cc) in
      (p.0 ∙ ap skip e.0 ∙ cond-false _ _ _ full, e.1)
