-- Two lines, word by word.
use Rattle.std.proofs.Common.{◌≡◌, ℕ, Bool, true, false, ◌&&◌, List, [], ◌∷◌, Some, None, Option, Bor, sym, ap, ◌∙◌}
use Rattle.std.specs.Iterator.{Yields, YieldsFirstRef}
use Rattle.std.specs.List.{AllZip}
use Rattle.std.specs.Option.{MatchOption, IfSome}
use Rattle.std.specs.Str.{bytes_eq}
use Rattle.tables.specs.Text.{same_words}

pub same_at : (vs ws vs' ws' : List (List ℕ)) → vs ≡ vs' → ws ≡ ws' → same_words vs ws ≡ same_words vs' ws'
same_at vs ws vs' ws' p q = ap (λ l. same_words l ws) p ∙ ap (same_words vs') q

module _ {S : Type 0} (rest : S → List (List ℕ)) where
  -- what the comparison says where words as many were the same, and then one of the lines ended or two words differ
  abbrev Last : Option (Bor (List ℕ)) → Option (Bor (List ℕ)) → Bool → Type 0
  Last o p r = MatchOption o (MatchOption p (r ≡ true) (λ _. r ≡ false)) (λ x. (r ≡ false) × IfSome p (λ y. bytes_eq x.now y.now ≡ false))

  last_law : (s t u v : S) (o p : Option (Bor (List ℕ))) (r : Bool) → YieldsFirstRef rest s o u → YieldsFirstRef rest t p v → Last o p r → r ≡ same_words (rest s) (rest t)
  last_law s t u v None None r f g l = l ∙ sym (same_at _ _ [] [] f.0 g.0)
  last_law s t u v None (Some y) r f g l = l ∙ sym (same_at _ _ [] (y.now ∷ rest v) f.0 g)
  last_law s t u v (Some x) None r f g l = l.0 ∙ sym (same_at _ _ (x.now ∷ rest u) [] f g.0)
  last_law s t u v (Some x) (Some y) r f g l = l.0 ∙ sym (same_at _ _ (x.now ∷ rest u) (y.now ∷ rest v) f g ∙ ap (λ b. b && same_words (rest u) (rest v)) l.1)

  pub same_law : (xs ys : List (Bor (List ℕ))) (s t s' t' u v : S) (o p : Option (Bor (List ℕ))) (r : Bool) → Yields (YieldsFirstRef rest) s xs s' → Yields (YieldsFirstRef rest) t ys t'
      → AllZip (λ x y. bytes_eq x.now y.now ≡ true) xs ys → YieldsFirstRef rest s' o u → YieldsFirstRef rest t' p v → Last o p r → r ≡ same_words (rest s) (rest t)
  same_law [] [] s t s' t' u v o p r a b z f g l = last_law s' t' u v o p r f g l ∙ same_at _ _ _ _ (ap rest (sym a)) (ap rest (sym b))
  same_law [] (y ∷ ys) s t s' t' u v o p r a b z f g l = absurd z
  same_law (x ∷ xs) [] s t s' t' u v o p r a b z f g l = absurd z
  same_law (x ∷ xs) (y ∷ ys) s t s' t' u v o p r a b z f g l =
      same_law xs ys a.0 b.0 s' t' u v o p r a.2 b.2 z.1 f g l
      ∙ sym (same_at _ _ (x.now ∷ rest a.0) (y.now ∷ rest b.0) a.1 b.1 ∙ ap (λ e. e && same_words (rest a.0) (rest b.0)) z.0)
