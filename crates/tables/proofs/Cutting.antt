-- A text from a place on is its first piece and the text after it.
use Rattle.std.proofs.Common.{◌≡◌, ℕ, zero, suc, ◌+◌, ◌<◌, ◌≤◌, Bool, true, false, List, [], ◌∷◌, length, get_or, take, drop, sym, refl, ap, ◌∙◌, ⊎_elim, arith}
use Rattle.std.proofs.lemmas.List.{length-drop, length-take-le, drop_all, nil_from_length, take_all, at_drop_more, at_drop_all}
use Rattle.std.proofs.lemmas.Bool.{cond-true, cond-false, cases_lt}
use Rattle.tables.specs.Breaks.{is_end, is_break, First}
use Rattle.tables.specs.Text.{onto, cut, full, lines_of, words_of}

module _ (p : ℕ → Bool) where
  cut_at : (xs : List ℕ) (n : ℕ) → n < length xs → ((k : ℕ) → k < n → p (get_or xs k 0) ≡ false) → p (get_or xs n 0) ≡ true → cut p xs ≡ take n xs ∷ cut p (drop (suc n) xs)
  cut_at [] n h free e = absurd (omega arith)
  cut_at (x ∷ xs) zero h free e = cond-true _ _ _ e
  cut_at (x ∷ xs) (suc n) h free e = cond-false _ _ _ (free 0 (omega arith)) ∙ ap (onto x) (cut_at xs n (omega arith) (λ k lt. free (suc k) (omega arith)) e)

  cut_end : (x : ℕ) (xs : List ℕ) → ((k : ℕ) → k < suc (length xs) → p (get_or (x ∷ xs) k 0) ≡ false) → cut p (x ∷ xs) ≡ (x ∷ xs) ∷ []
  cut_end x [] free = cond-false _ _ _ (free 0 (omega arith))
  cut_end x (y ∷ ys) free = cond-false _ _ _ (free 0 (omega arith)) ∙ ap (onto x) (cut_end y ys (λ k lt. free (suc k) (omega arith)))

  cut_whole : (xs : List ℕ) → 0 < length xs → ((k : ℕ) → k < length xs → p (get_or xs k 0) ≡ false) → cut p xs ≡ xs ∷ []
  cut_whole [] h free = absurd (omega arith)
  cut_whole (x ∷ xs) h free = cut_end x xs free

  pub piece : (bs : List ℕ) (e : ℕ) → First p bs 0 e → e < length bs → cut p bs ≡ take e bs ∷ cut p (drop (e + 1) bs)
  piece bs e f l =
      let next : suc e ≡ e + 1 = omega arith in
      cut_at bs e l (λ k lt. f.none k (omega arith) lt) (f.found l) ∙ ap (λ j. take e bs ∷ cut p (drop j bs)) next

  pub last_piece : (bs : List ℕ) (e : ℕ) → First p bs 0 e → 0 < length bs → length bs ≤ e → cut p bs ≡ take e bs ∷ []
  last_piece bs e f h l = cut_whole bs h (λ k lt. f.none k (omega arith) (omega arith)) ∙ ap (λ q. q ∷ []) (sym (take_all e bs l))

full_more : (p : List ℕ) (ps : List (List ℕ)) → 0 < length p → full (p ∷ ps) ≡ p ∷ full ps
full_more [] ps h = absurd (omega arith)
full_more (x ∷ p) ps h = refl

-- a break before a word is no part of it
skip_at : (line : List ℕ) (i : ℕ) → i < length line → is_break (get_or line i 0) ≡ true → words_of (drop i line) ≡ words_of (drop (i + 1) line)
skip_at line i h e = at_drop_more words_of line i 0 h ∙ ap full (cond-true _ _ _ e)

-- the first word, where no break begins the line
pub word_first : (line : List ℕ) (e : ℕ) → 0 < e → First is_break line 0 e → words_of line ≡ take e line ∷ words_of (drop e line)
word_first line e h f =
    let within = f.within in
    let some : 0 < length (take e line) = omega (arith, length-take-le e line f.within) in
    ⊎_elim
    (λ l. ap full (piece is_break line e f l) ∙ full_more _ _ some ∙ ap (λ ws. take e line ∷ ws) (sym (skip_at line e l (f.found l))))
    (λ l. ap full (last_piece is_break line e f (omega arith) l) ∙ full_more _ _ some ∙ ap (λ ws. take e line ∷ ws) (sym (at_drop_all words_of line e l)))
    (cases_lt e (length line))

-- the first line, which ends at its newline or at the end of the text
pub line_first : (bs : List ℕ) (e : ℕ) → First is_end bs 0 e → 0 < length bs → lines_of bs ≡ take e bs ∷ lines_of (drop (e + 1) bs)
line_first bs e f h =
    ⊎_elim
    (λ l. piece is_end bs e f l)
    (λ l. last_piece is_end bs e f h l ∙ ap (λ ls. take e bs ∷ ls) (sym (at_drop_all lines_of bs (e + 1) (omega arith))))
    (cases_lt e (length bs))

-- what stands after the first line, where nothing stands at its end
pub past_end : (bs after : List ℕ) (e : ℕ) → after ≡ drop e bs → length after < 1 → after ≡ drop (e + 1) bs
past_end bs after e q h =
    let none : length (drop e bs) ≡ 0 = omega (arith, ap length q) in
    nil_from_length after (omega arith) ∙ sym (drop_all (e + 1) bs (omega (arith, length-drop e bs)))
