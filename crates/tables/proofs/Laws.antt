-- What holds of every ride that is read.
use Rattle.std.proofs.Common.{◌≡◌, ℕ, zero, suc, ◌+◌, ◌*◌, ◌<◌, ◌≤◌, Bool, true, false, cond, ◌||◌, eqb, leb, List, [], ◌∷◌, ◌++◌, length, get_or, drop, ℤ, pos, ◌+ℤ◌, nat_abs, Ok, Err, Result, sym, refl, ap, ◌∙◌, subst, inl, inr, ⊎_elim, mul-zero, mul-one, mul-add, arith}
use Rattle.std.specs.Ordering.{int_eq}
use Rattle.std.proofs.lemmas.Int.{ints}
use Rattle.std.proofs.lemmas.Bool.Decides.{Decides-int_eq}
use Rattle.std.proofs.ByRecursion.{All-append, All-weaker}
use Rattle.std.proofs.lemmas.List.{length-append, length-drop, get_or-drop, drop-drop}
use Rattle.std.proofs.lemmas.Bool.{cases_Bool, cond-true, cond-false, or_cases, leb-true}
use Rattle.tables.specs.declared.faults.Wrong.{Wrong}
use Rattle.tables.specs.declared.faults.Fault.{Fault}
use Rattle.tables.specs.declared.faults.Part.TheVariants.{Checkpoints, Samples, Settings}
use Rattle.tables.specs.Numbers.{map_ok, digits, decimal, size_of, whole_of}
use Rattle.tables.specs.Rides.{segments, steps_of, start_of, order_of, checkpoints_of, samples_of, end_of, last_of, settings_of, limit_of, ride_of, Said, Follows, Within, Sound}
use Rattle.tables.specs.Tables.{Left, and_then, at_line, row_of, head_of, rows_of}
use Rattle.tables.specs.Text.{lines_of, words_of, is_blank}
use Rattle.tables.proofs.Ordering.{segments_more}

-- a value that comes last comes from values before it
and_then-ok : {X Y E : Type 0} (r : Result X E) (f : X → Result Y E) (y : Y) → and_then r f ≡ Ok y → (x : X) × (r ≡ Ok x) × (f x ≡ Ok y)
and_then-ok (Ok x) f y e = (x, refl, e)
and_then-ok (Err b) f y e = cc

map_ok-ok : {X Y E : Type 0} (f : X → Y) (r : Result X E) (y : Y) → map_ok f r ≡ Ok y → (x : X) × (r ≡ Ok x) × (f x ≡ y)
map_ok-ok f (Ok x) y e = (x, refl, cc)
map_ok-ok f (Err b) y e = cc

at_line-ok : {X : Type 0} (n : ℕ) (r : Result X Wrong) (x : X) → at_line n r ≡ Ok x → r ≡ Ok x
at_line-ok n (Ok y) x e = ap Ok cc
at_line-ok n (Err w) x e = cc

-- of two ways the one that does not fail was taken
cond_ok : {X E : Type 0} (t : Bool) (r : Result X E) (b : E) (x : X) → cond t r (Err b) ≡ Ok x → (t ≡ true) × (r ≡ Ok x)
cond_ok true r b x e = (refl, e)
cond_ok false r b x e = cc

cond_not : {X E : Type 0} (t : Bool) (r : Result X E) (b : E) (x : X) → cond t (Err b) r ≡ Ok x → r ≡ Ok x
cond_not true r b x e = cc
cond_not false r b x e = e

-- numbers
size_small : (m : ℕ) (s : List ℕ) (n : ℕ) → size_of m s ≡ Ok n → n ≤ m
size_small m [] n e = cc
size_small m (c ∷ cs) n e =
    let a = cond_ok (digits (c ∷ cs)) _ _ n e in
    let b = cond_ok (leb (decimal 0 (c ∷ cs)) m) _ _ n a.1 in
    let same : decimal 0 (c ∷ cs) ≡ n = cc b.1 in
    subst (λ k. k ≤ m) same (leb-true _ m b.0)

whole_small : (m : ℕ) (w : List ℕ) (z : ℤ) → whole_of m w ≡ Ok z → nat_abs z ≤ m
whole_small m [] z e = cc
whole_small m (c ∷ cs) z e =
    ⊎_elim
    (λ t. let a = map_ok-ok _ (size_of m cs) z (sym (cond-true (eqb c 45) _ _ t) ∙ e) in
    let same : a.0 ≡ nat_abs z = omega (arith, ints) in subst (λ k. k ≤ m) same (size_small m cs a.0 a.1))
    (λ t. let a = map_ok-ok _ (size_of m (c ∷ cs)) z (sym (cond-false (eqb c 45) _ _ t) ∙ e) in
    subst (λ k. k ≤ m) (ap nat_abs a.2) (size_small m (c ∷ cs) a.0 a.1))
    (cases_Bool (eqb c 45))

-- rows
row_law : (m k : ℕ) (ws : List (List ℕ)) (zs : List ℤ) → row_of m k ws ≡ Ok zs → (length zs ≡ k) × Within m zs
row_law m zero [] zs e = let none : [] ≡ zs = cc in subst (λ l. (length l ≡ 0) × Within m l) none (refl, tt)
row_law m zero (w ∷ ws) zs e = cc
row_law m (suc k) [] zs e = cc
row_law m (suc k) (w ∷ ws) zs e =
    let a = and_then-ok (whole_of m w) _ zs e in
    let b = map_ok-ok _ (row_of m k ws) zs a.2 in
    let rest = row_law m k ws b.0 b.1 in
    subst (λ l. (length l ≡ suc k) × Within m l) b.2 (ap suc rest.0, (whole_small m w a.0 a.1, rest.1))

-- the rows of a table are so many numbers each, each row has a line, and no number is too large
abbrev pub Rowed : ℕ → ℕ → ℕ → List ℤ × Left → Type 0
Rowed m width n p = (k : ℕ) × (length p.0 ≡ width * k) × (n + k ≤ p.1.0) × Within m p.0

no_rows : (m width n q : ℕ) (ls : List (List ℕ)) (r : Result (List ℤ × Left) Fault) (p : List ℤ × Left) → n ≤ q → r ≡ Ok ([], (q, ls)) → r ≡ Ok p → Rowed m width n p
no_rows m width n q ls r p h d e = let same : ([], (q, ls)) ≡ p = cc in subst (Rowed m width n) same (0, sym (mul-zero width), omega arith, tt)

pub rows_law : (m width n : ℕ) (ls : List (List ℕ)) (p : List ℤ × Left) → rows_of m width n ls ≡ Ok p → Rowed m width n p
rows_law m width n [] p e = no_rows m width n n [] _ p (omega arith) refl e
rows_law m width n (l ∷ ls) p e =
    ⊎_elim
    (λ t. no_rows m width n (n + 1) ls _ p (omega arith) (cond-true (is_blank l) _ _ t) e)
    (λ t. let a = and_then-ok (at_line n (row_of m width (words_of l))) _ p (sym (cond-false (is_blank l) _ _ t) ∙ e) in
    let b = map_ok-ok _ (rows_of m width (n + 1) ls) p a.2 in
    let one = row_law m width (words_of l) a.0 (at_line-ok n _ a.0 a.1) in
    let rest = rows_law m width (n + 1) ls b.0 b.1 in
    let long : length (a.0 ++ b.0.0) ≡ width * (rest.0 + 1) = omega (arith, length-append a.0 b.0.0, one.0, rest.1, mul-add width rest.0 1, mul-one width) in
    let lines : n + (rest.0 + 1) ≤ b.0.1.0 = omega (arith, rest.2) in
    subst (Rowed m width n) b.2 (rest.0 + 1, long, lines, All-append _ a.0 b.0.0 one.1 rest.3))
    (cases_Bool (is_blank l))

-- the order of the segments
step_law : (n : ℕ) (p s : ℤ) (ss : List ℤ) → steps_of n p (s ∷ ss) ≡ Ok tt → Follows p s × (steps_of (n + 1) s ss ≡ Ok tt)
step_law n p s ss e =
    let a = cond_ok (int_eq s p || int_eq s (p +ℤ pos 1)) _ _ tt e in
    (⊎_elim (λ t. inl ((Decides-int_eq s p).0 t)) (λ t. inr ((Decides-int_eq s (p +ℤ pos 1)).0 t)) (or_cases _ _ a.0), a.1)

next_law : (zs : List ℤ) (n : ℕ) → 7 < length zs → steps_of n (get_or zs 0 (pos 0)) (segments 0 (drop 7 zs)) ≡ Ok tt
    → Follows (get_or zs 0 (pos 0)) (get_or zs 7 (pos 0)) × (steps_of (n + 1) (get_or zs 7 (pos 0)) (segments 0 (drop 14 zs)) ≡ Ok tt)
next_law zs n h e = step_law n (get_or zs 0 (pos 0)) (get_or zs 7 (pos 0)) (segments 0 (drop 14 zs)) (ap (steps_of n (get_or zs 0 (pos 0))) (sym (segments_more zs 7 14 h refl)) ∙ e)

steps_law : (k : ℕ) (zs : List ℤ) (n : ℕ) → steps_of n (get_or zs 0 (pos 0)) (segments 0 (drop 7 zs)) ≡ Ok tt → 7 * (k + 1) < length zs
    → Follows (get_or zs (7 * k) (pos 0)) (get_or zs (7 * (k + 1)) (pos 0))
steps_law zero zs n e h = (next_law zs n h e).0
steps_law (suc k) zs n e h =
    let long = length-drop 7 zs in
    let same : steps_of (n + 1) (get_or (drop 7 zs) 0 (pos 0)) (segments 0 (drop 7 (drop 7 zs))) ≡ Ok tt =
    ap (λ s. steps_of (n + 1) s (segments 0 (drop 7 (drop 7 zs)))) (get_or-drop 7 zs 0 (pos 0)) ∙ ap (λ l. steps_of (n + 1) (get_or zs 7 (pos 0)) (segments 0 l)) (drop-drop 7 7 zs) ∙ (next_law zs n (omega arith) e).1 in
    let here : 7 + 7 * k ≡ 7 * suc k = omega arith in
    let there : 7 + 7 * (k + 1) ≡ 7 * (suc k + 1) = omega arith in
    subst (λ s. Follows s (get_or zs (7 * (suc k + 1)) (pos 0))) (get_or-drop 7 zs (7 * k) (pos 0) ∙ ap (λ i. get_or zs i (pos 0)) here)
    (subst (λ s. Follows (get_or (drop 7 zs) (7 * k) (pos 0)) s) (get_or-drop 7 zs (7 * (k + 1)) (pos 0) ∙ ap (λ i. get_or zs i (pos 0)) there)
    (steps_law k (drop 7 zs) (n + 1) same (omega arith)))

order_law : (n : ℕ) (zs : List ℤ) → order_of n zs ≡ Ok tt
    → (0 < length zs) × (get_or zs 0 (pos 0) ≡ pos 0) × ((k : ℕ) → 7 * (k + 1) < length zs → Follows (get_or zs (7 * k) (pos 0)) (get_or zs (7 * (k + 1)) (pos 0)))
order_law n [] e = cc
order_law n (z ∷ zs) e =
    let some : 0 < length (z ∷ zs) = omega arith in
    let a = cond_ok (int_eq z (pos 0)) _ _ tt (ap (start_of n) (sym (segments_more (z ∷ zs) 0 7 some refl)) ∙ e) in
    (some, (Decides-int_eq z (pos 0)).0 a.0, λ k h. steps_law k (z ∷ zs) (n + 1) a.1 h)

-- the tables
checkpoints_law : (m n : ℕ) (ls : List (List ℕ)) (p : List ℤ × Left) → checkpoints_of m n ls ≡ Ok p
    → ((k : ℕ) × (1 ≤ k) × (length p.0 ≡ 7 * k)) × (get_or p.0 0 (pos 0) ≡ pos 0)
    × ((k : ℕ) → 7 * (k + 1) < length p.0 → Follows (get_or p.0 (7 * k) (pos 0)) (get_or p.0 (7 * (k + 1)) (pos 0))) × Within m p.0
checkpoints_law m n ls p e =
    let a = and_then-ok (head_of Checkpoints n ls) _ p e in
    let b = and_then-ok (rows_of m 7 a.0.0 a.0.1) _ p a.2 in
    let d = map_ok-ok _ (order_of a.0.0 b.0.0) p b.2 in
    let rows = rows_law m 7 a.0.0 a.0.1 b.0 b.1 in
    let order = order_law a.0.0 b.0.0 d.1 in
    subst (λ q. ((k : ℕ) × (1 ≤ k) × (length q.0 ≡ 7 * k)) × (get_or q.0 0 (pos 0) ≡ pos 0)
    × ((k : ℕ) → 7 * (k + 1) < length q.0 → Follows (get_or q.0 (7 * k) (pos 0)) (get_or q.0 (7 * (k + 1)) (pos 0))) × Within m q.0) d.2
    ((rows.0, omega (arith, rows.1, order.0), rows.1), order.1, order.2, rows.3)

samples_law : (m n : ℕ) (ls : List (List ℕ)) (p : List ℤ × Left) → samples_of m n ls ≡ Ok p → ((k : ℕ) × (length p.0 ≡ 2 * k)) × Within m p.0
samples_law m n ls p e =
    let a = and_then-ok (head_of Samples n ls) _ p e in
    let rows = rows_law m 2 a.0.0 a.0.1 p a.2 in
    ((rows.0, rows.1), rows.3)

last_law : (m n : ℕ) (ls : List (List ℕ)) (zs : List ℤ) → last_of m n ls ≡ Ok zs → (length zs ≡ 5) × Within m zs
last_law m n [] zs e = cc
last_law m n (l ∷ ls) zs e =
    let a = and_then-ok (at_line n (row_of m 5 (words_of l))) _ zs (cond_not (is_blank l) _ _ zs e) in
    let b = map_ok-ok _ (end_of (n + 1) ls) zs a.2 in
    row_law m 5 (words_of l) zs (at_line-ok n _ zs (a.1 ∙ ap Ok b.2))

pub sound : (largest : ℕ) (bs : List ℕ) (said : Said) → ride_of largest bs ≡ Ok said → Sound largest said
sound largest bs said e =
    let m = limit_of largest in
    let a = and_then-ok (checkpoints_of m 1 (lines_of bs)) _ said e in
    let b = and_then-ok (samples_of m a.0.1.0 a.0.1.1) _ said a.2 in
    let d = map_ok-ok _ (settings_of m b.0.1.0 b.0.1.1) said b.2 in
    let f = and_then-ok (head_of Settings b.0.1.0 b.0.1.1) _ d.0 d.1 in
    let first = checkpoints_law m 1 (lines_of bs) a.0 a.1 in
    let second = samples_law m a.0.1.0 a.0.1.1 b.0 b.1 in
    let third = last_law m f.0.0 f.0.1 d.0 f.2 in
    let fewer : (z : ℤ) → nat_abs z ≤ m → nat_abs z ≤ largest = λ z h. omega arith in
    subst (Sound largest) d.2
    (record {
      sevens = first.0;
      pairs = second.0;
      five = third.0;
      start = first.1;
      steps = first.2;
      small = (All-weaker _ _ fewer _ first.3, All-weaker _ _ fewer _ second.1, All-weaker _ _ fewer _ third.1);
    })
