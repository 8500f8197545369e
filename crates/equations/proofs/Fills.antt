-- Cells that are filled one after the other.
use Rattle.std.proofs.Common.{◌≡◌, ℕ, zero, suc, ◌+◌, ◌<◌, List, [], ◌∷◌, ◌++◌, length, take, drop, Ok, Err, Result, refl, ap, arith}
use Rattle.equations.specs.declared.op.Op.{Op}
use Rattle.equations.specs.declared.op.Wrt.{Wrt}
use Rattle.equations.specs.Model.{Model, Filled, step, filled_from, and_then, numbers_of, entries, gathered, matrix_of, Gathers}

-- the first k cells are filled, and the others are still to do
abbrev pub partly : {N F : Type 0} → (ℕ → Result N F) → List N → ℕ → Filled N F
partly f out k =
    let rest = filled_from f k (drop k out) in
    record { answer = rest.answer; cells = take k out ++ rest.cells }

-- a filled buffer holds the numbers, or the first refusal is told
module _ {N F : Type 0} where
  one_more : (r : Result N F) (o : N) (os : List N) (rest : Filled N F) (more : Result (List N) F) → Gathers more rest.answer rest.cells
      → Gathers (and_then r (λ v. and_then more (λ vs. Ok (v ∷ vs)))) (step r o os rest).answer (step r o os rest).cells
  one_more (Ok v) o os rest (Ok vs) h = (h.0, ap (λ zs. v ∷ zs) h.1)
  one_more (Ok v) o os rest (Err e) h = h
  one_more (Err e) o os rest more h = refl

  pub fill_gathers : (f : ℕ → Result N F) (k : ℕ) (out : List N) → Gathers (numbers_of f k (length out)) (filled_from f k out).answer (filled_from f k out).cells
  fill_gathers f k [] = (refl, refl)
  fill_gathers f k (o ∷ os) = one_more (f k) o os (filled_from f (k + 1) os) (numbers_of f (k + 1) (length os)) (fill_gathers f (k + 1) os)

-- what `gathered` answers and leaves meets the law
pub gathered_meets : {N T F : Type 0} (m : Model N T F) (op : Op) (wrt : Wrt) (columns : ℕ) (t : T) (x out : List N) (r : Result (Unit {0}) F) (cells : List N)
    → 0 < columns → r ≡ (gathered m op wrt columns t x out).answer → cells ≡ (gathered m op wrt columns t x out).cells
    → Gathers (matrix_of m op wrt columns t x (length out)) r cells
gathered_meets m op wrt zero t x out r cells h p q = absurd (omega arith)
gathered_meets m op wrt (suc c) t x out r cells h p q = rw (p, q) (fill_gathers (entries m op wrt (suc c) t x) 0 out)
