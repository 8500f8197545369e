-- What a model means: its sizes, and for each of its functions the value and the derivatives, each by the arguments alone.
use Rattle.std.specs.Prelude.{◌≡◌, ℕ, zero, suc, ◌+◌, ◌/◌, ◌%◌, Bool, List, [], ◌∷◌, map, Ok, Err, Option, Result}
use Rattle.scalar.specs.Ops.{Ops}
use Rattle.scalar.specs.Vectors.{at}
use Rattle.equations.specs.declared.op.Op.{Op}
use Rattle.equations.specs.declared.op.By.{By}
use Rattle.equations.specs.declared.op.By.TheVariants.{State, Parameter, Time}
use Rattle.equations.specs.declared.op.Wrt.{Wrt}
use Rattle.equations.specs.declared.op.Wrt.TheVariants.{States, Parameters, TimeOnly}

-- A model has no output function where `outputs` is none, no root function where `roots` is zero, and a reset or none.
-- `value op t x i` is component i of a function at the time t and the state x, and `derivative op by t x i` its derivative by a state, a parameter or the time.
-- Either may be refused with a fault of the model's own.
pub record Model (N T F : Type 0) : Type 0 where
  pub states : ℕ
  pub parameters : ℕ
  pub outputs : Option ℕ
  pub roots : ℕ
  pub resets : Bool
  pub value : Op → T → List N → ℕ → Result N F
  pub derivative : Op → By → T → List N → ℕ → Result N F

-- Cells that are filled one after the other until one is refused: the answer, and what the cells hold then.
pub record Filled (N F : Type 0) : Type 0 where
  pub answer : Result (Unit {0}) F
  pub cells : List N

abbrev pub step : {N F : Type 0} → Result N F → N → List N → Filled N F → Filled N F
step (Ok v) o os rest = record { answer = rest.answer; cells = v ∷ rest.cells }
step (Err e) o os rest = record { answer = Err e; cells = o ∷ os }

-- from cell k on, each with f of its number
abbrev pub filled_from : {N F : Type 0} → (ℕ → Result N F) → ℕ → List N → Filled N F
filled_from f k [] = record { answer = Ok tt; cells = [] }
filled_from f k (o ∷ os) = step (f k) o os (filled_from f (k + 1) os)

-- A matrix that is written out by its rows: entry (i, j), and zero where nothing is written.
abbrev pub cell : {N : Type 0} → Ops N → List (List N) → ℕ → ℕ → N
cell o rows i j = at o (map (λ row. at o row j) rows) i

abbrev pub column : Wrt → ℕ → By
column States j = State j
column Parameters j = Parameter j
column TimeOnly j = Time

-- A matrix of derivatives with so many columns, row by row: place k has row k / columns and column k % columns.
abbrev pub entries : {N T F : Type 0} → Model N T F → Op → Wrt → ℕ → T → List N → ℕ → Result N F
entries m op wrt columns t x k = m.derivative op (column wrt (k % columns)) t x (k / columns)

-- a matrix without columns has no place
abbrev pub gathered : {N T F : Type 0} → Model N T F → Op → Wrt → ℕ → T → List N → List N → Filled N F
gathered m op wrt zero t x out = record { answer = Ok tt; cells = out }
gathered m op wrt (suc c) t x out = filled_from (entries m op wrt (suc c) t x) 0 out

-- what comes next, where nothing was refused before it
abbrev pub and_then : {X Y F : Type 0} → Result X F → (X → Result Y F) → Result Y F
and_then (Ok x) f = f x
and_then (Err e) f = Err e

-- n numbers from number k on, or the first refusal
abbrev pub numbers_of : {N F : Type 0} → (ℕ → Result N F) → ℕ → ℕ → Result (List N) F
numbers_of f k zero = Ok []
numbers_of f k (suc n) = and_then (f k) (λ v. and_then (numbers_of f (k + 1) n) (λ vs. Ok (v ∷ vs)))

-- the matrix of so many places and columns, or the first refusal; a matrix without columns has no place
abbrev pub matrix_of : {N T F : Type 0} → Model N T F → Op → Wrt → ℕ → T → List N → ℕ → Result (List N) F
matrix_of m op wrt columns t x n = numbers_of (entries m op wrt columns t x) 0 n

-- The law of a filled buffer: without a refusal it holds just the matrix, whatever it held before.
abbrev pub Gathers : {N F : Type 0} → Result (List N) F → Result (Unit {0}) F → List N → Type 0
Gathers (Ok cells) r out = (r ≡ Ok tt) × (out ≡ cells)
Gathers (Err e) r out = r ≡ Err e
