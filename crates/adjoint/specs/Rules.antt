-- What the pass does to all s and all sg at an instant, at a touchdown and at the start.
use Rattle.std.specs.Prelude.{◌≡◌, ℕ, ◌+◌, ◌*◌, Bool, List, [], ◌∷◌, ◌++◌, length, take, drop, Some, None, Ok, Err, Option, Result, ◌==◌}
use Rattle.scalar.specs.Ops.{Ops}
use Rattle.scalar.specs.Vectors.{placewise}
use Rattle.equations.specs.Model.{Model, matrix_of, and_then}
use Rattle.equations.specs.declared.op.Op.TheVariants.{Init, Out}
use Rattle.equations.specs.declared.op.Wrt.TheVariants.{Parameters, States}
use Rattle.refusals.specs.declared.sizes.Size.{Size as Which}
use Rattle.refusals.specs.declared.sizes.Size.TheVariants.{Vector, WorkingSpace, Columns, ForwardState}
use Rattle.refusals.specs.declared.sizes.WrongSize.{WrongSize}
use Rattle.refusals.specs.Sizes.{first_wrong}
use Rattle.adjoint.specs.declared.faults.RuleFault.{RuleFault}
use Rattle.adjoint.specs.declared.faults.RuleFault.TheVariants.{Size, Model as Passed}
use Rattle.adjoint.specs.declared.lanes.Mode.TheVariants.{Lose}
use Rattle.adjoint.specs.declared.measures.Sizes.{Sizes}
use Rattle.adjoint.specs.Sizes.{limits, made_for, rows_of}
use Rattle.adjoint.specs.Lanes.{with_products}

-- a rule whose sizes were looked at first
abbrev pub sized : {A F : Type 0} → Result (Unit {0}) WrongSize → Result A (RuleFault F) → Result A (RuleFault F)
sized (Ok u) r = r
sized (Err w) r = Err (Size w)

-- a model's refusal is passed on
abbrev pub of_model : {A F : Type 0} → Result A F → Result A (RuleFault F)
of_model (Ok x) = Ok x
of_model (Err e) = Err (Passed e)

-- an answer, with what was filled in
abbrev pub cells_of : {N E : Type 0} → Result (Unit {0}) E → List N → Result (List N) E
cells_of (Ok u) cells = Ok cells
cells_of (Err e) cells = Err e

-- A rule answers what the vector becomes, or a refusal, and then the vector stays.
abbrev pub Does : {N F : Type 0} → Result (List N) F → Result (Unit {0}) F → List N → List N → Type 0
Does (Ok v) r old new = (r ≡ Ok tt) × (new ≡ v)
Does (Err e) r old new = (r ≡ Err e) × (new ≡ old)

module _ {N T F : Type 0} (o : Ops N) (m : Model N T F) (channels : ℕ) where
  -- of a vector: all s, and all sg
  abbrev pub states : List N → List N
  states v = take (channels * m.states) v

  abbrev pub gradients : List N → List N
  gradients v = drop (channels * m.states) v

  -- of what is lent: whether it is as long as the sizes ask
  abbrev pub vector_fits : List N → Bool × Which
  vector_fits v = ((length v == channels * m.states + channels * m.parameters), Vector)

  abbrev pub space_fits : Sizes → Bool × Which
  space_fits space = (made_for m channels space, WorkingSpace)

  -- At the start: sg less the initial state's parameter product of s.
  abbrev pub corrected : T → List N → Result (List N) F
  corrected start v =
      and_then (matrix_of m Init Parameters m.parameters start [] (m.states * m.parameters))
      (λ p. Ok (states v ++ with_products o Lose p m.parameters m.states (states v) channels (gradients v)))

  abbrev pub correction : Sizes → T → List N → Result (List N) (RuleFault F)
  correction space start v = sized (first_wrong (limits m channels ++ (vector_fits v ∷ space_fits space ∷ []))) (of_model (corrected start v))

  -- At an instant, x the forward state there and dg the columns of all lanes. With outputs: sg less their parameter product of dg,
  -- then s less their state product of dg. Without: s plus dg.
  abbrev pub jumped_by : Option ℕ → T → List N → List N → List N → Result (List N) F
  jumped_by None t x dg v = Ok (placewise o.plus (states v) dg ++ gradients v)
  jumped_by (Some rows) t x dg v =
      and_then (matrix_of m Out Parameters m.parameters t x (rows * m.parameters)) (λ p.
      and_then (matrix_of m Out States m.states t x (rows * m.states)) (λ q.
      Ok (with_products o Lose q m.states rows dg channels (states v) ++ with_products o Lose p m.parameters rows dg channels (gradients v))))

  abbrev pub jumped : T → List N → List N → List N → Result (List N) F
  jumped t x dg v = jumped_by m.outputs t x dg v

  abbrev pub jump : Sizes → T → List N → List N → List N → Result (List N) (RuleFault F)
  jump space t x dg v =
      sized
      (first_wrong (limits m channels ++ (((length dg == channels * rows_of m), Columns) ∷ vector_fits v ∷ ((length x == m.states), ForwardState) ∷ space_fits space ∷ [])))
      (of_model (jumped t x dg v))
