-- What a touchdown does to all s and all sg: the boundary of a segment is crossed from above.
use Rattle.std.specs.Prelude.{◌≡◌, ℕ, zero, suc, ◌+◌, ◌*◌, Bool, cond, List, [], ◌∷◌, ◌++◌, map, length, take, drop, Some, None, Ok, Err, Option, Result, ◌==◌, nat_lt}
use Rattle.std.specs.List.{range_with_len}
use Rattle.scalar.specs.Ops.{Ops}
use Rattle.scalar.specs.Vectors.{at, placewise, dot_of, product, row_by_row}
use Rattle.equations.specs.Model.{Model, matrix_of, and_then}
use Rattle.equations.specs.declared.op.Op.{Op}
use Rattle.equations.specs.declared.op.Op.TheVariants.{Root, Reset}
use Rattle.equations.specs.declared.op.Wrt.{Wrt}
use Rattle.equations.specs.declared.op.Wrt.TheVariants.{Parameters, States, TimeOnly}
use Rattle.refusals.specs.declared.sizes.Size.TheVariants.{CheckpointState, CheckpointSlope}
use Rattle.refusals.specs.Sizes.{first_wrong}
use Rattle.adjoint.specs.declared.faults.RuleFault.{RuleFault}
use Rattle.adjoint.specs.declared.faults.RuleFault.TheVariants.{NoRootIndex, NoReset, NoRoot, RootIndex, SmallDenominator}
use Rattle.adjoint.specs.declared.lanes.Mode.TheVariants.{Become, Lose, Gain}
use Rattle.adjoint.specs.declared.measures.Sizes.{Sizes}
use Rattle.adjoint.specs.declared.reset.Boundary.{Boundary}
use Rattle.adjoint.specs.declared.work.Work.{Work}
use Rattle.adjoint.specs.Sizes.{limits}
use Rattle.adjoint.specs.Lanes.{lane_of, with_products}
use Rattle.adjoint.specs.Rules.{sized, of_model, states, gradients, vector_fits, space_fits}

-- what a boundary gives to every lane: the reset's and the root's entries by state, what the slope below lacks to the one
-- above, and how fast the root is crossed
pub record Terms (N : Type 0) : Type 0 where
  pub reset : List N
  pub root : List N
  pub gap : List N
  pub rate : N

-- an answer, with what was filled in
abbrev pub terms_of : {N E : Type 0} → Result N E → List N → List N → List N → Result (Terms N) E
terms_of (Ok rate) reset root gap = Ok (record { reset = reset; root = root; gap = gap; rate = rate })
terms_of (Err e) reset root gap = Err e

-- so many lanes, one after the other
abbrev pub joined : {N : Type 0} → (ℕ → List N) → ℕ → ℕ → List N
joined f i zero = []
joined f i (suc n) = f i ++ joined f (i + 1) n

module _ {N : Type 0} (o : Ops N) where
  -- (reset Jacobian × slope below + reset time derivative) - slope above
  abbrev pub gap_of : List N → List N → List N → List N → ℕ → List N
  gap_of p pt below above n = placewise o.minus (placewise o.plus (product o (row_by_row o p (length below)) below n) pt) above

  -- (root Jacobian × slope below) at r, plus the root's time derivative there
  abbrev pub rate_of : List N → List N → List N → ℕ → ℕ → N
  rate_of q qt below n r = o.plus (at o (product o (row_by_row o q (length below)) below n) r) (at o qt r)

  -- too small to divide by
  abbrev pub small : N → Bool
  small rate = o.at_most (o.abs rate) (o.times (o.whole 100) o.eps)

  abbrev pub alpha : List N → N → List N → N
  alpha gap rate s = o.over (dot_of o s gap) rate

  -- a at r, and zero at the other n places
  abbrev pub at_root : ℕ → ℕ → N → List N
  at_root n r a = map (λ i. cond (i == r) a (o.whole 0)) (range_with_len 0 n)

  -- for each lane its α at r: n roots, w states
  abbrev pub alphas : List N → N → ℕ → ℕ → ℕ → List N → ℕ → List N
  alphas gap rate n r w s lanes = joined (λ i. at_root n r (alpha gap rate (lane_of w s i))) 0 lanes

  -- The vector of n lanes with so many states, parameters and roots, from its old s and sg. β has each lane's α. s becomes the root product of α, less the
  -- reset product of the old s; sg loses the old s's reset parameter product (entries pp), then gains the root's (entries qp).
  abbrev pub crossed_with : ℕ → ℕ → ℕ → ℕ → Terms N → List N → List N → List N → List N → List N → List N
  crossed_with n ns np nr k pp qp β s sg =
      with_products o Lose k.reset ns ns s n (with_products o Become k.root ns nr β n s)
      ++ with_products o Gain qp np nr β n (with_products o Lose pp np ns s n sg)

  -- so where root r is crossed at a rate, with the sizes and the derivatives that stand in working space
  abbrev pub crossed_by : ℕ → N → Work N → List N → List N
  crossed_by r rate w v =
      let n = w.sizes.channels in
      let ns = w.sizes.states in
      let nr = w.sizes.roots in
      let s = take (n * ns) v in
      let k : Terms N = record { reset = w.crossing.reset_by_state.items; root = w.crossing.root_by_state.items; gap = w.crossing.gap.items; rate = rate } in
      crossed_with n ns w.sizes.parameters nr k w.by_parameter.items w.root_by_parameter.items (alphas k.gap rate nr r ns s n) s (drop (n * ns) v)

module _ {N T F : Type 0} (o : Ops N) (m : Model N T F) where
  -- the root that ended the segment below
  abbrev pub rooted : ℕ → Option ℕ → Result ℕ (RuleFault F)
  rooted segment None = Err (NoRootIndex segment)
  rooted segment (Some r) = cond m.resets (cond (nat_lt 0 m.roots) (cond (nat_lt r m.roots) (Ok r) (Err (RootIndex r))) (Err (NoRoot segment))) (Err (NoReset segment))

  -- at the time t and the state y below the boundary: a matrix of entries
  abbrev pub entries_at : Op → Wrt → ℕ → T → List N → ℕ → Result (List N) (RuleFault F)
  entries_at op wrt columns t y n = of_model (matrix_of m op wrt columns t y n)

  abbrev pub terms_at : ℕ → T → List N → List N → List N → Result (Terms N) (RuleFault F)
  terms_at r t y below above =
      and_then (entries_at Reset States m.states t y (m.states * m.states)) (λ p.
      and_then (entries_at Reset TimeOnly 1 t y m.states) (λ pt.
      and_then (entries_at Root States m.states t y (m.roots * m.states)) (λ q.
      and_then (entries_at Root TimeOnly 1 t y m.roots) (λ qt.
      cond (small o (rate_of o q qt below m.roots r)) (Err SmallDenominator) (Ok (record { reset = p; root = q; gap = gap_of o p pt below above m.states; rate = rate_of o q qt below m.roots r }))))))

  -- If the rate at which root r is crossed is answered, working space holds the boundary's derivatives; else the first refusal is told.
  abbrev pub Derives : ℕ → Boundary N T → Result N (RuleFault F) → Work N → Type 0
  Derives r b (Ok rate) w =
      (terms_at r b.t b.y.now b.below.now b.above.now ≡ Ok (record { reset = w.crossing.reset_by_state.items; root = w.crossing.root_by_state.items; gap = w.crossing.gap.items; rate = rate }))
      × (entries_at Reset Parameters m.parameters b.t b.y.now (m.states * m.parameters) ≡ Ok w.by_parameter.items)
      × (entries_at Root Parameters m.parameters b.t b.y.now (m.roots * m.parameters) ≡ Ok w.root_by_parameter.items)
  Derives r b (Err e) w =
      and_then (terms_at r b.t b.y.now b.below.now b.above.now) (λ k.
      and_then (entries_at Reset Parameters m.parameters b.t b.y.now (m.states * m.parameters)) (λ pp.
      entries_at Root Parameters m.parameters b.t b.y.now (m.roots * m.parameters)))
      ≡ Err e

  module _ (channels : ℕ) where
    -- so with the sizes of the model
    abbrev pub crossed : Terms N → List N → List N → List N → List N → List N
    crossed k pp qp β v = crossed_with o channels m.states m.parameters m.roots k pp qp β (states o m channels v) (gradients o m channels v)

    abbrev pub reset_at : ℕ → T → List N → List N → List N → List N → Result (List N) (RuleFault F)
    reset_at r t y below above v =
        and_then (terms_at r t y below above) (λ k.
        and_then (entries_at Reset Parameters m.parameters t y (m.states * m.parameters)) (λ pp.
        and_then (entries_at Root Parameters m.parameters t y (m.roots * m.parameters)) (λ qp.
        Ok (crossed k pp qp (alphas o k.gap k.rate m.roots r m.states (states o m channels v) channels) v))))

    -- the boundary below a segment, with the root index of the segment under it
    abbrev pub reset : Sizes → ℕ → Option ℕ → T → List N → List N → List N → List N → Result (List N) (RuleFault F)
    reset space segment root t y below above v =
        sized
        (first_wrong (limits m channels ++ (((length y == m.states), CheckpointState) ∷ ((length below == m.states), CheckpointSlope) ∷ ((length above == m.states), CheckpointSlope) ∷ vector_fits o m channels v ∷ space_fits o m channels space ∷ [])))
        (and_then (rooted segment root) (λ r. reset_at r t y below above v))
