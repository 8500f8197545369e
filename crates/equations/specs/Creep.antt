-- Foam that creeps under a load: x_j' = a_j(load - x_j), with no outputs, roots or reset. The parameters are the a_j and then the load.
use Rattle.std.specs.Prelude.{ℕ, ◌-◌, false, cond, List, length, None, Ok, ◌==◌, nat_lt}
use Rattle.scalar.specs.Ops.{Ops}
use Rattle.scalar.specs.Vectors.{at}
use Rattle.equations.specs.declared.creep.Creep.{Creep}
use Rattle.equations.specs.declared.op.Op.{Op}
use Rattle.equations.specs.declared.op.Op.TheVariants.{Rhs}
use Rattle.equations.specs.declared.op.By.{By}
use Rattle.equations.specs.declared.op.By.TheVariants.{State, Parameter, Time}
use Rattle.std.specs.declared.convert.Infallible.{Infallible}
use Rattle.equations.specs.Model.{Model}

module _ {N : Type 0} (o : Ops N) (foam : Creep N) where
  abbrev p : List N
  p = foam.parameters.now

  -- one state for each parameter but the last, which is the load
  abbrev pub cells : ℕ
  cells = length p - 1

  abbrev pub load : N
  load = at o p cells

  -- the rate of cell i; past the cells, zero
  abbrev pub rate : ℕ → N
  rate i = cond (nat_lt i cells) (at o p i) (o.whole 0)

  abbrev pub values : Op → List N → ℕ → N
  values Rhs x i = o.times (rate i) (o.minus load (at o x i))
  values _ x i = o.whole 0

  -- of component i of the right-hand side: by x_i, by a_i and by the load, and zero by every other
  abbrev pub derivatives : By → List N → ℕ → N
  derivatives (State j) x i = cond (i == j) (o.negated (rate i)) (o.whole 0)
  derivatives (Parameter j) x i = cond (j == cells) (rate i) (cond (i == j) (o.minus load (at o x i)) (o.whole 0))
  derivatives Time x i = o.whole 0

  abbrev pub derivative : Op → By → List N → ℕ → N
  derivative Rhs by x i = derivatives by x i
  derivative _ by x i = o.whole 0

  abbrev pub creep : {T : Type 0} → Model N T Infallible
  creep = record {
    states = cells;
    parameters = length p;
    outputs = None;
    roots = 0;
    resets = false;
    value = λ op t x i. Ok (values op x i);
    derivative = λ op by t x i. Ok (derivative op by x i);
  }
