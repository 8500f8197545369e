-- A pad in contact with the rider: z' = v, v' = ((-kz) - cv) - g; output and root z; the reset turns v to -(bv).
use Rattle.std.specs.Prelude.{ℕ, true, List, [], ◌∷◌, Some, Ok}
use Rattle.scalar.specs.Ops.{Ops}
use Rattle.scalar.specs.Vectors.{at}
use Rattle.equations.specs.declared.contact.Contact.{Contact}
use Rattle.equations.specs.declared.op.Op.{Op}
use Rattle.equations.specs.declared.op.Op.TheVariants.{Rhs, Out, Root, Reset, Init}
use Rattle.equations.specs.declared.op.By.{By}
use Rattle.equations.specs.declared.op.By.TheVariants.{State, Parameter, Time}
use Rattle.std.specs.declared.convert.Infallible.{Infallible}
use Rattle.equations.specs.Model.{Model, cell}

module _ {N : Type 0} (o : Ops N) (pad : Contact N) where
  abbrev none : N
  none = o.whole 0

  abbrev one : N
  one = o.whole 1

  abbrev pub values : Op → N → N → List N
  values Rhs z v = v ∷ o.minus (o.minus (o.negated (o.times pad.k z)) (o.times pad.c v)) pad.g ∷ []
  values Out z v = z ∷ none ∷ []
  values Root z v = z ∷ none ∷ []
  values Reset z v = z ∷ o.negated (o.times pad.b v) ∷ []
  values Init z v = []

  -- by z and v; an entry that is not written is zero
  abbrev pub by_state : Op → List (List N)
  by_state Rhs = (none ∷ one ∷ []) ∷ (o.negated pad.k ∷ o.negated pad.c ∷ []) ∷ []
  by_state Out = (one ∷ none ∷ []) ∷ []
  by_state Root = (one ∷ none ∷ []) ∷ []
  by_state Reset = (one ∷ none ∷ []) ∷ (none ∷ o.negated pad.b ∷ []) ∷ []
  by_state Init = []

  -- by k, c, g and b; an entry that is not written is zero
  abbrev pub by_parameter : Op → N → N → List (List N)
  by_parameter Rhs z v = [] ∷ (o.negated z ∷ o.negated v ∷ o.negated one ∷ none ∷ []) ∷ []
  by_parameter Reset z v = [] ∷ (none ∷ none ∷ none ∷ o.negated v ∷ []) ∷ []
  by_parameter _ z v = []

  abbrev pub derivatives : Op → By → N → N → ℕ → N
  derivatives op (State j) z v i = cell o (by_state op) i j
  derivatives op (Parameter j) z v i = cell o (by_parameter op z v) i j
  derivatives op Time z v i = none

  abbrev pub contact : {T : Type 0} → Model N T Infallible
  contact = record {
    states = 2;
    parameters = 4;
    outputs = Some 1;
    roots = 1;
    resets = true;
    value = λ op t x i. Ok (at o (values op (at o x 0) (at o x 1)) i);
    derivative = λ op by t x i. Ok (derivatives op by (at o x 0) (at o x 1) i);
  }
