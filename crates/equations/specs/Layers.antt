-- Layers over any model, each a model again.
use Rattle.std.specs.Prelude.{ℕ, cond, Some, None, Ok, Err, Option, Result, nat_lt}
use Rattle.scalar.specs.Ops.{Ops}
use Rattle.equations.specs.declared.op.Op.{Op}
use Rattle.equations.specs.declared.op.Op.TheVariants.{Out}
use Rattle.equations.specs.declared.op.By.{By}
use Rattle.equations.specs.declared.op.By.TheVariants.{Parameter}
use Rattle.equations.specs.Model.{Model}

module _ {N F : Type 0} (o : Ops N) where
  -- an answer times w, a refusal as it is
  abbrev pub times : N → Result N F → Result N F
  times w (Ok x) = Ok (o.times x w)
  times w (Err e) = Err e

  -- an answer about the outputs times w, and any other as it is
  abbrev pub on_out : N → Op → Result N F → Result N F
  on_out w Out r = times w r
  on_out w _ r = r

  -- so where the model has an output function; else nothing changes
  abbrev pub if_any : Option ℕ → N → Op → Result N F → Result N F
  if_any None w op r = r
  if_any (Some n) w op r = on_out w op r

  -- the outputs, if any, times a weight
  abbrev pub weighted : {T : Type 0} → N → Model N T F → Model N T F
  weighted w m = record m {
    value = λ op t x i. if_any m.outputs w op (m.value op t x i);
    derivative = λ op by t x i. if_any m.outputs w op (m.derivative op by t x i);
  }

  abbrev pub below : ℕ → By → Result N F → Result N F
  below p (Parameter j) r = cond (nat_lt j p) (Ok (o.whole 0)) r
  below p _ r = r

  -- the first p parameter columns are zero, in every function
  abbrev pub zeroed : {T : Type 0} → ℕ → Model N T F → Model N T F
  zeroed p m = record m { derivative = λ op by t x i. below p by (m.derivative op by t x i) }
