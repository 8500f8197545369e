use Rattle.std.proofs.Common.{◌+◌, ◌-◌, ◌<◌, [], ◌∷◌, ◌++◌, length, take, Err, sym, ap, ◌∙◌, length-set, arith, w64, SFits, rules}
use Rattle.std.proofs.lemmas.List.{take_more_set}
use Rattle.std.proofs.lemmas.Int.{to_z-of_z}
use Rattle.std.proofs.lemmas.Result.{err_from_is_err_and}
use Rattle.tables.proofs.Rowing.{row_few, row_bad, row_more}
use Rattle.tables.proofs.row.row.Goals as goal

pub returns-in_default : goal.returns-in_default
returns-in_default g c = sym (row_few _ (g.row.W - c.loop-z.z-index) _ _ _ c.loop-z.invariant.1 (omega arith) c.in_default.ensures.steps.0)

pub returns-in_err-z : goal.returns-in_err-z
returns-in_err-z g c =
    let p = err_from_is_err_and c.from_residual.result c.from_residual.ensures.1 in
    p.1 ∙ ap Err p.2 ∙ sym (row_bad _ (g.row.W - c.loop-z.z-index) _ _ _ c.loop-z.invariant.1 _ _ _ (omega arith) c.in-Some.ensures.steps c.in_err-z.ensures)

pub loop-z-preserved : goal.loop-z-preserved
loop-z-preserved g c =
    let zs = c.loop-z.z-items in
    let i = c.loop-z.z-index in
    let z = c.in_ok-z.field-0 in
    let fits : SFits w64 z = search rules in
    let within : i < length zs = omega (arith, c.loop-z.invariant.0) in (
      length-set _ _ _ ∙ c.loop-z.invariant.0,
      row_more _ (g.row.W - i) _ _ _ c.loop-z.invariant.1 (g.row.W - (i + 1)) _ _ z _ (omega arith) c.in-Some.ensures.steps c.in_ok-z.ensures
          (take_more_set zs i _ within ∙ ap (λ y. take i zs ++ y ∷ []) (to_z-of_z w64 z fits)),
    )
