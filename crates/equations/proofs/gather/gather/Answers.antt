use Rattle.std.proofs.Common.{◌≡◌, ℕ, ◌+◌, ◌/◌, ◌%◌, ◌<◌, sym, ap, ◌∙◌, arith}
use Rattle.std.proofs.lemmas.Grind.{common_steps}
use Rattle.equations.proofs.Entries.{next_row, next_column}
use Rattle.equations.proofs.gather.gather.Goals.{then-j-columns, else-j-columns}
use Rattle.equations.proofs.gather.gather.Goals as goal

pub loop-cell-preserved : goal.loop-cell-preserved
loop-cell-preserved g c =
    let k = c.loop-cell.cell-index in
    let n = c.args.columns in
    let Place : ℕ → ℕ → Type 0 = λ a b. (a ≡ (k + 1) / n) × (b ≡ (k + 1) % n) in
    let row = c.loop-cell.invariant.0 in
    let column = c.loop-cell.invariant.1 in
    let some : 0 < n = omega arith in
    let place : Place c.if-j-columns.i c.if-j-columns.j =
    elim c.if-j-columns.branch [
      | then-j-columns w ↦ let h = next_row n k some (ap (λ a. a + 1) (sym column) ∙ w.if-j-columns.true) in (w.i-is ∙ ap (λ a. a + 1) row ∙ h.0, w.j-is ∙ h.1)
      | else-j-columns w ↦ let h = next_column n k some (λ e. w.if-j-columns.false (ap (λ a. a + 1) column ∙ e)) in (w.i-is ∙ row ∙ h.0, w.j-is ∙ ap (λ a. a + 1) column ∙ h.1)
    ] in
    (place.0, place.1, grind (arith, common_steps))
