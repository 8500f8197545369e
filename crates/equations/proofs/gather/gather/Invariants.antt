use Rattle.std.proofs.Common.{◌≡◌, ◌/◌, ◌%◌}
use Rattle.equations.specs.Model.{entries, filled_from}
use Rattle.equations.proofs.Fills.{partly}
use Rattle.equations.proofs.gather.gather.Given as goal

-- i and j are row and column of the place, and what is left to fill gives the whole
abbrev pub invariant-loop-cell : goal.invariant-loop-cell
invariant-loop-cell g l =
    let f = entries (g.E.OdeEquations.model l.eqn) l.op l.wrt l.columns l.t l.x in
    (l.i ≡ l.cell-index / l.columns) × (l.j ≡ l.cell-index % l.columns) × (partly f l.out l.cell-index ≡ filled_from f 0 l.initial.out)
