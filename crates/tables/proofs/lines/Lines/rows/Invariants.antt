use Rattle.std.proofs.Common.{◌≡◌, ◌+◌, ◌≤◌, length, vec_items, vec_len}
use Rattle.tables.specs.Parts.{joined}
use Rattle.tables.specs.Tables.{ahead, rows_of}
use Rattle.tables.specs.Text.{lines_of}
use Rattle.tables.proofs.lines.Lines.rows.Given as goal

abbrev pub invariant-loop-line : goal.invariant-loop-line
invariant-loop-line g l =
    (l.initial.self.number + vec_len l.rows ≤ l.self.number)
    × (rows_of l.limit.most g.row.W l.initial.self.number (lines_of l.initial.self.rest.now)
    ≡ ahead (joined (vec_items l.rows)) (rows_of l.limit.most g.row.W l.self.number (lines_of l.self.rest.now)))

abbrev pub decreases-loop-line : goal.decreases-loop-line
decreases-loop-line g l = length (lines_of l.self.rest.now)
