use Rattle.std.proofs.Common.{◌≡◌, ◌-◌, length, take}
use Rattle.tables.specs.Tables.{row_of}
use Rattle.tables.specs.Text.{words_of}
use Rattle.tables.proofs.Rowing.{on_row}
use Rattle.tables.proofs.row.row.Given as goal

abbrev pub invariant-loop-z : goal.invariant-loop-z
invariant-loop-z g l =
    (length l.z-items ≡ g.row.W)
    × (row_of l.limit.most g.row.W (words_of l.line) ≡ on_row (take l.z-index l.z-items) (row_of l.limit.most (g.row.W - l.z-index) (words_of l.words.rest.now)))
