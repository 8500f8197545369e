use Rattle.std.proofs.Common.{◌≡◌}
use Rattle.scalar.specs.Vectors.{sum_to, at, row_by_row}
use Rattle.scalar.proofs.matrix.Rows.column_times.Given as goal

abbrev pub invariant-loop-i : goal.invariant-loop-i
invariant-loop-i g l = let o = g.N.Scalar.kind.ops in l.sum ≡ sum_to o (λ i. o.times (row_by_row o l.self.entries.now l.self.columns i l.j) (at o l.v i)) l.i
