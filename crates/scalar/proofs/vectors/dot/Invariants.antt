use Rattle.std.proofs.Common.{◌≡◌, length}
use Rattle.scalar.specs.Vectors.{sum_to, at}
use Rattle.scalar.proofs.vectors.dot.Given as goal

abbrev pub invariant-loop-x : goal.invariant-loop-x
invariant-loop-x g l = let o = g.N.Scalar.kind.ops in l.sum ≡ sum_to o (λ i. o.times (at o l.xs i) (at o l.ys i)) (length l.yielded)
