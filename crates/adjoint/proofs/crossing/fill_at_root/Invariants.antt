use Rattle.std.proofs.Common.{◌≡◌, ℕ, ◌<◌, cond, eqb}
use Rattle.scalar.specs.Vectors.{at}
use Rattle.adjoint.proofs.crossing.fill_at_root.Given as goal

abbrev pub invariant-loop-i : goal.invariant-loop-i
invariant-loop-i g l =
    let o = g.N.Scalar.kind.ops in
    (k : ℕ) → k < l.i → at o l.part k ≡ cond (eqb k l.r) l.a (o.whole 0)
