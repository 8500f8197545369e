use Rattle.std.proofs.Common.{cond, eqb, length, arith}
use Rattle.std.proofs.lemmas.List.FromFn.{fill_by_all}
use Rattle.adjoint.proofs.crossing.fill_at_root.Goals as goal

pub returns : goal.returns
returns g c =
    let o = g.N.Scalar.kind.ops in
    fill_by_all (λ i. cond (eqb i c.args.r) c.args.a (o.whole 0)) c.loop-i.part (length c.args.part.now) (o.whole 0) (omega arith) (λ k h. c.loop-i.invariant k (omega arith))
