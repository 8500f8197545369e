use Rattle.std.proofs.Common.{length, arith}
use Rattle.std.proofs.lemmas.List.FromFn.{fill_by_all}
use Rattle.scalar.specs.Vectors.{at}
use Rattle.checkpointing.specs.Knots.{hermite, between}
use Rattle.checkpointing.proofs.hermite.fill_between.Goals as goal

pub returns : goal.returns
unfolding between
returns g c =
    let o = g.N.Scalar.kind.ops in
    let a = c.args.a in
    let b = c.args.b in
    fill_by_all
    (λ i. hermite o a.t (at o a.u.now i) (at o a.f.now i) b.t (at o b.u.now i) (at o b.f.now i) c.args.t)
    c.loop-i.out
    (length a.u.now)
    (o.whole 0)
    (omega (arith, c.requires))
    (λ k h. c.loop-i.invariant _ _ c.between-w.ensures k (omega (arith, c.requires)))
