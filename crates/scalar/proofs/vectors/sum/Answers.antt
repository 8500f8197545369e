use Rattle.std.proofs.Common.{arith}
use Rattle.std.proofs.lemmas.Grind.{common_steps}
use Rattle.scalar.proofs.vectors.sum.Goals as goal

-- the law of + and no more, so that the loop may go over any slice
pub loop-x-preserved : goal.loop-x-preserved
loop-x-preserved g c = let s = g.met.N.Scalar.adds _ _ c.add-sum.result c.add-sum.ensures in grind (arith, common_steps)
