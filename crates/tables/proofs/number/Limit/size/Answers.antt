use Rattle.std.proofs.Common.{◌+◌, ◌∙◌, arith}
use Rattle.std.proofs.lemmas.Grind.{common_steps}
use Rattle.tables.proofs.Counting.{decimal_more}
use Rattle.tables.proofs.number.Limit.size.Goals as goal

pub loop-b-preserved : goal.loop-b-preserved
loop-b-preserved c = (
  grind (arith, common_steps),
  decimal_more c.args.digits.now c.loop-b.b-index c.loop-b.n c.min-n.result (c.args.self.most + 1) (omega arith) (omega arith) (omega arith) ∙ c.loop-b.invariant.1,
)
