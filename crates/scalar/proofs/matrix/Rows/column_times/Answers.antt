use Rattle.std.proofs.Common.{◌≡◌, arith}
use Rattle.std.proofs.lemmas.List.{get_or_read}
use Rattle.scalar.specs.Vectors.{at, row_by_row}
use Rattle.scalar.proofs.Sums.{sum_more}
use Rattle.scalar.proofs.matrix.Rows.column_times.Goals as goal

pub loop-i-preserved : goal.loop-i-preserved
loop-i-preserved g c =
    let o = g.N.Scalar.kind.ops in
    let m = c.args.self.now in
    let x : _ ≡ at o c.args.v.now c.loop-i.i = get_or_read c.args.v.now c.loop-i.i _ (omega arith) c.index-v-i.is _ in
    let p = g.met.N.Scalar.muls _ _ c.mul.result c.mul.ensures in
    let s = g.met.N.Scalar.adds _ _ c.add-sum.result c.add-sum.ensures in
    let e = sum_more o (λ n. o.times (row_by_row o m.entries.now m.columns n c.args.j) (at o c.args.v.now n)) c.loop-i.i in
    cc
