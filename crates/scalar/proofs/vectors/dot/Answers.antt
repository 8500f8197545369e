use Rattle.std.proofs.Common.{◌≡◌, ◌+◌, [], ◌∷◌, ◌++◌, length, length-append}
use Rattle.std.proofs.lemmas.Slice.Zip.{zip_turn}
use Rattle.scalar.specs.Vectors.{at}
use Rattle.scalar.proofs.Sums.{sum_more}
use Rattle.scalar.proofs.vectors.dot.Goals as goal

pub loop-x-preserved : goal.loop-x-preserved
loop-x-preserved g c =
    let o = g.N.Scalar.kind.ops in
    let xs = c.args.xs.now in
    let ys = c.args.ys.now in
    let n = length c.loop-x.yielded in
    let t = zip_turn xs ys c.loop-x.yielded _ _ c.next.new.self _ (cc) (cc) c.loop-x.yielded_by _ c.in-Some.is c.next.ensures.steps in
    let x : c.in-Some.x.now ≡ at o xs n = t.2 _ in
    let y : c.in-Some.y.now ≡ at o ys n = t.3 _ in
    let more : length (c.loop-x.yielded ++ (c.in-Some.x, c.in-Some.y) ∷ []) ≡ n + 1 = length-append c.loop-x.yielded _ in
    let p = g.met.N.Scalar.muls _ _ c.mul.result c.mul.ensures in
    let s = g.met.N.Scalar.adds _ _ c.add-sum.result c.add-sum.ensures in
    let e = sum_more o (λ i. o.times (at o xs i) (at o ys i)) n in
    cc
