use Rattle.std.proofs.Common.{◌≡◌, get_or, ap, ◌∙◌, add-one, arith, rules}
use Rattle.scalar.proofs.Placewise.{placewise_more, placewise_all}
use Rattle.scalar.proofs.vectors.combine.Goals as goal

pub loop-i-preserved : goal.loop-i-preserved
loop-i-preserved g c op agrees =
    let ys = c.loop-i.ys in
    let xs = c.args.xs.now in
    let i = c.loop-i.i in
    let y : c.index-ys-i.result ≡ get_or ys i c.index-ys-i.result = search rules in
    let v = agrees _ _ _ c.f.ensures ∙ ap (λ a. op a c.index-xs-i.result) y in
    rw (add-one) (placewise_more op ys xs i c.index-ys-i.result c.index-xs-i.result _ (omega arith) (omega arith) (search rules) v) ∙ c.loop-i.invariant op agrees

pub returns : goal.returns
returns g c op agrees = placewise_all op c.loop-i.ys c.args.xs.now c.args.ys.now c.loop-i.i (omega arith) (omega arith) (c.loop-i.invariant op agrees)
