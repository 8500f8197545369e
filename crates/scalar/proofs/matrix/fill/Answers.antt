use Rattle.std.proofs.Common.{◌++◌, ◌∷◌, [], map, sym, ap, ◌∙◌, arith}
use Rattle.std.specs.List.{range_with_len}
use Rattle.std.proofs.lemmas.List.{take_more_set}
use Rattle.std.proofs.lemmas.List.FromFn.{map-range_with_len_more}
use Rattle.scalar.proofs.matrix.fill.Goals as goal

pub loop-i-preserved : goal.loop-i-preserved
loop-i-preserved g c entry agrees =
    let i = c.loop-i.i in
    take_more_set c.loop-i.out i c.f.result (omega arith)
    ∙ ap (λ a. a ++ c.f.result ∷ []) (c.loop-i.invariant entry agrees)
    ∙ ap (λ y. map entry (range_with_len 0 i) ++ y ∷ []) (agrees _ _ c.f.ensures)
    ∙ sym (map-range_with_len_more entry 0 i i (omega arith))
