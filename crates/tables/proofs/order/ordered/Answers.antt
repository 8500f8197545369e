use Rattle.std.proofs.Common.{◌≡◌, ◌+◌, ◌-◌, get_or, take, drop, length, [], pos, ◌+ℤ◌, sym, refl, ap, ◌∙◌, inl, inr, arith, w64, SFits, to_z, of_z, rules}
use Rattle.std.proofs.lemmas.Int.{ints, to_z-of_z, of_z-to_z}
use Rattle.tables.specs.Parts.{joined}
use Rattle.tables.specs.Rides.{segments, steps_of}
use Rattle.tables.proofs.Ordering.{sevens_later, order_start, order_more, order_other}
use Rattle.tables.proofs.order.ordered.Goals as goal
use Rattle.tables.proofs.order.ordered.Goals.{else-segment-last-via-then-segment-last+else-segment-last-2, else-segment-last-via-else-segment-last}

pub loop-k-init : goal.loop-k-init
loop-k-init c =
    let rows = c.args.rows.now in
    let fits : SFits w64 (get_or (get_or rows 0 []) 0 (pos 0)) = search rules in
    let zero : get_or (get_or rows 0 []) 0 (pos 0) ≡ pos 0 = omega (arith, ints) in
    let one : c.args.first + 1 ≡ c.args.first + 1 + 0 = omega arith in
    let later = take (length rows - 1) (drop 1 rows) in
    (omega (arith, ints), omega (arith, ints), order_start rows c.args.first c.told-rows (omega arith) zero ∙ ap (λ n. steps_of n (pos 0) (segments 0 (joined later))) one)

pub returns-then-segment-last-2 : goal.returns-then-segment-last-2
returns-then-segment-last-2 c =
    let rows = c.args.rows.now in
    let later = take (length rows - 1) (drop 1 rows) in
    let z = get_or (get_or later c.loop-k.k []) 0 (pos 0) in
    let fits : SFits w64 z = search rules in
    order_other later (sevens_later rows c.told-rows) c.loop-k.k c.loop-k-test.true _ _ _ c.loop-k.invariant.2 z refl
    (λ e. c.if-segment-last.true (ap (of_z w64) e ∙ of_z-to_z w64 _ c.loop-k.auto.last.fits)) (λ e. c.if-segment-last-2.true (ap (of_z w64) e))

pub loop-k-preserved : goal.loop-k-preserved
loop-k-preserved c =
    let rows = c.args.rows.now in
    let later = take (length rows - 1) (drop 1 rows) in
    let k = c.loop-k.k in
    let z = get_or (get_or later k []) 0 (pos 0) in
    let fits : SFits w64 z = search rules in
    let back : to_z w64 (of_z w64 z) ≡ z = to_z-of_z w64 z fits in
    let more = order_more later (sevens_later rows c.told-rows) k c.loop-k-test.true _ _ _ c.loop-k.invariant.2 (c.args.first + 1 + (k + 1)) (to_z w64 (of_z w64 z)) (omega arith) back in
    elim c.else-segment-last.branch [
      | else-segment-last-via-then-segment-last+else-segment-last-2 w ↦
          let next : to_z w64 (of_z w64 z) ≡ c.loop-k.last +ℤ pos 1 = omega (arith, ints) in
          (omega (arith, ints), omega (arith, ints), more (inr (next ∙ ap (λ p. p +ℤ pos 1) (sym c.loop-k.last-is))))
      | else-segment-last-via-else-segment-last w ↦
          let same : to_z w64 (of_z w64 z) ≡ to_z w64 c.loop-k.last-bits = ap (to_z w64) w.if-segment-last.false in
          (omega (arith, ints), omega (arith, ints), more (inl same))
    ]
