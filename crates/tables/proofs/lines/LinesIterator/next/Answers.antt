use Rattle.std.proofs.Common.{◌≡◌, ◌∷◌, ◌+◌, ◌<◌, length, drop, sym, refl, ap, ◌∙◌, arith, rules}
use Rattle.std.proofs.lemmas.List.{take_rest, drop-drop}
use Rattle.std.proofs.lemmas.Bool.{eqb-false}
use Rattle.tables.specs.Text.{lines_of}
use Rattle.tables.proofs.Cutting.{line_first, past_end}
use Rattle.tables.proofs.lines.LinesIterator.next.Goals as goal
use Rattle.tables.proofs.lines.LinesIterator.next.Goals.{in-empty, in-len1-up}

pub returns : goal.returns
returns c =
    let rest = c.args.self.now.rest.now in
    let end = c.line_end.result in
    let after = c.split_at.result.1.now in
    let some : 0 < length rest = omega (arith, eqb-false (length rest) 0 (sym c.if-is_empty.ensures)) in
    let left : c.if-after-lt1.self.now ≡ drop (end + 1) rest = elim c.if-after-lt1.branch [
      | in-empty w ↦ ap (λ r. r.now) w.self-is ∙ past_end rest after end c.split_at.ensures.back w.in-empty.len_below
      | in-len1-up w ↦ ap (λ r. r.now) w.self-is ∙ take_rest after 1 ∙ ap (drop 1) c.split_at.ensures.back ∙ drop-drop 1 end rest
    ] in
    let e : lines_of rest ≡ c.split_at.result.0.now ∷ lines_of c.if-after-lt1.self.now =
    line_first rest end c.line_end.ensures some ∙ ap (λ w. w ∷ lines_of (drop (end + 1) rest)) (sym c.split_at.ensures.front) ∙ ap (λ r. c.split_at.result.0.now ∷ lines_of r) (sym left) in
    record { steps = (ap (λ ls. (c.args.self.now.number, ls)) e, refl); goes = search rules }
