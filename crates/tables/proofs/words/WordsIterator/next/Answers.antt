use Rattle.std.proofs.Common.{◌≡◌, ◌∷◌, drop, sym, ap, ◌∙◌, arith, rules}
use Rattle.tables.specs.Text.{words_of}
use Rattle.tables.proofs.Cutting.{word_first}
use Rattle.tables.proofs.words.WordsIterator.next.Goals as goal

pub returns-then-end-gt0 : goal.returns-then-end-gt0
returns-then-end-gt0 c =
    let line = c.loop-self.self.rest.now in
    let e : words_of c.args.self.now.rest.now ≡ c.split_at.result.0.now ∷ words_of c.split_at.result.1.now =
    c.loop-self.invariant ∙ word_first line c.next_break-end.result (omega arith) c.next_break-end.ensures.first
    ∙ ap (λ w. w ∷ words_of (drop c.next_break-end.result line)) (sym c.split_at.ensures.front) ∙ ap (λ r. c.split_at.result.0.now ∷ words_of r) (sym c.split_at.ensures.back) in
    record { steps = e; goes = search rules }
