use Rattle.std.proofs.Common.{ap, ◌∙◌}
use Rattle.tables.specs.Text.{words_of}
use Rattle.tables.proofs.Comparing.{same_at, same_law}
use Rattle.tables.proofs.words.same_words.Goals as goal

pub returns : goal.returns
returns c =
    let (it, xs, ys, o, p, u, v, e, a, b, z, l) = c.eq.ensures.ran in
    same_law (λ s. words_of s.rest.now) xs ys c.new.result it a.0 b.0 u v o p c.eq.result a.1 b.1 z a.2 b.2 l
    ∙ same_at _ _ _ _ (ap words_of c.new.ensures) (ap (λ s. words_of s.rest.now) e ∙ ap words_of c.new-2.ensures)
