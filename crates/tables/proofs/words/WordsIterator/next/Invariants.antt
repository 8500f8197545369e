use Rattle.std.proofs.Common.{◌≡◌, length}
use Rattle.tables.specs.Text.{words_of}
use Rattle.tables.proofs.words.WordsIterator.next.Given as goal

abbrev pub invariant-loop-self : goal.invariant-loop-self
invariant-loop-self l = words_of l.initial.self.rest.now ≡ words_of l.self.rest.now

abbrev pub decreases-loop-self : goal.decreases-loop-self
decreases-loop-self l = length l.self.rest.now
