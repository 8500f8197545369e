use Rattle.std.proofs.Common.{rules}
use Rattle.tables.specs.Parts.{left_of}
use Rattle.tables.proofs.Lining.{find_law}
use Rattle.tables.proofs.lines.Lines.next_full.Goals as goal

pub returns-clause-next : goal.returns-clause-next
returns-clause-next c =
    let (xs, j, y, z, l) = c.find.ensures.ran in
    find_law left_of (λ line. (line.number, line.text.now)) _ _ (λ x b q k. search rules) c.args.self.now c.find.new.self j xs y.0 c.find.result y.1 y.2 z l
