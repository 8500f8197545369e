use Rattle.std.proofs.Common.{◌≡◌, Ok, rules}
use Rattle.tables.specs.Parts.{said_of}
use Rattle.tables.specs.Rides.{Said, ride_of}
use Rattle.tables.proofs.Laws.{sound}
use Rattle.tables.proofs.reader.read.Goals as goal

pub returns : goal.returns
returns c =
    let said : Said = said_of record { checkpoints = c.in_ok-checkpoints.field-0; samples = c.in_ok-samples.field-0; settings = c.in_ok-settings.field-0 } in
    let reads : ride_of c.args.largest c.args.input.now ≡ Ok said = search rules in
    record { reads = reads; sound = sound c.args.largest c.args.input.now said reads }
