-- What the reader's own values stand for.
use Rattle.std.specs.Prelude.{List, ℤ, vec_items}
use Rattle.std.specs.List.{flat_map}
use Rattle.tables.specs.declared.lines.Lines.{Lines}
use Rattle.tables.specs.declared.reader.Ride.{Ride}
use Rattle.tables.specs.Rides.{Said}
use Rattle.tables.specs.Tables.{Left}
use Rattle.tables.specs.Text.{lines_of}

-- the lines that are left, with the number of the first of them
abbrev pub left_of : Lines → Left
left_of lines = (lines.number, lines_of lines.rest.now)

-- the numbers of rows, each row after the one before
abbrev pub joined : List (List ℤ) → List ℤ
joined rows = flat_map (λ row. row) rows

-- the numbers of a table, and the lines after it
abbrev pub read_of : List (List ℤ) → Lines → List ℤ × Left
read_of rows lines = (joined rows, left_of lines)

-- the numbers of a ride
abbrev pub said_of : Ride → Said
said_of r = record { checkpoints = joined (vec_items r.checkpoints); samples = joined (vec_items r.samples); settings = r.settings }
