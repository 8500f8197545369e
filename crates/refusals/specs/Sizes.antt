-- Tests of sizes, one after the other.
use Rattle.std.specs.Prelude.{Bool, cond, List, [], ◌∷◌, Ok, Err, Result}
use Rattle.refusals.specs.declared.sizes.Size.{Size}
use Rattle.refusals.specs.declared.sizes.WrongSize.{WrongSize}

-- each size with whether it is right: the first that is not is refused
abbrev pub first_wrong : List (Bool × Size) → Result (Unit {0}) WrongSize
first_wrong [] = Ok tt
first_wrong (test ∷ rest) = cond test.0 (first_wrong rest) (Err (record { size = test.1; index = 0 }))
