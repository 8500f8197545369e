use Rattle.std.proofs.Common.{◌≡◌, drop}
use Rattle.refusals.specs.Sizes.{first_wrong}
use Rattle.refusals.proofs.sizes.first_wrong.Given as goal

-- what is left gives the answer
abbrev pub invariant-loop-fits : goal.invariant-loop-fits
invariant-loop-fits l = first_wrong (drop l.fits-index l.tests) ≡ first_wrong l.tests
