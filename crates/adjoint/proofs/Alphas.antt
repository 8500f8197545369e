-- The lanes of α.
use Rattle.std.proofs.Common.{ℕ, List}
use Rattle.scalar.specs.Ops.{Ops}
use Rattle.adjoint.specs.Lanes.{lane_of}
use Rattle.adjoint.specs.Reset.{at_root, alpha}

-- what lane i holds then, whatever it held
abbrev pub alpha_lane : {N : Type 0} → Ops N → List N → N → ℕ → ℕ → ℕ → List N → ℕ → List N → List N
alpha_lane o gap rate n r w s i part = at_root o n r (alpha o gap rate (lane_of w s i))
