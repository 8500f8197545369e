use Rattle.std.proofs.Common.{◌≡◌, ◌≤◌, length, take}
use Rattle.checkpointing.specs.Segments.{last_of}
use Rattle.checkpointing.proofs.segments.segment_of.Given as goal

abbrev pub invariant-loop-rest : goal.invariant-loop-rest
invariant-loop-rest g l =
    (length l.rest ≤ length l.ends)
    × (l.rest ≡ take (length l.rest) l.ends)
    × (last_of g.N.Scalar.kind l.ends l.t (length l.rest) ≡ last_of g.N.Scalar.kind l.ends l.t (length l.ends))

abbrev pub decreases-loop-rest : goal.decreases-loop-rest
decreases-loop-rest g l = length l.rest
