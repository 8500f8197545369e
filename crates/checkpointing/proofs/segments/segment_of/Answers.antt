use Rattle.std.proofs.Common.{◌≡◌, ◌-◌, length, take, Some, sym, ap, ◌∙◌, arith}
use Rattle.std.proofs.lemmas.List.{length-take-le, take-take}
use Rattle.checkpointing.specs.Segments.{last_of}
use Rattle.checkpointing.proofs.Belonging.{found, passed, front, last_is}
use Rattle.checkpointing.proofs.segments.segment_of.Goals as goal

pub returns-then-belongs : goal.returns-then-belongs
returns-then-belongs g c =
    let t = c.args.t in
    let ends = c.args.ends.now in
    let rest = c.loop-rest.rest.now in
    let n = length rest in
    let below : length (take (n - 1) rest) ≡ n - 1 = length-take-le (n - 1) rest (omega arith) in
    let here = front g.N.Scalar.kind ends t rest _ _ (omega arith) c.loop-rest.invariant.1 c.index-rest-rest.is c.index-rest-rest-in-loop-rest.is in
    let e = ap Some below ∙ sym (found g.N.Scalar.kind ends t n (omega arith) (cc)) ∙ c.loop-rest.invariant.2 in
    record { answer = e; last = last_is g.N.Scalar.kind ends t _ e }

pub loop-rest-preserved : goal.loop-rest-preserved
loop-rest-preserved g c =
    let t = c.args.t in
    let ends = c.args.ends.now in
    let rest = c.loop-rest.rest.now in
    let n = length rest in
    let below : length (take (n - 1) rest) ≡ n - 1 = length-take-le (n - 1) rest (omega arith) in
    let here = front g.N.Scalar.kind ends t rest _ _ (omega arith) c.loop-rest.invariant.1 c.index-rest-rest.is c.index-rest-rest-in-loop-rest.is in (
      omega arith,
      ap (take (n - 1)) c.loop-rest.invariant.1 ∙ take-take (n - 1) n ends (omega arith) ∙ ap (λ m. take m ends) (sym below),
      ap (last_of g.N.Scalar.kind ends t) below ∙ sym (passed g.N.Scalar.kind ends t n (omega arith) (cc)) ∙ c.loop-rest.invariant.2,
    )

pub returns-clause-last : goal.returns-clause-last
returns-clause-last g c =
    let none : 0 ≡ length c.loop-rest.rest.now = omega arith in
    last_is g.N.Scalar.kind c.args.ends.now c.args.t _ (ap (last_of g.N.Scalar.kind c.args.ends.now c.args.t) none ∙ c.loop-rest.invariant.2)
