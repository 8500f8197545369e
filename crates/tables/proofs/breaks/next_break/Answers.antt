use Rattle.std.proofs.Common.{◌≡◌, true, false, length, arith, rules}
use Rattle.std.proofs.lemmas.Iterator.{YieldsList-from_slice, IsFirst-from_position}
use Rattle.tables.specs.Breaks.{is_break, First}
use Rattle.tables.proofs.Breaking.{first_of, one_first, first_found, first_none}
use Rattle.tables.proofs.breaks.next_break.Goals as goal

pub returns-in_default : goal.returns-in_default
returns-in_default c =
    let past = c.in_default.ensures.lookup.0 in
    let f : First is_break c.args.input.now c.args.from (length c.args.input.now) = record {
      within = omega arith;
      after = λ l. absurd (omega arith);
      none = λ k lo hi. absurd (omega (arith, past));
      found = λ l. absurd (omega arith);
    } in
    record { place = one_first _ _ _ _ f (first_of _ _); first = f }

pub returns-in-Some-position : goal.returns-in-Some-position
returns-in-Some-position c =
    let at = c.in-Some.ensures.lookup.0 in
    let rest = c.in-Some.rest.now in
    let found = IsFirst-from_position _ _ _ (λ b. is_break b ≡ true) (λ b. is_break b ≡ false) c.in-Some-position.ensures.ran (YieldsList-from_slice rest c.iter.ensures.rest) (λ x q k. search rules) (λ x q k. search rules) in
    let f = first_found c.args.input.now rest c.args.from at.0 at.2 c.in-Some-position.n found in
    record { place = one_first _ _ _ _ f (first_of _ _); first = f }

pub returns-in-None : goal.returns-in-None
returns-in-None c =
    let at = c.in-Some.ensures.lookup.0 in
    let rest = c.in-Some.rest.now in
    let none = IsFirst-from_position _ _ _ (λ b. is_break b ≡ true) (λ b. is_break b ≡ false) c.in-None.ensures.ran (YieldsList-from_slice rest c.iter.ensures.rest) (λ x q k. search rules) (λ x q k. search rules) in
    let f = first_none c.args.input.now rest c.args.from at.0 at.2 none in
    record { place = one_first _ _ _ _ f (first_of _ _); first = f }
