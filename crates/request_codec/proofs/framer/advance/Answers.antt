use Rattle.std.proofs.Common.{◌≤◌, ◌+◌, length, refl, arith}
use Rattle.request_codec.proofs.FirstFrames.{IsTooLong-from_header, IsPartial-from_header, frame-from_header}
use Rattle.request_codec.proofs.framer.advance.Goals as goal

pub returns-then-len-gt-LONGEST_BODY-clause-first :
    goal.returns-then-len-gt-LONGEST_BODY-clause-first
returns-then-len-gt-LONGEST_BODY-clause-first c =
    (IsTooLong-from_header _ _ _ c.in-Some.ensures.some c.length_in-len.ensures.value c.in-Some.ensures.four c.if-len-gt-LONGEST_BODY.true, refl)

pub returns-then-len-clause-first : goal.returns-then-len-clause-first
returns-then-len-clause-first c =
    let n = c.length_in-len.result in
    (IsPartial-from_header _ _ n c.in-Some.ensures.some c.length_in-len.ensures.value c.if-len-gt-LONGEST_BODY.false (omega (arith, c.if-len.true, c.len.ensures.len)), refl)

pub returns-clause-first : goal.returns-clause-first
returns-clause-first c =
    let n = c.length_in-len.result in
    let whole : 4 + n ≤ length c.args.ring.now.items = omega (arith, c.if-len.false, c.len.ensures.len) in (
      c.if-len-gt-LONGEST_BODY.false,
      omega (arith, c.if-len-gt-LONGEST_BODY.false, c.take_body.ensures.same, c.requires),
      frame-from_header _ _ _ _ n c.in-Some.ensures.some c.length_in-len.ensures.spells whole c.take_body.ensures.body c.take_body.ensures.items,
    )
