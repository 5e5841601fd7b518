use Rattle.std.proofs.Common.{◌-◌, ◌+◌, option_map, arith}
use Rattle.std.proofs.lemmas.Bool.{false≢true}
use Rattle.request_codec.specs.Answers.{told_fields, ToldFits}
use Rattle.request_codec.specs.Scans.{lent_said}
use Rattle.request_codec.proofs.Told.{same_told}
use Rattle.request_codec.proofs.Parts.{none_missing, one_more, one_less}
use Rattle.request_codec.proofs.read_told.are_told.Goals as goal

pub returns-in_default : goal.returns-in_default
returns-in_default c =
    (λ no. absurd (false≢true no), λ are. absurd (none_missing ToldFits told_fields (c.args.count - c.loop.counter) (c.args.count - (c.loop.counter + 1)) c.loop.rest.now (omega (arith, c.loop-test.true)) (c.loop.invariant.1 are) c.in_default.ensures.none))

pub loop-preserved : goal.loop-preserved
loop-preserved c =
    let part = option_map lent_said c.in-Some.field-0 in
    let found = c.in-Some.ensures in (
      λ left. c.loop.invariant.0 (one_more ToldFits told_fields (c.args.count - c.loop.counter) (c.args.count - (c.loop.counter + 1)) part c.loop.rest.now c.take_told.new.rest.now (omega (arith, c.loop-test.true)) found.fits found.found left),
      λ are. one_less ToldFits told_fields same_told (c.args.count - c.loop.counter) (c.args.count - (c.loop.counter + 1)) part c.loop.rest.now c.take_told.new.rest.now (omega (arith, c.loop-test.true)) found.fits found.found (c.loop.invariant.1 are),
    )
