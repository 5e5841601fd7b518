use Rattle.std.proofs.Common.{◌-◌, ◌+◌, arith}
use Rattle.std.proofs.lemmas.Bool.{false≢true}
use Rattle.request_codec.specs.Scans.{lent_item}
use Rattle.request_codec.proofs.Scans.{none_missing, one_more, one_less}
use Rattle.request_codec.proofs.read_items.are_items.Goals as goal

pub returns-in_default : goal.returns-in_default
returns-in_default c =
    (λ no. absurd (false≢true no), λ are. absurd (none_missing (c.args.count - c.loop.counter) (c.args.count - (c.loop.counter + 1)) c.loop.rest.now (omega (arith, c.loop-test.true)) (c.loop.invariant.1 are) c.in_default.ensures.none))

pub loop-preserved : goal.loop-preserved
loop-preserved c =
    let item = lent_item c.in-Some.field-0 in
    let found = c.in-Some.ensures in (
      λ left. c.loop.invariant.0 (one_more (c.args.count - c.loop.counter) (c.args.count - (c.loop.counter + 1)) item c.loop.rest.now c.take_item.new.rest.now (omega (arith, c.loop-test.true)) found.fits found.found left),
      λ are. one_less (c.args.count - c.loop.counter) (c.args.count - (c.loop.counter + 1)) item c.loop.rest.now c.take_item.new.rest.now (omega (arith, c.loop-test.true)) found.fits found.found (c.loop.invariant.1 are),
    )
