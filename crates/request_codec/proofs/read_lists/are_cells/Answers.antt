use Rattle.std.proofs.Common.{◌-◌, ◌+◌, arith}
use Rattle.std.proofs.lemmas.Bool.{false≢true}
use Rattle.si_model.specs.Answers.{cell_named}
use Rattle.request_codec.specs.Fields.{cell_fields, FitsCell}
use Rattle.request_codec.proofs.Fields.{same_cell}
use Rattle.request_codec.proofs.Parts.{none_missing, one_more, one_less}
use Rattle.request_codec.proofs.read_lists.are_cells.Goals as goal

pub returns-in_default : goal.returns-in_default
returns-in_default c =
    (λ no. absurd (false≢true no), λ are. absurd (none_missing FitsCell cell_fields (c.args.count - c.loop.counter) (c.args.count - (c.loop.counter + 1)) c.loop.rest.now (omega (arith, c.loop-test.true)) (c.loop.invariant.1 are) c.in_default.ensures.none))

pub loop-preserved : goal.loop-preserved
loop-preserved c =
    let part = cell_named c.in-Some.field-0 in
    let found = c.in-Some.ensures in (
      λ left. c.loop.invariant.0 (one_more FitsCell cell_fields (c.args.count - c.loop.counter) (c.args.count - (c.loop.counter + 1)) part c.loop.rest.now c.take_name.new.rest.now (omega (arith, c.loop-test.true)) found.fits found.found left),
      λ are. one_less FitsCell cell_fields same_cell (c.args.count - c.loop.counter) (c.args.count - (c.loop.counter + 1)) part c.loop.rest.now c.take_name.new.rest.now (omega (arith, c.loop-test.true)) found.fits found.found (c.loop.invariant.1 are),
    )
