use Rattle.si_model.specs.Answers.{cell_named}
use Rattle.request_codec.specs.Fields.{FitsCell}
use Rattle.request_codec.proofs.OperationParts.{fit_at}
use Rattle.request_codec.proofs.write_lists.push_cells.Goals as goal

pub push_name-requires-clause-fits : goal.push_name-requires-clause-fits
push_name-requires-clause-fits c = fit_at FitsCell cell_named c.args.cells.now c.loop-cell.cell-index _ c.loop-cell-test.true c.requires.fits
