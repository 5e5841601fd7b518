use Rattle.si_model.specs.Answers.{cell_named}
use Rattle.request_codec.specs.Fields.{FitsCell}
use Rattle.request_codec.proofs.OperationParts.{fit_at}
use Rattle.request_codec.proofs.write_lists.cells_length.Goals as goal

pub name_length-sum-requires : goal.name_length-sum-requires
name_length-sum-requires c = fit_at FitsCell cell_named c.args.cells.now c.loop-cell.cell-index _ c.loop-cell-test.true c.requires.fits
