use Rattle.si_model.specs.Answers.{write_named}
use Rattle.request_codec.specs.Operations.{WriteFits}
use Rattle.request_codec.proofs.OperationParts.{fit_at}
use Rattle.request_codec.proofs.write_lists.push_writes.Goals as goal

pub push_write-requires-clause-fits : goal.push_write-requires-clause-fits
push_write-requires-clause-fits c = fit_at WriteFits write_named c.args.writes.now c.loop-write.write-index _ c.loop-write-test.true c.requires.fits
