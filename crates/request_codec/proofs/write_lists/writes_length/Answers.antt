use Rattle.si_model.specs.Answers.{write_named}
use Rattle.request_codec.specs.Operations.{WriteFits}
use Rattle.request_codec.proofs.OperationParts.{fit_at}
use Rattle.request_codec.proofs.write_lists.writes_length.Goals as goal

pub write_length-sum-requires : goal.write_length-sum-requires
write_length-sum-requires c = fit_at WriteFits write_named c.args.writes.now c.loop-write.write-index _ c.loop-write-test.true c.requires.fits
