use Rattle.std.proofs.Common.{arith}
use Rattle.si_model.specs.Replies.{range_of}
use Rattle.request_codec.proofs.Scans.{length-range}
use Rattle.request_codec.proofs.write_scans.range_length.Goals as goal

pub returns-clause-length : goal.returns-clause-length
returns-clause-length c =
    omega (arith, c.optional_cell_length.ensures.length, c.optional_length.ensures.length, c.optional_length-2.ensures.length, length-range (range_of c.args.range))
