use Rattle.std.proofs.Common.{arith}
use Rattle.si_model.specs.Reads.{cell_of}
use Rattle.request_codec.proofs.Fields.{length-cell}
use Rattle.request_codec.proofs.write_scans.optional_cell_length.Goals as goal

pub returns-in-Some-clause-length : goal.returns-in-Some-clause-length
returns-in-Some-clause-length c = rw (c.in-Some.is) (omega (arith, length-cell (cell_of c.in-Some.row.now c.in-Some.family.now)))
