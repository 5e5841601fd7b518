use Rattle.std.proofs.Common.{arith}
use Rattle.request_codec.proofs.Fields.{length-field}
use Rattle.request_codec.proofs.write_scans.optional_length.Goals as goal

pub returns-in-Some-clause-length : goal.returns-in-Some-clause-length
returns-in-Some-clause-length c = rw (c.in-Some.is) (omega (arith, length-field c.in-Some.bytes.now))
