use Rattle.std.proofs.Common.{◌∙◌, ◌/◌, arith, ap}
use Rattle.std.specs.Prelude.{bit_xor}
use Rattle.commit_log.specs.Crc32.{shifted}
use Rattle.commit_log.proofs.Tables.{byte_at_once}
use Rattle.commit_log.proofs.checksums.next_byte.Goals as goal

pub returns : goal.returns
unfolding shifted
returns c = ap (bit_xor (c.args.sum / 256)) c.shifted.ensures ∙ byte_at_once c.args.sum c.args.byte (omega arith)
