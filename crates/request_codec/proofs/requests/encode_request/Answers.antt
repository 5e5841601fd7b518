use Rattle.std.proofs.Common.{arith}
use Rattle.std.proofs.lemmas.Bool.{false≢true}
use Rattle.request_codec.proofs.requests.encode_request.Goals as goal

pub returns-in_err-reserve-clause-room : goal.returns-in_err-reserve-clause-room
returns-in_err-reserve-clause-room c = λ fits. absurd (false≢true (c.in_err-reserve.ensures.succeeds (omega (arith, fits, c.request_length.ensures))))
