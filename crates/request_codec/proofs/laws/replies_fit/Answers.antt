use Rattle.request_codec.proofs.Longest.{length-frame, short_body}
use Rattle.std.proofs.Common.{arith}
use Rattle.request_codec.specs.Replies.{reply_body}
use Rattle.request_codec.proofs.laws.replies_fit.Goals as goal

pub returns : goal.returns
returns c = λ reply within. omega (arith, length-frame (reply_body reply), short_body reply within)
