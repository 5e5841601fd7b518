use Rattle.request_codec.proofs.OneReply.{one_reply}
use Rattle.request_codec.proofs.laws.one_reply_a_body.Goals as goal

pub returns : goal.returns
returns c = one_reply
