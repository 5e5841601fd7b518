use Rattle.request_codec.proofs.OneAnswer.{one_answer}
use Rattle.request_codec.proofs.laws.one_answer_a_body.Goals as goal

pub returns : goal.returns
returns c = one_answer
