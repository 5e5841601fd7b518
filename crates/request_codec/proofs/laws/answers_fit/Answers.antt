use Rattle.request_codec.proofs.OneAnswer.{answer_fits, short_answer}
use Rattle.request_codec.proofs.laws.answers_fit.Goals as goal

pub returns : goal.returns
returns c = λ answer within. (answer_fits answer within, short_answer answer within)
