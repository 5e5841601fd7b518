use Rattle.request_codec.proofs.Fields.{on_err}
use Rattle.request_codec.proofs.OneAnswer.{reply_needs}
use Rattle.request_codec.proofs.answers.decode_answer.Goals as goal

pub returns-in_err-reply-in_default-operation-clause-needed :
    goal.returns-in_err-reply-in_default-operation-clause-needed
returns-in_err-reply-in_default-operation-clause-needed c =
    on_err c.from_residual-in_err-reply-in_default-operation.result (reply_needs c.args.body.now c.in_err-reply-in_default-operation.ensures.needed)
