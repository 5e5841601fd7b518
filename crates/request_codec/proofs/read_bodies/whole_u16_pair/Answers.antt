use Rattle.std.proofs.Common.{◌∙◌, sym}
use Rattle.request_codec.proofs.Fields.{past_number, if_none}
use Rattle.request_codec.proofs.read_bodies.whole_u16_pair.Goals as goal

pub returns-in_err-second-clause-none : goal.returns-in_err-second-clause-none
returns-in_err-second-clause-none c =
    if_none c.from_residual-in_err-second.result (λ m n e. c.in_err-second.ensures.none n (past_number 2 c.in_ok-first.first m _ _ (sym c.in_ok-first.ensures.found ∙ e)))
