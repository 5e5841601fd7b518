use Rattle.std.proofs.Common.{◌∙◌, sym}
use Rattle.request_codec.proofs.Fields.{past_number, if_none}
use Rattle.request_codec.proofs.read_bodies.whole_visits.Goals as goal

pub returns-in_err-visits-clause-none : goal.returns-in_err-visits-clause-none
returns-in_err-visits-clause-none c =
    if_none c.from_residual-in_err-visits.result (λ m n e. c.in_err-visits.ensures.none n (past_number 8 c.in_ok-collector.collector m _ _ (sym c.in_ok-collector.ensures.found ∙ e)))
