use Rattle.std.proofs.Common.{◌∙◌, sym}
use Rattle.request_codec.proofs.Fields.{past_number, if_none}
use Rattle.request_codec.proofs.read_bodies.whole_conflict.Goals as goal

pub returns-in_err-place-clause-none : goal.returns-in_err-place-clause-none
returns-in_err-place-clause-none c =
    if_none c.from_residual-in_err-place.result (λ m n e. c.in_err-place.ensures.none n (past_number 8 c.in_ok-start.start m _ _ (sym c.in_ok-start.ensures.found ∙ e)))
