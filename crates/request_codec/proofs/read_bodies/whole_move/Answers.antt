use Rattle.std.proofs.Common.{◌∙◌, sym}
use Rattle.request_codec.proofs.Fields.{past_number, if_none}
use Rattle.request_codec.proofs.read_bodies.whole_move.Goals as goal

pub returns-in_err-server-clause-none : goal.returns-in_err-server-clause-none
returns-in_err-server-clause-none c =
    if_none c.from_residual-in_err-server.result (λ m n e. c.in_err-server.ensures.none n (past_number 4 c.in_ok-tablet.tablet m _ _ (sym c.in_ok-tablet.ensures.found ∙ e)))
