use Rattle.std.proofs.Common.{◌∙◌, sym}
use Rattle.request_codec.proofs.Fields.{past_number, if_none}
use Rattle.request_codec.proofs.read_bodies.whole_version.Goals as goal

pub returns-in_err-value-clause-none : goal.returns-in_err-value-clause-none
returns-in_err-value-clause-none c =
    if_none c.from_residual-in_err-value.result (λ stamp value fits e. c.in_err-value.ensures.none value fits (past_number 8 c.in_ok-stamp.stamp stamp _ _ (sym c.in_ok-stamp.ensures.found ∙ e)))
