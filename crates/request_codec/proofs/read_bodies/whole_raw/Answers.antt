use Rattle.std.proofs.Common.{◌∙◌, sym}
use Rattle.request_codec.proofs.Fields.{same_cell, same_qualifier, if_none}
use Rattle.request_codec.proofs.read_bodies.whole_raw.Goals as goal

pub returns-in_err-qualifier-clause-none : goal.returns-in_err-qualifier-clause-none
returns-in_err-qualifier-clause-none c =
    if_none c.from_residual-in_err-qualifier.result (λ cell qualifier low high fits e.
    c.in_err-qualifier.ensures.none qualifier _ (same_cell _ cell _ _ c.in_ok-row.ensures.fits fits (sym c.in_ok-row.ensures.found ∙ e)).1)

pub returns-in_err-lo-clause-none : goal.returns-in_err-lo-clause-none
returns-in_err-lo-clause-none c =
    if_none c.from_residual-in_err-lo.result (λ cell qualifier low high fits e.
    c.in_err-lo.ensures.none low high
    (same_qualifier c.in_ok-qualifier.qualifier qualifier _ _
    (sym c.in_ok-qualifier.ensures.found ∙ (same_cell _ cell _ _ c.in_ok-row.ensures.fits fits (sym c.in_ok-row.ensures.found ∙ e)).1)).1)
