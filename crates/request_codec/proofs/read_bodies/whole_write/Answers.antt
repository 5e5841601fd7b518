use Rattle.std.proofs.Common.{◌∙◌, sym}
use Rattle.request_codec.specs.Fields.{field}
use Rattle.request_codec.proofs.Fields.{past_number, same_cell, if_none}
use Rattle.request_codec.proofs.read_bodies.whole_write.Goals as goal

pub returns-in_err-row-clause-none : goal.returns-in_err-row-clause-none
returns-in_err-row-clause-none c =
    if_none c.from_residual-in_err-row.result (λ start cell value fits short e.
    c.in_err-row.ensures.none cell (field value) fits (past_number 8 c.in_ok-start.start start _ _ (sym c.in_ok-start.ensures.found ∙ e)))

pub returns-in_err-value-clause-none : goal.returns-in_err-value-clause-none
returns-in_err-value-clause-none c =
    if_none c.from_residual-in_err-value.result (λ start cell value fits short e.
    c.in_err-value.ensures.none value short
    (same_cell _ cell _ _ c.in_ok-row.ensures.fits fits
    (sym c.in_ok-row.ensures.found ∙ past_number 8 c.in_ok-start.start start _ _ (sym c.in_ok-start.ensures.found ∙ e))).1)
