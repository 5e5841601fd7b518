use Rattle.std.proofs.Common.{◌∙◌, ap, ◌++◌, sym}
use Rattle.request_codec.specs.Fields.{field}
use Rattle.request_codec.proofs.Fields.{cell-append, same_field, if_none}
use Rattle.request_codec.proofs.read_fields.take_cell.Goals as goal

pub returns-in_err-row-clause-none : goal.returns-in_err-row-clause-none
returns-in_err-row-clause-none c =
    if_none c.from_residual.result (λ cell after fits e. c.in_err-row.ensures.none cell.row _ fits.row (e ∙ cell-append cell after))

pub returns-in_err-family-clause-none : goal.returns-in_err-family-clause-none
returns-in_err-family-clause-none c =
    if_none c.from_residual-in_err-family.result (λ cell after fits e.
    c.in_err-family.ensures.none cell.family after fits.family
    (same_field c.in_ok-row.row.now cell.row _ _ c.in_ok-row.ensures.fits fits.row (sym c.in_ok-row.ensures.found ∙ e ∙ cell-append cell after)).1)

pub returns-clause-found : goal.returns-clause-found
returns-clause-found c =
    c.in_ok-row.ensures.found ∙ ap (λ t. field c.in_ok-row.row.now ++ t) c.in_ok-family.ensures.found ∙ sym (cell-append _ c.take_bytes-2.new.rest.now)
