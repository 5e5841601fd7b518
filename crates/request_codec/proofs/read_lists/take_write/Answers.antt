use Rattle.std.proofs.Common.{List, ℕ, ◌++◌, ◌∙◌, ap, sym, option_map}
use Rattle.si_model.specs.Answers.{cell_named}
use Rattle.si_model.specs.Machine.{Change}
use Rattle.si_model.specs.declared.replies.Cell.{Cell}
use Rattle.request_codec.specs.Fields.{cell_fields}
use Rattle.request_codec.proofs.Fields.{if_none, same_cell}
use Rattle.request_codec.proofs.OperationParts.{write-append}
use Rattle.request_codec.proofs.read_lists.take_write.Goals as goal

pub returns-in_err-cell-clause-none : goal.returns-in_err-cell-clause-none
returns-in_err-cell-clause-none c =
    if_none c.from_residual.result (λ write after fits e. c.in_err-cell.ensures.none write.0 _ fits.cell (e ∙ write-append write after))

pub returns-in_err-value-clause-none : goal.returns-in_err-value-clause-none
returns-in_err-value-clause-none c =
    if_none c.from_residual-in_err-value.result (λ write after fits e.
    c.in_err-value.ensures.none write.1 after fits.value
    (same_cell _ write.0 _ _ c.in_ok-cell.ensures.fits fits.cell (sym c.in_ok-cell.ensures.found ∙ e ∙ write-append write after)).1)

pub returns-clause-found : goal.returns-clause-found
returns-clause-found c =
    let cell = cell_named c.in_ok-cell.cell in
    let write : Cell × Change = (cell, option_map (λ value. value.now) c.in_ok-value.value) in
    c.in_ok-cell.ensures.found ∙ ap (λ (t : List ℕ). cell_fields cell ++ t) c.in_ok-value.ensures.found ∙ sym (write-append write c.take_optional_bytes.new.rest.now)
