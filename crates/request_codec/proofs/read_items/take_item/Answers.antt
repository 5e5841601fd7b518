use Rattle.std.proofs.Common.{List, ℕ, ◌++◌, ◌∙◌, ap, sym}
use Rattle.si_model.specs.Reads.{cell_of}
use Rattle.request_codec.specs.Fields.{cell_fields}
use Rattle.request_codec.specs.Scans.{lent_said}
use Rattle.request_codec.proofs.Fields.{if_none, same_cell}
use Rattle.request_codec.proofs.Scans.{item-append, named_fits}
use Rattle.request_codec.proofs.read_items.take_item.Goals as goal

pub returns-in_err-row-clause-none : goal.returns-in_err-row-clause-none
returns-in_err-row-clause-none c =
    if_none c.from_residual.result (λ item after fits e. c.in_err-row.ensures.none item.0 _ fits.named (e ∙ item-append item after))

pub returns-in_err-found-clause-none : goal.returns-in_err-found-clause-none
returns-in_err-found-clause-none c =
    if_none c.from_residual-in_err-found.result (λ item after fits e.
    c.in_err-found.ensures.none item.1 after fits.said
    (same_cell _ item.0 _ _ (named_fits _ c.in_ok-row.ensures.named) (named_fits item.0 fits.named) (sym c.in_ok-row.ensures.found ∙ e ∙ item-append item after)).1)

pub returns-clause-found : goal.returns-clause-found
returns-clause-found c =
    let cell = cell_of c.in_ok-row.row.now c.in_ok-row.family.now in
    let said = lent_said c.in_ok-found.found in
    c.in_ok-row.ensures.found ∙ ap (λ (t : List ℕ). cell_fields cell ++ t) c.in_ok-found.ensures.found ∙ sym (item-append (cell, said) c.take_said.new.rest.now)
