use Rattle.std.proofs.Common.{[], ◌∙◌, sym, append-nil}
use Rattle.request_codec.specs.Fields.{cell_fields}
use Rattle.request_codec.proofs.Fields.{past_number, left_cell, if_none}
use Rattle.request_codec.proofs.read_bodies.whole_read.Goals as goal

pub returns-in_err-row-clause-none : goal.returns-in_err-row-clause-none
returns-in_err-row-clause-none c =
    if_none c.from_residual-in_err-row.result (λ start cell fits e.
    c.in_err-row.ensures.none cell [] fits
    (past_number 8 c.in_ok-start.start start _ _ (sym c.in_ok-start.ensures.found ∙ e) ∙ sym (append-nil (cell_fields cell))))

pub returns-else-is_empty-clause-none : goal.returns-else-is_empty-clause-none
returns-else-is_empty-clause-none c = λ start cell fits e.
    left_cell _ cell c.take_cell.new.rest.now c.take_u64.new.rest.now c.in_ok-row.ensures.fits fits c.in_ok-row.ensures.found c.if-is_empty.ensures
    (past_number 8 c.in_ok-start.start start _ _ (sym c.in_ok-start.ensures.found ∙ e))
