use Rattle.std.proofs.Common.{rules, length, drop, ap, ◌∙◌, sym}
use Rattle.std.specs.List.{flat_map}
use Rattle.request_codec.specs.Fields.{cell_fields}
use Rattle.request_codec.specs.Operations.{AreCells}
use Rattle.request_codec.proofs.Fields.{past_number, same_number, if_none}
use Rattle.request_codec.proofs.read_lists.whole_cells.Goals as goal

pub returns-in_err-stays_open-clause-none : goal.returns-in_err-stays_open-clause-none
returns-in_err-stays_open-clause-none c =
    if_none c.from_residual-in_err-stays_open.result (λ start cells stays_open fit few e.
    c.in_err-stays_open.ensures.none stays_open _ (past_number 8 c.in_ok-start.start start _ _ (sym c.in_ok-start.ensures.found ∙ e)))

pub returns-in_err-count-clause-none : goal.returns-in_err-count-clause-none
returns-in_err-count-clause-none c =
    if_none c.from_residual-in_err-count.result (λ start cells stays_open fit few e.
    c.in_err-count.ensures.none (length cells) (flat_map cell_fields cells)
    (ap (drop 1) (sym c.in_ok-stays_open.ensures.found ∙ past_number 8 c.in_ok-start.start start _ _ (sym c.in_ok-start.ensures.found ∙ e))))

pub returns-else-are_cells-clause-none : goal.returns-else-are_cells-clause-none
returns-else-are_cells-clause-none c = λ start cells stays_open fit few e.
    let behind = ap (drop 1) (sym c.in_ok-stays_open.ensures.found ∙ past_number 8 c.in_ok-start.start start _ _ (sym c.in_ok-start.ensures.found ∙ e)) in
    let found = c.in_ok-count.ensures in
    let count = same_number 4 c.in_ok-count.count (length cells) _ _ found.fits few (sym found.found ∙ behind) in
    let rest = past_number 4 c.in_ok-count.count (length cells) _ _ (sym found.found ∙ behind) in
    let are : AreCells c.in_ok-count.count c.take_u32.new.rest.now = record { parts = cells; many = sym count; all_fit = fit; whole = rest } in
    let no : ¬ AreCells c.in_ok-count.count c.take_u32.new.rest.now = search rules in
    no are
