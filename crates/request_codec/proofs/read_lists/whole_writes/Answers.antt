use Rattle.std.proofs.Common.{rules, length, ◌∙◌, sym}
use Rattle.std.specs.List.{flat_map}
use Rattle.request_codec.specs.Operations.{write_fields, AreWrites}
use Rattle.request_codec.proofs.Fields.{past_number, same_number, if_none}
use Rattle.request_codec.proofs.read_lists.whole_writes.Goals as goal

pub returns-in_err-count-clause-none : goal.returns-in_err-count-clause-none
returns-in_err-count-clause-none c =
    if_none c.from_residual-in_err-count.result (λ start writes fit few e.
    c.in_err-count.ensures.none (length writes) (flat_map write_fields writes) (past_number 8 c.in_ok-start.start start _ _ (sym c.in_ok-start.ensures.found ∙ e)))

pub returns-else-are_writes-clause-none : goal.returns-else-are_writes-clause-none
returns-else-are_writes-clause-none c = λ start writes fit few e.
    let behind = past_number 8 c.in_ok-start.start start _ _ (sym c.in_ok-start.ensures.found ∙ e) in
    let found = c.in_ok-count.ensures in
    let count = same_number 4 c.in_ok-count.count (length writes) _ _ found.fits few (sym found.found ∙ behind) in
    let rest = past_number 4 c.in_ok-count.count (length writes) _ _ (sym found.found ∙ behind) in
    let are : AreWrites c.in_ok-count.count c.take_u32.new.rest.now = record { parts = writes; many = sym count; all_fit = fit; whole = rest } in
    let no : ¬ AreWrites c.in_ok-count.count c.take_u32.new.rest.now = search rules in
    no are
