use Rattle.std.proofs.Common.{refl, ap, sym, ◌∙◌}
use Rattle.std.specs.Prelude.{option_map}
use Rattle.cell_key.specs.Entries.{lent_entry, IsEntry}
use Rattle.cell_key.proofs.Passed.{passed_on}
use Rattle.sorted_file.proofs.Newest.{first_held}
use Rattle.sorted_file.proofs.block.newest_at.Goals as goal

pub returns-in_err-value-clause-damaged : goal.returns-in_err-value-clause-damaged
returns-in_err-value-clause-damaged c = λ is es p.
    let there = ap (option_map lent_entry) (sym c.in-Some.is) ∙ c.first_from.ensures es p in
    let long = c.in_err-value.ensures.damaged (passed_on c.from_residual.result _ c.in_err-value.field-0.0 _ c.from_residual.ensures.1 refl is) in
    long (first_held IsEntry c.text.result.now es p.list.each (lent_entry c.in-Some.entry) (sym there)).value
