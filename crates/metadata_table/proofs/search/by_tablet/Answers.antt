use Rattle.cell_key.specs.declared.refusals.Refusal.TheVariants.{UnknownTablet}
use Rattle.metadata_table.proofs.Splits.{found_tablet}
use Rattle.metadata_table.proofs.search.by_tablet.Goals as goal

pub returns-clause-cases : goal.returns-clause-cases
returns-clause-cases c =
    let n = c.args.tablet in
    let ps = c.args.places.now in
    rw c.ok_or.ensures.value (found_tablet n ps c.first_of.result UnknownTablet c.first_of.ensures)
