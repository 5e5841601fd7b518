use Rattle.metadata_table.proofs.Splits.{tablet_at}
use Rattle.metadata_table.proofs.table.MetadataTable.place.Goals as goal

pub returns-clause-named : goal.returns-clause-named
returns-clause-named c =
    let at = rw c.deref.ensures.value at c.in_ok-position.ensures.cases in
    (tablet_at c.args.tablet c.self.inside.places.items c.in_ok-position.position c.index.result.now at c.index.ensures).1
