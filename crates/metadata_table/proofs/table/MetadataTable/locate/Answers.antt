use Rattle.std.proofs.Common.{List, subst}
use Rattle.metadata_table.specs.Places.{PlaceView, view_of}
use Rattle.metadata_table.specs.Table.{IsHolder}
use Rattle.metadata_table.proofs.Splits.{holder_at}
use Rattle.metadata_table.proofs.table.MetadataTable.locate.Goals as goal

pub returns-clause-holder : goal.returns-clause-holder
returns-clause-holder c =
    let xs = c.self.inside.places.items in
    let row = c.args.row.now in
    let at = rw c.deref.ensures.value at c.by_row-position.ensures.holder in
    subst (λ (qs : List PlaceView). IsHolder row qs (view_of c.index.result.now)) c.self.view_is (holder_at row xs c.by_row-position.result c.index.result.now at c.index.ensures)
