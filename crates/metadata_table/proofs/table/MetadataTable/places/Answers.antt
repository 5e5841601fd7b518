use Rattle.std.proofs.Common.{ap, ◌∙◌}
use Rattle.metadata_table.specs.Places.{views}
use Rattle.metadata_table.proofs.table.MetadataTable.places.Goals as goal

pub returns-clause-places : goal.returns-clause-places
returns-clause-places c = ap views c.as_slice.ensures.value ∙ c.self.view_is
