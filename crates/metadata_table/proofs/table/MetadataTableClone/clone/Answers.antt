use Rattle.std.proofs.Common.{subst, sym, ◌∙◌}
use Rattle.metadata_table.specs.Places.{view_of}
use Rattle.metadata_table.specs.Table.{IsTable}
use Rattle.metadata_table.proofs.Members.{zip_same}
use Rattle.metadata_table.proofs.table.MetadataTableClone.clone.Goals as goal

pub invariant_of-result : goal.invariant_of-result
invariant_of-result c = subst IsTable (sym (zip_same view_of c.self.inside.places.items c.in_ok-places.places.items c.in_ok-places.ensures.cases.0)) c.self.invariant

pub returns : goal.returns
returns c = record { cases = zip_same view_of c.self.inside.places.items c.in_ok-places.places.items c.in_ok-places.ensures.cases.0 ∙ c.self.view_is }
