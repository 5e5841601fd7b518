use Rattle.std.proofs.Common.{length, sym, ap, ◌∙◌}
use Rattle.std.proofs.lemmas.List.{length-map}
use Rattle.metadata_table.specs.Places.{view_of}
use Rattle.metadata_table.proofs.table.MetadataTable.len.Goals as goal

pub returns-clause-len : goal.returns-clause-len
returns-clause-len c = c.len.ensures ∙ c.self.inside.places.ok.0 ∙ sym (length-map c.self.inside.places.items view_of) ∙ ap length c.self.view_is
