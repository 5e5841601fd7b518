use Rattle.std.proofs.Common.{◌≡◌, subst, sym, ◌∙◌, ap}
use Rattle.std.specs.List.{list_any}
use Rattle.metadata_table.specs.Table.{IsListed}
use Rattle.metadata_table.proofs.Splits.{has_file, listed_there, listed_true}
use Rattle.metadata_table.proofs.table.MetadataTable.listed.Goals as goal

pub returns : goal.returns
returns c =
    let xs = c.self.inside.places.items in
    let name = c.args.name in
    let same : c.has_file.result ≡ list_any (has_file name) xs = c.has_file.ensures ∙ ap (list_any (has_file name)) c.deref.ensures.value in (
      λ t. subst (IsListed name) c.self.view_is (listed_there name xs (sym same ∙ t)),
      λ h. let there = subst (IsListed name) (sym c.self.view_is) h in same ∙ listed_true name xs there.0 there.1 there.2,
    )
