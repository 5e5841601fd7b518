use Rattle.std.proofs.Common.{◌≡◌, ℕ, List, [], ◌∷◌, ◌++◌, None, ap, ◌∙◌}
use Rattle.metadata_table.specs.Places.{PlaceView, view_of, views}
use Rattle.metadata_table.specs.Table.{first_place}
use Rattle.metadata_table.specs.declared.places.Place.{Place}
use Rattle.metadata_table.proofs.Tables.{new_table}
use Rattle.metadata_table.proofs.table.MetadataTable.new.Goals as goal

only_first : (old new : List Place) (place : Place) → new ≡ old ++ place ∷ [] → old ≡ [] → view_of place ≡ first_place → views new ≡ first_place ∷ []
only_first old new place pushed none is = ap views (pushed ∙ ap (λ (places : List Place). places ++ place ∷ []) none) ∙ ap (λ (view : PlaceView). view ∷ []) is

pub invariant_of-result : goal.invariant_of-result
invariant_of-result c =
    let view : List ℕ → PlaceView = λ files. record { tablet = 1; end = None; server = 0; files = files } in
    new_table _ _ _ c.in_ok-push.ensures.items c.new-places.ensures.items (ap view c.new.ensures.items)

pub returns-clause-ok : goal.returns-clause-ok
returns-clause-ok c =
    let view : List ℕ → PlaceView = λ files. record { tablet = 1; end = None; server = 0; files = files } in
    only_first _ _ _ c.in_ok-push.ensures.items c.new-places.ensures.items (ap view c.new.ensures.items)
