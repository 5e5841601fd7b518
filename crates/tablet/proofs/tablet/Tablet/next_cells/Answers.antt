use Rattle.std.proofs.Common.{option_map, ◌∙◌}
use Rattle.std.specs.Option.{option_copied}
use Rattle.cell_key.specs.Places.{place_named}
use Rattle.tablet.specs.Reads.{later}
use Rattle.tablet.proofs.Lookups.{cells_found, ok_map}
use Rattle.tablet.proofs.tablet.Tablet.next_cells.Goals as goal

pub returns-clause-found : goal.returns-clause-found
returns-clause-found g c =
    ok_map c.merged_places.result c.merged_places.ensures.found (λ found h.
    cells_found c.args.self.now c.as_slice.result.now c.as_slice.ensures (option_map place_named c.args.after) c.past_place.ensures.names
    c.later-from.result.now (option_copied c.as_deref.result) (c.later-from.ensures ∙ (λ i. later ((c.deref.ensures.value ∙ c.in_ok-fence.ensures.from) i) ((c.deref-2.ensures.value ∙ c.in_ok-past.ensures.past) i))) (c.as_deref.ensures.value ∙ c.in_ok-fence.ensures.end)
    (g.F.Files.contents c.args.files.now) c.args.most found.items h)
