use Rattle.std.proofs.Common.{◌∷◌, ◌∙◌, None, ap, subst, List}
use Rattle.std.specs.Option.{option_copied}
use Rattle.cell_key.specs.Entries.{Entry, merged}
use Rattle.cell_key.specs.Places.{AreNext}
use Rattle.tablet.specs.Reads.{IsNextIn}
use Rattle.tablet.specs.Sources.{part}
use Rattle.tablet.proofs.Lookups.{ok_map, told_closed, told_found}
use Rattle.tablet.proofs.scan.merged_places.Goals as goal

pub returns-clause-found : goal.returns-clause-found
returns-clause-found g c =
    let m = g.F.Files.contents c.args.store.now in
    told_found m c.args.files.now (λ found lists. AreNext (IsNextIn (part c.args.from.now (option_copied c.args.end) (c.args.memtable.now ∷ lists))) None c.args.most found.items) c.next_places.result
    (ok_map c.next_places.result c.next_places.ensures.found
    (λ found h opened. subst (λ (es : List Entry). AreNext (IsNextIn es) None c.args.most found.items) (c.in_ok-merge.ensures.remaining m (c.in_ok-sources.ensures.start m opened) ∙ ap merged (c.in_ok-sources.ensures.lists m opened))
    (h (c.in_ok-merge.ensures.holds m (c.in_ok-sources.ensures.start m opened)))))

pub returns-clause-damaged : goal.returns-clause-damaged
returns-clause-damaged g c =
    let m = g.F.Files.contents c.args.store.now in
    λ e. told_closed m c.args.files.now (λ opened. c.next_places.ensures.damaged e (c.in_ok-merge.ensures.holds m (c.in_ok-sources.ensures.start m opened)))
