use Rattle.std.proofs.Common.{◌≡◌, ◌∷◌, ◌∙◌, ap, map, take, List}
use Rattle.std.specs.Option.{option_copied}
use Rattle.cell_key.specs.Entries.{Entry, merged}
use Rattle.cell_key.specs.Versions.{stamped}
use Rattle.tablet.specs.Reads.{stamped_values}
use Rattle.tablet.specs.Sources.{part}
use Rattle.tablet.proofs.Lookups.{ok_map, told_closed, told_found}
use Rattle.tablet.proofs.scan.merged_values.Goals as goal

pub returns-clause-found : goal.returns-clause-found
returns-clause-found g c =
    let m = g.F.Files.contents c.args.store.now in
    told_found m c.args.files.now (λ found lists. map stamped found.items ≡ take c.args.most (stamped_values (part c.args.from.now (option_copied c.args.end) (c.args.memtable.now ∷ lists)))) c.first_versions.result
    (ok_map c.first_versions.result c.first_versions.ensures.found
    (λ found h opened. h (c.in_ok-merge.ensures.holds m (c.in_ok-inputs.ensures.start m opened))
    ∙ ap (λ (es : List Entry). take c.args.most (stamped_values es)) (c.in_ok-merge.ensures.remaining m (c.in_ok-inputs.ensures.start m opened) ∙ ap merged (c.in_ok-inputs.ensures.lists m opened))))

pub returns-clause-damaged : goal.returns-clause-damaged
returns-clause-damaged g c =
    let m = g.F.Files.contents c.args.store.now in
    λ e. told_closed m c.args.files.now (λ opened. c.first_versions.ensures.damaged e (c.in_ok-merge.ensures.holds m (c.in_ok-inputs.ensures.start m opened)))
