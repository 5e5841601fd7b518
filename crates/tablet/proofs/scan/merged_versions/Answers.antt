use Rattle.std.proofs.Common.{◌∷◌, ◌∙◌, ap, subst, List}
use Rattle.std.specs.Option.{option_copied}
use Rattle.cell_key.specs.Entries.{Entry, merged}
use Rattle.tablet.specs.Gathering.{AreVersionsIn}
use Rattle.tablet.specs.Sources.{part}
use Rattle.tablet.proofs.Lookups.{ok_map, told_closed, told_found}
use Rattle.tablet.proofs.scan.merged_versions.Goals as goal

pub returns-clause-found : goal.returns-clause-found
returns-clause-found g c =
    let m = g.F.Files.contents c.args.store.now in
    told_found m c.args.files.now (λ batch lists. AreVersionsIn (part c.args.from.now (option_copied c.args.end) (c.args.memtable.now ∷ lists)) c.args.hi batch.cells.items batch.is_last) c.next_versions.result
    (ok_map c.next_versions.result c.next_versions.ensures.found
    (λ batch h opened. subst (λ (es : List Entry). AreVersionsIn es c.args.hi batch.cells.items batch.is_last) (c.in_ok-merge.ensures.remaining m (c.in_ok-inputs.ensures.start m opened) ∙ ap merged (c.in_ok-inputs.ensures.lists m opened))
    (h (c.in_ok-merge.ensures.holds m (c.in_ok-inputs.ensures.start m opened)))))

pub returns-clause-damaged : goal.returns-clause-damaged
returns-clause-damaged g c =
    let m = g.F.Files.contents c.args.store.now in
    λ e. told_closed m c.args.files.now (λ opened. c.next_versions.ensures.damaged e (c.in_ok-merge.ensures.holds m (c.in_ok-inputs.ensures.start m opened)))
