use Rattle.std.proofs.Common.{inl, inr, refl, sym, ap, ◌∙◌}
use Rattle.std.specs.Prelude.{option_copied}
use Rattle.sorted_file.proofs.Keeping.{found_cached}
use Rattle.sorted_file.proofs.LookUps.{evicted_file, kept_or_read, same_file, some_row}
use Rattle.cell_key.proofs.Passed.{passed_on}
use Rattle.sorted_file.proofs.Results.{as_told, of_told}
use Rattle.sorted_file.proofs.file.SortedFile.newest_in.Goals as goal

pub returns-in_err-found-in-Some-clause-damaged : goal.returns-in_err-found-in-Some-clause-damaged
returns-in_err-found-in-Some-clause-damaged g c = λ is.
    as_told (g.F.Files.contents c.args.files.now) _ (λ m e o.
    let row = some_row c.args.self.now.rows.items c.args.number c.requires in
    let entries_of = found_cached c.args.self.now.rows.items c.args.number c.args.self.now.cache.entries c.in-Some.block.now row.0 o.cached (sym c.peek.ensures ∙ ap option_copied c.in-Some.is) row.1 in
    c.in_err-found-in-Some.ensures.damaged (passed_on c.from_residual.result _ c.in_err-found-in-Some.field-0.0 _ c.from_residual.ensures.1 refl is) _ entries_of)

pub returns-in_err-found-in-None-clause-damaged : goal.returns-in_err-found-in-None-clause-damaged
returns-in_err-found-in-None-clause-damaged g c = λ is.
    as_told (g.F.Files.contents c.args.files.now) _ (λ m e o.
    let row = some_row c.args.self.now.rows.items c.args.number c.requires in
    let stays = of_told (g.F.Files.contents c.args.files.now) m _ e (evicted_file (g.F.Files.contents c.args.files.now) c.args.self.now c.evict-room.new.cache c.evict-room.ensures.still).still o in
    let right = of_told (g.F.Files.contents c.args.files.now) m _ e c.in_ok-block-in-None.ensures.right stays row.0 row.1 in
    c.in_err-found-in-None.ensures.damaged (passed_on c.from_residual-in_err-found-in-None.result _ c.in_err-found-in-None.field-0.0 _ c.from_residual-in_err-found-in-None.ensures.1 refl is) _ right)

pub returns-in_ok-found-in-Some-clause-found : goal.returns-in_ok-found-in-Some-clause-found
returns-in_ok-found-in-Some-clause-found g c =
    as_told (g.F.Files.contents c.args.files.now) _ (λ m e o row at.
    c.in_ok-found-in-Some.ensures.found _ (found_cached c.args.self.now.rows.items c.args.number c.args.self.now.cache.entries c.in-Some.block.now row o.cached (sym c.peek.ensures ∙ ap option_copied c.in-Some.is) at))

pub returns-in_ok-found-in-Some-clause-stays : goal.returns-in_ok-found-in-Some-clause-stays
returns-in_ok-found-in-Some-clause-stays g c =
    same_file (g.F.Files.contents c.args.files.now) c.args.self.now c.promote.new.cache (as_told (g.F.Files.contents c.args.files.now) _ (λ m e o. c.promote.ensures.still c.args.self.now.rows.items o.cached))

pub returns-in_ok-found-in-None-clause-now : goal.returns-in_ok-found-in-None-clause-now
returns-in_ok-found-in-None-clause-now g c = λ row image at uncached tells.
    let r = c.in_ok-block-in-None.ensures.read row at in
    (r.entries, r.read image tells, c.in_ok-found-in-None.ensures.found r.entries r.parsed)

pub returns-in_ok-found-in-None-clause-stays : goal.returns-in_ok-found-in-None-clause-stays
returns-in_ok-found-in-None-clause-stays g c =
    same_file (g.F.Files.contents c.args.files.now) c.args.self.now c.keep.new.cache (as_told (g.F.Files.contents c.args.files.now) _ (λ m e o.
    let stays = of_told (g.F.Files.contents c.args.files.now) m _ e (evicted_file (g.F.Files.contents c.args.files.now) c.args.self.now c.evict-room.new.cache c.evict-room.ensures.still).still o in
    c.keep.ensures.still c.args.self.now.rows.items (c.evict-room.ensures.still c.args.self.now.rows.items o.cached) (λ row at. of_told (g.F.Files.contents c.args.files.now) m _ e c.in_ok-block-in-None.ensures.right stays row at)))

pub returns-in_ok-found-in-Some-clause-kept : goal.returns-in_ok-found-in-Some-clause-kept
returns-in_ok-found-in-Some-clause-kept g c = λ e d. inl (c.promote.ensures.kept e d)

pub returns-in_ok-found-in-None-clause-kept : goal.returns-in_ok-found-in-None-clause-kept
returns-in_ok-found-in-None-clause-kept g c = λ e d.
    let row = some_row c.args.self.now.rows.items c.args.number c.requires in
    kept_or_read (g.F.Files.contents c.args.files.now) c.args.self.now c.args.number c.in_ok-block-in-None.block row.0 row.1 (c.in_ok-block-in-None.ensures.read row.0 row.1) e (elim (c.keep.ensures.kept e d) [
      | inl old ↦ inl (c.evict-room.ensures.kept e old)
      | inr is ↦ inr is
    ])

pub returns-in_err-block-in-None-clause-stays : goal.returns-in_err-block-in-None-clause-stays
returns-in_err-block-in-None-clause-stays g c =
    evicted_file (g.F.Files.contents c.args.files.now) c.args.self.now c.evict-room.new.cache c.evict-room.ensures.still

pub returns-in_err-block-in-None-clause-kept : goal.returns-in_err-block-in-None-clause-kept
returns-in_err-block-in-None-clause-kept g c = λ e d. inl (c.evict-room.ensures.kept e d)

pub returns-in_err-block-in-None-clause-damaged : goal.returns-in_err-block-in-None-clause-damaged
returns-in_err-block-in-None-clause-damaged g c = λ is.
    as_told (g.F.Files.contents c.args.files.now) _ (λ m e o.
    let stays = of_told (g.F.Files.contents c.args.files.now) m _ e (evicted_file (g.F.Files.contents c.args.files.now) c.args.self.now c.evict-room.new.cache c.evict-room.ensures.still).still o in
    of_told (g.F.Files.contents c.args.files.now) m _ e (c.in_err-block-in-None.ensures.damaged (passed_on c.from_residual-in_err-block-in-None.result _ c.in_err-block-in-None.field-0.0 _ c.from_residual-in_err-block-in-None.ensures.1 refl is)) stays)

pub returns-in_err-found-in-None-clause-stays : goal.returns-in_err-found-in-None-clause-stays
returns-in_err-found-in-None-clause-stays g c =
    evicted_file (g.F.Files.contents c.args.files.now) c.args.self.now c.evict-room.new.cache c.evict-room.ensures.still

pub returns-in_err-found-in-None-clause-kept : goal.returns-in_err-found-in-None-clause-kept
returns-in_err-found-in-None-clause-kept g c = λ e d. inl (c.evict-room.ensures.kept e d)

pub returns-in_ok-found-in-None-clause-found : goal.returns-in_ok-found-in-None-clause-found
returns-in_ok-found-in-None-clause-found g c =
    as_told (g.F.Files.contents c.args.files.now) _ (λ m e o row at.
    let stays = of_told (g.F.Files.contents c.args.files.now) m _ e (evicted_file (g.F.Files.contents c.args.files.now) c.args.self.now c.evict-room.new.cache c.evict-room.ensures.still).still o in
    c.in_ok-found-in-None.ensures.found _ (of_told (g.F.Files.contents c.args.files.now) m _ e c.in_ok-block-in-None.ensures.right stays row at))
