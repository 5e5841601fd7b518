use Rattle.std.proofs.Common.{◌≡◌, ◌≤◌, ◌∙◌, ℕ, Option, inl, inr, refl, sym, subst, arith}
use Rattle.std.specs.FinMap.{empty}
use Rattle.si_model.specs.Machine.{IsStorageRefusal, begins_new, new_machine}
use Rattle.rows.specs.Refusals.{IsReadRefusal}
use Rattle.commit_log.specs.Frames.{bytes_of}
use Rattle.durable.specs.Devices.{Covers}
use Rattle.server_loop.proofs.Opened.{not_below}
use Rattle.durable.proofs.OpenedLogs.{covers_none, damage_marked, damage_named, marked_stamps, marked_top, never_marked, new_shown, whole_here}
use Rattle.durable.proofs.OpenedRows.{never_full}
use Rattle.durable.proofs.recovery.open_server.Goals as goal

pub returns-in-Err-clause-kept : goal.returns-in-Err-clause-kept
returns-in-Err-clause-kept g c = λ root base st reached keeps over stamps shows next top. c.in-Err.ensures.kept keeps.kept root base keeps.on_disk keeps.keeps over

pub returns-in-Err-clause-damaged : goal.returns-in-Err-clause-damaged
returns-in-Err-clause-damaged g c = λ is. damage_named (g.F.Files.contents c.args.files) (g.M.MarkStore.mark c.args.marks) (bytes_of c.args.records.now) (c.in-Err.ensures.damaged is)

pub returns-in-Err-clause-refusal : goal.returns-in-Err-clause-refusal
returns-in-Err-clause-refusal g c = (c.in-Err.ensures.refusal, c.in-Err.ensures.opening)

pub returns-in-Err-load_mark-clause-kept : goal.returns-in-Err-load_mark-clause-kept
returns-in-Err-load_mark-clause-kept g c = λ root base st reached keeps over stamps shows next top.
    let o = c.in-Ok.ensures.kept keeps.kept root base keeps.on_disk keeps.keeps over in (
      λ is. never_marked (g.M.MarkStore.mark c.args.marks) (bytes_of c.args.records.now) root.top c.in-Ok.opened.1 keeps.covered o.1 stamps (c.in-Err-load_mark.ensures.damaged is),
      λ full. elim c.in-Err-load_mark.ensures.refusal [ inl is ↦ never_full _ (subst IsReadRefusal (sym is) tt) full | inr is ↦ never_full _ (subst IsReadRefusal (sym is) tt) full ],
    )

pub returns-in-Err-load_mark-clause-damaged : goal.returns-in-Err-load_mark-clause-damaged
returns-in-Err-load_mark-clause-damaged g c = λ is. damage_marked (g.F.Files.contents c.args.files) (g.M.MarkStore.mark c.args.marks) (bytes_of c.args.records.now) c.in-Ok.opened.1 c.in-Ok.ensures.named (c.in-Err-load_mark.ensures.damaged is)

pub returns-in-Err-load_mark-clause-refusal : goal.returns-in-Err-load_mark-clause-refusal
returns-in-Err-load_mark-clause-refusal g c = elim c.in-Err-load_mark.ensures.refusal [
  | inl is ↦ (subst IsStorageRefusal (sym is) tt, λ there. inl (subst IsReadRefusal (sym is) tt))
  | inr is ↦ (subst IsStorageRefusal (sym is) tt, λ there. inl (subst IsReadRefusal (sym is) tt))
]

pub returns-in-Ok-oracle_from-clause-kept : goal.returns-in-Ok-oracle_from-clause-kept
returns-in-Ok-oracle_from-clause-kept g c = λ root base st reached keeps over stamps shows next top.
    let o = c.in-Ok.ensures.kept keeps.kept root base keeps.on_disk keeps.keeps over in
    let made = c.in-Ok-load_mark.ensures.made in
    let below : st.top ≤ c.in-Ok-load_mark.mark.covered = marked_top c.names_roots.ensures (g.M.MarkStore.mark c.args.marks) (bytes_of c.args.records.now) c.in-Ok-load_mark.mark made st.top top in
    let last = c.in-Ok-oracle_from.ensures.last in
    let covers = subst (λ (m : Option ℕ). Covers m root.top) (sym c.in-Ok-load_mark.ensures.kept) keeps.covered in (
      c.server_over.ensures.from (g.M.MarkStore.mark c.in-Ok-load_mark.mark.marks) root base c.args.edits.items st o.0 reached keeps.placed covers shows next (omega (arith, below, last, c.covered.ensures.covered)),
      not_below (g.M.MarkStore.mark c.args.marks) root.top c.in-Ok-load_mark.mark.stored keeps.covered made.stored,
    )

pub returns-in-Ok-oracle_from-clause-new : goal.returns-in-Ok-oracle_from-clause-new
returns-in-Ok-oracle_from-clause-new g c = λ lacks known.
    let (any, o) = c.in-Ok.ensures.new lacks in
    let none = covers_none (g.M.MarkStore.mark c.args.marks) (g.M.MarkStore.mark c.in-Ok-load_mark.mark.marks) c.in-Ok-load_mark.ensures.kept known in
    let zero : o.root.top ≡ 0 = o.no_top ∙ o.none in (
      o.no_edits,
      any,
      o.root,
      omega (arith, zero),
      c.server_over.ensures.from (g.M.MarkStore.mark c.in-Ok-load_mark.mark.marks) o.root empty c.args.edits.items new_machine o.follows begins_new o.places (subst (Covers (g.M.MarkStore.mark c.in-Ok-load_mark.mark.marks)) (sym zero) none) (new_shown c.args.edits.items o.no_edits) refl (omega arith),
    )

pub returns-in-Ok-oracle_from-clause-made : goal.returns-in-Ok-oracle_from-clause-made
returns-in-Ok-oracle_from-clause-made g c = (c.in-Ok-load_mark.ensures.made, let limit = c.in-Ok-load_mark.ensures.limit in omega (arith, limit))

pub returns-in-Ok-oracle_from-clause-whole : goal.returns-in-Ok-oracle_from-clause-whole
returns-in-Ok-oracle_from-clause-whole g c =
    let made = c.in-Ok-load_mark.ensures.made in
    let limit = c.in-Ok-load_mark.ensures.limit in
    whole_here c.one_root.ensures (g.F.Files.contents c.args.files) (g.M.MarkStore.mark c.args.marks) (bytes_of c.args.records.now) c.in-Ok.opened.1 c.in-Ok-load_mark.mark.stored c.in-Ok.ensures.whole c.in-Ok.ensures.named made.stored c.in-Ok-load_mark.ensures.low
    (marked_stamps c.names_roots.ensures (g.M.MarkStore.mark c.args.marks) (bytes_of c.args.records.now) c.in-Ok-load_mark.mark made (omega (arith, limit)))
