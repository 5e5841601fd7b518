use Rattle.std.proofs.Common.{◌≡◌, ◌∙◌, List, [], None, Err, inl, inr, not, sym, ap, subst}
use Rattle.commit_log.specs.Edits.{HoldEdits}
use Rattle.std.specs.Prelude.{◌↔◌, IsTrue}
use Rattle.cell_key.specs.declared.edits.Edit.{Edit}
use Rattle.commit_log.specs.Frames.{bytes_of}
use Rattle.commit_log.specs.Records.{HasRecord, any_root}
use Rattle.durable.specs.Devices.{IsOver}
use Rattle.metadata_table.specs.Roots.{RootView}
use Rattle.row_atomic.specs.Changes.{Holds}
use Rattle.row_atomic.specs.Clusters.{ClusterState, spots_of}
use Rattle.row_atomic.specs.Commands.{cells_shown}
use Rattle.row_atomic.specs.Open.{IsNewStore}
use Rattle.row_atomic.specs.Roots.{root_at}
use Rattle.row_atomic.specs.declared.recorded.Recorded.{Recorded}
use Rattle.rows.specs.Refusals.{IsReadRefusal}
use Rattle.server_loop.specs.Opening.{LacksRoot}
use Rattle.durable.specs.Replay.{FollowsLog}
use Rattle.server_loop.proofs.Opened.{new_store, where_told}
use Rattle.durable.proofs.OpenedRows.{damage_or, lacks_new, lacks_root, names_top, never_full, never_full_here, never_new, new_begun, not_new, not_of_new, opens_new, other_root_there, rooted_not_new, shows_root, whole_rows}
use Rattle.durable.proofs.recovery.open_rows.Goals.{else-is_new-via-then-is_new+else-not-is_of_new_store, else-is_new-via-else-is_new}
use Rattle.durable.proofs.recovery.open_rows.Goals as goal

pub returns-in-Err-open-clause-kept : goal.returns-in-Err-open-clause-kept
returns-in-Err-open-clause-kept g c = λ m root base disk keeps over. (
  c.in-Err-open.ensures.kept m root base (c.in-Ok.ensures.same ∙ disk) keeps,
  λ full. never_full _ c.in-Err-open.ensures.refusal full,
)

pub returns-in-Err-open-clause-damaged : goal.returns-in-Err-open-clause-damaged
returns-in-Err-open-clause-damaged g c = λ is. damage_or (g.F.Files.contents c.args.files) (g.F.Files.contents c.has_root.new.files) (bytes_of c.args.records.now) c.in-Ok.ensures.same (c.in-Err-open.ensures.damaged is)

pub returns-in-Err-check_root-clause-kept : goal.returns-in-Err-check_root-clause-kept
returns-in-Err-check_root-clause-kept g c = λ m root base disk keeps over.
    let o = c.in-Ok-open.ensures.kept m root base (c.in-Ok.ensures.same ∙ disk) keeps in (
      λ is. (c.in-Err-check_root.ensures.damaged (ap Err is)).1 (subst (IsOver (bytes_of c.args.records.now)) (sym o.tells) over),
      λ full. never_full_here _ c.in-Err-check_root.ensures.refusal full,
    )

pub returns-in-Err-check_root-clause-damaged : goal.returns-in-Err-check_root-clause-damaged
returns-in-Err-check_root-clause-damaged g c = λ is.
    let d = c.in-Err-check_root.ensures.damaged (ap Err is) in
    other_root_there g.F.Files.contents (g.F.Files.contents c.args.files) (g.F.Files.contents c.has_root.new.files) c.in-Ok.is_there (bytes_of c.args.records.now) c.in-Ok-open.opened.1 c.in-Ok-open.opened.2 c.in-Ok-open.opened.0 c.in-Ok.ensures.same c.in-Ok.ensures.ok d.0 c.in-Ok-open.ensures.store d.1

pub returns-then-not-is_of_new_store-clause-damaged : goal.returns-then-not-is_of_new_store-clause-damaged
returns-then-not-is_of_new_store-clause-damaged g c = λ is.
    let told = subst (λ (es : List Edit). IsTrue c.is_of_new_store.result ↔ (es ≡ []) × HasRecord (bytes_of c.args.records.now) any_root) c.deref.ensures.value c.is_of_new_store.ensures in
    let why = not_of_new c.logs_edits.ensures c.as_many_edits.ensures (bytes_of c.args.records.now) c.args.edits.items c.is_of_new_store.result c.requires.held c.requires.stored told c.if-not-is_of_new_store.true in
    lacks_root (g.F.Files.contents c.args.files) c.in-Ok.is_there (bytes_of c.args.records.now) c.in-Ok.ensures.ok (ap not c.if-is_new.true) why

pub returns-in-Ok-fill_rows-clause-named : goal.returns-in-Ok-fill_rows-clause-named
returns-in-Ok-fill_rows-clause-named g c = names_top (g.F.Files.contents c.args.files) (g.F.Files.contents c.has_root.new.files) c.in-Ok-open.opened.1 c.in-Ok-open.opened.2 c.in-Ok-open.opened.0 c.in-Ok.ensures.same c.in-Ok-open.ensures.store

pub returns-in-Ok-fill_rows-clause-rooted : goal.returns-in-Ok-fill_rows-clause-rooted
returns-in-Ok-fill_rows-clause-rooted g c = λ there.
    let old = rooted_not_new (g.F.Files.contents c.args.files) c.in-Ok.is_there c.in-Ok.ensures.ok there in
    c.in-Ok-fill_rows.ensures.same old ∙ ap (λ (r : Recorded g.row.F.Denot g.row.F-Writing.Denot). g.F.Files.contents r.cluster.files) c.new-rows.ensures ∙ c.in-Ok-open.ensures.files ∙ c.in-Ok.ensures.same

pub returns-in-Ok-fill_rows-clause-kept : goal.returns-in-Ok-fill_rows-clause-kept
returns-in-Ok-fill_rows-clause-kept g c = λ m root base disk keeps over.
    let o = c.in-Ok-open.ensures.kept m root base (c.in-Ok.ensures.same ∙ disk) keeps in
    let shows = shows_root g.F.Files.contents root base _ _ c.in-Ok-open.opened.0 o in (
      c.in-Ok-fill_rows.ensures.ok (not_new (g.F.Files.contents c.args.files) c.in-Ok.is_there m root base c.in-Ok.ensures.ok disk keeps) root base (rw c.new-rows.ensures shows),
      ap (λ (r : RootView). r.top) o.tells,
    )

pub returns-in-Ok-fill_rows-clause-new : goal.returns-in-Ok-fill_rows-clause-new
returns-in-Ok-fill_rows-clause-new g c = λ lacks.
    let is_new = lacks_new (g.F.Files.contents c.args.files) c.in-Ok.is_there c.in-Ok.ensures.ok lacks in
    let lacks_now : LacksRoot (g.F.Files.contents c.has_root.new.files) = subst LacksRoot (sym c.in-Ok.ensures.same) lacks in
    let s : IsNewStore c.in-Ok-open.opened.1 c.in-Ok-open.opened.2 c.in-Ok-open.opened.0 = new_store (g.F.Files.contents c.has_root.new.files) None c.in-Ok-open.opened.1 c.in-Ok-open.opened.2 0 c.in-Ok-open.opened.0 lacks_now c.in-Ok-open.ensures.store in
    let holds : Holds g.F.Files.contents c.in-Ok-open.opened.0 = where_told (g.F.Files.contents c.has_root.new.files) (Holds g.F.Files.contents c.in-Ok-open.opened.0) lacks_now c.in-Ok-open.ensures.holds in
    let cluster : c.new-rows.result.cluster ≡ c.in-Ok-open.opened.0 = ap (λ (r : Recorded g.row.F.Denot g.row.F-Writing.Denot). r.cluster) c.new-rows.ensures in
    let follows = c.in-Ok-fill_rows.ensures.new is_new (subst (Holds g.F.Files.contents) (sym cluster) holds) in
    let begun : (c.args.edits.items ≡ []) × HasRecord (bytes_of c.args.records.now) any_root = elim c.else-is_new.branch [ else-is_new-via-then-is_new+else-not-is_of_new_store w ↦ new_begun c.args.edits.items _ (bytes_of c.args.records.now) w.is_of_new_store.result w.deref.ensures.value w.is_of_new_store.ensures w.if-not-is_of_new_store.false | else-is_new-via-else-is_new w ↦ never_new c.in-Ok.is_there is_new w.if-is_new.false ] in
    let none = begun.0 in (
      begun.1,
      opens_new g.F.Files.contents c.in-Ok-open.opened.0 c.fill_rows.new.rows c.in-Ok-open.opened.1 c.in-Ok-open.opened.2 c.args.edits.items s none (c.in-Ok-fill_rows.ensures.spots ∙ ap (λ (x : ClusterState g.row.F.Denot). spots_of x) cluster)
          (subst (λ (x : ClusterState g.row.F.Denot). FollowsLog g.F.Files.contents (root_at 0 0 c.fill_rows.new.rows.cluster) (cells_shown g.F.Files.contents x) c.args.edits.items c.fill_rows.new.rows) cluster follows),
    )

pub returns-in-Ok-fill_rows-clause-whole : goal.returns-in-Ok-fill_rows-clause-whole
returns-in-Ok-fill_rows-clause-whole g c = whole_rows c.one_root.ensures (g.F.Files.contents c.args.files) (g.F.Files.contents c.has_root.new.files) c.in-Ok.is_there (bytes_of c.args.records.now) c.in-Ok-open.opened.1 c.in-Ok-open.opened.2 c.in-Ok-open.opened.0 c.in-Ok.ensures.same c.in-Ok.ensures.ok c.in-Ok-open.ensures.whole c.in-Ok-open.ensures.store
    (λ is_new. elim c.else-is_new.branch [
      | else-is_new-via-then-is_new+else-not-is_of_new_store w ↦ let begun = new_begun c.args.edits.items _ (bytes_of c.args.records.now) w.is_of_new_store.result w.deref.ensures.value w.is_of_new_store.ensures w.if-not-is_of_new_store.false in (subst (HoldEdits (bytes_of c.args.records.now)) begun.0 c.requires.held, begun.1)
      | else-is_new-via-else-is_new w ↦ never_new c.in-Ok.is_there is_new w.if-is_new.false
    ]) c.in-Ok-check_root.ensures.ok

pub returns-in-Err-fill_rows-clause-opening : goal.returns-in-Err-fill_rows-clause-opening
returns-in-Err-fill_rows-clause-opening g c = λ there. inr (c.in-Err-fill_rows.ensures.replayed (rooted_not_new (g.F.Files.contents c.args.files) c.in-Ok.is_there c.in-Ok.ensures.ok there))

pub returns-then-not-is_of_new_store-clause-opening : goal.returns-then-not-is_of_new_store-clause-opening
returns-then-not-is_of_new_store-clause-opening g c = λ there. inl tt

pub returns-in-Err-open-clause-opening : goal.returns-in-Err-open-clause-opening
returns-in-Err-open-clause-opening g c = λ there. inl c.in-Err-open.ensures.refusal

pub returns-in-Err-check_root-clause-opening : goal.returns-in-Err-check_root-clause-opening
returns-in-Err-check_root-clause-opening g c = λ there. elim c.in-Err-check_root.ensures.refusal [ inl is ↦ inl (subst IsReadRefusal (sym is) tt) | inr is ↦ inl (subst IsReadRefusal (sym is) tt) ]

pub returns-in-Err-clause-opening : goal.returns-in-Err-clause-opening
returns-in-Err-clause-opening g c = λ there. elim c.in-Err.ensures.refusal [ inl is ↦ inl (subst IsReadRefusal (sym is) tt) | inr is ↦ inl (subst IsReadRefusal (sym is) tt) ]
