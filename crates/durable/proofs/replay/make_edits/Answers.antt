use Rattle.std.proofs.Common.{◌≡◌, ◌∷◌, [], List, Option, sym, subst, ◌∙◌}
use Rattle.std.specs.List.{AllByRecursion}
use Rattle.std.specs.Vec.Iter.{into_iter_items}
use Rattle.cell_key.specs.declared.edits.Edit.{Edit}
use Rattle.commit_log.specs.Edits.{IsStoredEdit}
use Rattle.row_atomic.specs.Journals.{JournalView}
use Rattle.durable.specs.Replay.{HasRoom, Replays}
use Rattle.durable.proofs.Replayed.{none_left, replays_none, replays_one, room_then}
use Rattle.durable.proofs.replay.make_edits.Goals as goal

pub make_edit-requires : goal.make_edit-requires
make_edit-requires g c =
    let all : AllByRecursion IsStoredEdit (c.in-Some.edit ∷ into_iter_items c.next.new.self) = subst (AllByRecursion IsStoredEdit) c.in-Some.ensures.steps.0 c.loop-edit.invariant.stored in
    all.0

pub loop-edit-preserved : goal.loop-edit-preserved
loop-edit-preserved g c =
    let contents = g.F.Files.contents in
    let i = c.loop-edit.invariant in
    let rest = into_iter_items c.next.new.self in
    let first : into_iter_items c.loop-edit.edit-iterator ≡ c.in-Some.edit ∷ rest = c.in-Some.ensures.steps.0 in
    let all : AllByRecursion IsStoredEdit (c.in-Some.edit ∷ rest) = subst (AllByRecursion IsStoredEdit) first i.stored in
    let made = c.in_ok-make_edit.ensures.ok in
    record {
      leads = λ new then. i.leads new (subst (λ (es : List Edit). Replays contents es c.loop-edit.rows new) (sym first) (replays_one contents c.in-Some.edit rest c.loop-edit.rows c.make_edit.new.rows new made then));
      stored = all.1;
      stays = c.make_edit.ensures.stays ∙ i.stays;
      faults = c.make_edit.ensures.faults ∙ i.faults;
      room = λ fits room.
          let r = i.room fits room in (
            made.fits r.0,
            subst (λ (j : Option JournalView). HasRoom j rest) (sym made.written) (room_then c.loop-edit.rows.journal c.in-Some.edit rest (subst (HasRoom c.loop-edit.rows.journal) first r.1)),
          );
    }

pub returns-clause-ok : goal.returns-clause-ok
returns-clause-ok g c =
    let none : into_iter_items c.loop-edit.edit-iterator ≡ [] = none_left (into_iter_items c.loop-edit.edit-iterator) (sym c.loop-edit.edit-iterator.rest.ok.0 ∙ c.in-None.ensures.steps.0) in
    c.loop-edit.invariant.leads c.loop-edit.rows (subst (λ (es : List Edit). Replays g.F.Files.contents es c.loop-edit.rows c.loop-edit.rows) (sym none) (replays_none g.F.Files.contents c.loop-edit.rows))
