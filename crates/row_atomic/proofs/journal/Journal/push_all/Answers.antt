use Rattle.std.proofs.Common.{drop, suc, take, subst, sym}
use Rattle.rows.specs.RowEdits.{all_edits}
use Rattle.row_atomic.specs.Journals.{HasRoomFor, JournalView}
use Rattle.row_atomic.proofs.Following.{edits_parted, room_between}
use Rattle.row_atomic.proofs.journal.Journal.push_all.Goals as goal

pub returns-in-Err-clause-full : goal.returns-in-Err-clause-full
returns-in-Err-clause-full c = λ full room.
    let changes = c.args.changes.now in
    let i = c.loop-change.change-index in
    let before = all_edits (take i changes) in
    let edits = c.change-item.result.edits.items in
    let after = all_edits (drop (suc i) changes) in
    let parted = edits_parted changes i c.change-item.result c.loop-change-test.true c.change-item.is in
    let left = room_between c.args.self.now before edits after (subst (λ es. HasRoomFor c.args.self.now es) parted room) in
    let now = subst (λ (j : JournalView). HasRoomFor j edits) (sym c.loop-change.invariant.pushed) left in
    c.in-Err.ensures.full full (subst (λ es. HasRoomFor c.loop-change.self es) (sym c.deref.ensures.value) now)
