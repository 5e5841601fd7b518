-- Each call's contract gives its command's outcome.
use Rattle.std.proofs.Common.{◌∙◌, subst}
use Rattle.cell_key.specs.declared.refusals.Refusal.TheVariants.{Damaged}
use Rattle.std.proofs.lemmas.Result.{on_err_weaker, on_ok_weaker}
use Rattle.cell_key.specs.Places.{IsNextCell}
use Rattle.rows.proofs.Calls.{either_way, is_read_refusal, read_undamaged}
use Rattle.row_atomic.proofs.ListedFiles.{stored_lists}
use Rattle.row_atomic.proofs.Outcomes.{applied, err_of, of_done, read_refused, tells_read}
use Rattle.row_atomic.specs.Changes.{MeetsDamage}
use Rattle.row_atomic.specs.Commands.{cells_shown}
use Rattle.row_atomic.specs.ReadableLaw.{all_readable}
use Rattle.row_atomic.specs.declared.commands.Command.TheVariants as command
use Rattle.row_atomic.specs.declared.commands.Outcome.TheVariants as outcome
use Rattle.row_atomic.proofs.cluster.Cluster.answer.Goals as goal

pub apply-requires : goal.apply-requires
apply-requires g c = rw c.in-Apply.is at c.requires

pub returns-in-Ok : goal.returns-in-Ok
returns-in-Ok g c =
    let told = c.newest.ensures in
    rw c.in-Newest.is (record {
      still = told.reads.still;
      answers = λ order. (c.in-Ok.ensures.found (all_readable _ _ _ _ order.0 _), told.reads.kept);
      upholds = told.reads.stays;
      files = tt;
      lists = λ _. stored_lists g.F.Files.contents c.args.self.now c.newest.new.self told.reads.stays;
      room = told.reads.room;
      cause = tt;
      faults = tells_read g.F.Files.faults c.newest.result c.in-Ok.found (outcome.Newest c.in-Ok.found) c.args.self.now c.newest.new.self c.in-Ok.is (λ is. cc) told.reason.later told.reason.told;
    })

pub returns-in-Newest : goal.returns-in-Newest
returns-in-Newest g c =
    let told = c.newest.ensures in
    rw c.in-Newest.is (read_refused g.F.Files.contents g.F.Files.faults (command.Newest c.in-Newest.row c.in-Newest.family c.in-Newest.qualifier c.in-Newest.lo c.in-Newest.hi) c.newest.result c.in-Err.refusal c.args.self.now c.newest.new.self c.in-Err.is told.reads.still
    (λ order. (read_undamaged _ c.in-Err.refusal c.in-Err.ensures.refusal (all_readable _ _ _ _ order.0 _), told.reads.kept)) (is_read_refusal _ c.in-Err.refusal c.in-Err.ensures.refusal, told.reads.stays) tt told.reads.stays told.reads.room (λ many. record { due = λ is. told.damaged (c.in-Err.is ∙ err_of _ Damaged is); barred = λ bars. absurd bars; undone = λ is. absurd (many is) }) (is_read_refusal _ c.in-Err.refusal c.in-Err.ensures.refusal) told.reason.later told.reason.device told.reason.told)

pub returns-in-Ok-next_cell : goal.returns-in-Ok-next_cell
returns-in-Ok-next_cell g c =
    let told = c.next_cell.ensures in
    rw c.in-NextCell.is (record {
      still = told.reads.still;
      answers = λ order. (subst (λ after. IsNextCell (cells_shown g.F.Files.contents c.args.self.now) after c.in-Ok-next_cell.found) c.lent.ensures (c.in-Ok-next_cell.ensures.found (λ row from. all_readable _ _ _ _ order.0 row)), told.reads.kept);
      upholds = told.reads.stays;
      files = tt;
      lists = λ _. stored_lists g.F.Files.contents c.args.self.now c.next_cell.new.self told.reads.stays;
      room = told.reads.room;
      cause = tt;
      faults = tells_read g.F.Files.faults c.next_cell.result c.in-Ok-next_cell.found (outcome.NextCell c.in-Ok-next_cell.found) c.args.self.now c.next_cell.new.self c.in-Ok-next_cell.is (λ is. cc) told.reason.later told.reason.told;
    })

pub returns-in-NextCell : goal.returns-in-NextCell
returns-in-NextCell g c =
    let told = c.next_cell.ensures in
    rw c.in-NextCell.is (read_refused g.F.Files.contents g.F.Files.faults (command.NextCell c.in-NextCell.after) c.next_cell.result c.in-Err-next_cell.refusal c.args.self.now c.next_cell.new.self c.in-Err-next_cell.is told.reads.still
    (λ order. (read_undamaged _ c.in-Err-next_cell.refusal c.in-Err-next_cell.ensures.refusal (λ row from. all_readable _ _ _ _ order.0 row), told.reads.kept)) (is_read_refusal _ c.in-Err-next_cell.refusal c.in-Err-next_cell.ensures.refusal, told.reads.stays) tt told.reads.stays told.reads.room (λ many. record { due = λ is. subst (λ after. MeetsDamage (g.F.Files.contents c.args.self.now.files) after 1 c.args.self.now.places c.args.self.now.tablets) c.lent.ensures (told.damaged (c.in-Err-next_cell.is ∙ err_of _ Damaged is)); barred = λ bars. absurd bars; undone = λ is. absurd (many is) }) (is_read_refusal _ c.in-Err-next_cell.refusal c.in-Err-next_cell.ensures.refusal) told.reason.later told.reason.device told.reason.told)

pub returns-in-Apply : goal.returns-in-Apply
returns-in-Apply g c =
    let told = c.apply.ensures in
    rw c.in-Apply.is (of_done g.F.Files.contents g.F.Files.faults _ _ _ _ _ c.done.ensures (applied g.F.Files.contents g.F.Files.faults c.in-Apply.row c.in-Apply.edits c.args.self.now c.apply.new.self c.apply.result
    (either_way c.apply.result (on_ok_weaker c.apply.result (λ made. made.still) told.ok) (on_err_weaker c.apply.result (λ same. same.still) told.err))
    (λ order. on_ok_weaker c.apply.result (λ made. made.made (all_readable _ _ _ _ order.0 _)) told.ok) (λ order. on_err_weaker c.apply.result (λ same. same.kept) told.err)
    (either_way c.apply.result (on_ok_weaker c.apply.result (λ made. made.stays) told.ok) (on_err_weaker c.apply.result (λ same. same.stays) told.err))
    told.full told.within (on_ok_weaker c.apply.result (λ made. made.room) told.ok) (on_err_weaker c.apply.result (λ same. same.room) told.err) told.refusal told.untouched))

pub returns-in-Minor : goal.returns-in-Minor
returns-in-Minor g c = rw c.in-Minor.is (of_done g.F.Files.contents g.F.Files.faults _ _ _ _ _ c.done-in-Minor.ensures c.minor.ensures)

pub returns-in-Merge : goal.returns-in-Merge
returns-in-Merge g c = rw c.in-Merge.is (of_done g.F.Files.contents g.F.Files.faults _ _ _ _ _ c.done-in-Merge.ensures c.merge.ensures)

pub returns-in-Major : goal.returns-in-Major
returns-in-Major g c = rw c.in-Major.is (of_done g.F.Files.contents g.F.Files.faults _ _ _ _ _ c.done-in-Major.ensures c.major.ensures)

pub returns-in-Move : goal.returns-in-Move
returns-in-Move g c = rw c.in-Move.is (of_done g.F.Files.contents g.F.Files.faults _ _ _ _ _ c.done-in-Move.ensures c.move_to.ensures.outcome)

pub returns-in-Ok-split : goal.returns-in-Ok-split
returns-in-Ok-split g c = rw c.in-Split.is c.in-Ok-split.ensures

pub returns-in-Split : goal.returns-in-Split
returns-in-Split g c = rw c.in-Split.is c.in-Err-split.ensures

pub returns-in-Ok-sweep : goal.returns-in-Ok-sweep
returns-in-Ok-sweep g c = rw c.in-Sweep.is c.in-Ok-sweep.ensures

pub returns-in-Sweep : goal.returns-in-Sweep
returns-in-Sweep g c = rw c.in-Sweep.is c.in-Err-sweep.ensures

pub returns : goal.returns
returns g c = rw c.in-DropCaches.is c.drop_caches.ensures
