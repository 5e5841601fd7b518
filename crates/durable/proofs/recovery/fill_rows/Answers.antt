use Rattle.std.proofs.Common.{OnOk, subst}
use Rattle.cell_key.specs.Cells.{Cells}
use Rattle.metadata_table.specs.Roots.{RootView}
use Rattle.row_atomic.specs.declared.recorded.Recorded.{Recorded}
use Rattle.durable.specs.Replay.{FollowsLog, ShowsRoot}
use Rattle.durable.proofs.Logged.{true_not_false}
use Rattle.durable.proofs.recovery.fill_rows.Goals.{then-is_new+in_ok-checkpoint, else-is_new}
use Rattle.durable.proofs.recovery.fill_rows.Goals as goal

pub returns-clause-ok : goal.returns-clause-ok
returns-clause-ok g c = λ old. elim c.if-is_new.branch [
  | then-is_new+in_ok-checkpoint w ↦ true_not_false c.args.is_new w.if-is_new.true old
  | else-is_new w ↦
      subst (λ (r : Recorded g.row.F.Denot g.row.F-Writing.Denot). OnOk c.replay.result ((root : RootView) → (base : Cells) → ShowsRoot g.F.Files.contents root base r.cluster → FollowsLog g.F.Files.contents root base c.args.edits.items c.replay.new.rows))
      w.rows-is c.replay.ensures.ok
]
