use Rattle.commit_log.proofs.Logging.{front_stays}
use Rattle.commit_log.proofs.edits.push_each.Goals as goal

pub returns-in_err-push_edit-clause-front : goal.returns-in_err-push_edit-clause-front
returns-in_err-push_edit-clause-front c =
    front_stays _ _ _ _ c.loop-edit.invariant.spelled c.push_edit.ensures.front
