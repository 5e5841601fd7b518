use Rattle.commit_log.proofs.Logging.{front_stays}
use Rattle.commit_log.proofs.edits.push_edit.Goals as goal

pub returns-in_ok-push_key-in-Put-clause-front : goal.returns-in_ok-push_key-in-Put-clause-front
returns-in_ok-push_key-in-Put-clause-front c =
    front_stays _ _ _ _ c.in_ok-push_key-in-Put.ensures.ok c.push_field.ensures.front
