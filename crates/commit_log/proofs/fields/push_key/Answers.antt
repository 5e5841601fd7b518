use Rattle.commit_log.proofs.Logging.{front_of_both, front_stays}
use Rattle.commit_log.proofs.fields.push_key.Goals as goal

pub returns-in_err-push_row-clause-front : goal.returns-in_err-push_row-clause-front
returns-in_err-push_row-clause-front c =
    front_stays _ _ _ _ c.in_ok-push.ensures.items c.push_row.ensures.front

pub returns-in_err-push_family-clause-front : goal.returns-in_err-push_family-clause-front
returns-in_err-push_family-clause-front c =
    front_of_both _ _ _ _ _ _ c.in_ok-push.ensures.items c.in_ok-push_row.ensures.ok c.push_family.ensures.front
