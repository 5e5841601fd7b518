use Rattle.audit.proofs.Started.{commit_kept, kept_commit}
use Rattle.audit.proofs.audit.starts.is_committed_at.Goals as goal

pub returns-in-Some : goal.returns-in-Some
returns-in-Some c = (
  λ t. kept_commit c.args.commits.now c.in-Some.starts.now c.in-Some.ensures c.args.start c.args.stamp (c.has_stamp.ensures.0 t),
  λ has. c.has_stamp.ensures.1 (commit_kept c.args.commits.now c.in-Some.starts.now c.in-Some.ensures c.args.start c.args.stamp has),
)
