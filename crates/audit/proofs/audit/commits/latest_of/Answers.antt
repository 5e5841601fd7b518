use Rattle.std.proofs.Common.{sym, ap, ◌∙◌}
use Rattle.audit.specs.Commits.{latest_of}
use Rattle.audit.proofs.SearchesBack.{latest_last}
use Rattle.audit.proofs.audit.commits.latest_of.Goals as goal

pub returns-in-Some : goal.returns-in-Some
returns-in-Some c = sym (ap (latest_of 0) c.in-Some.ensures.cases.0 ∙ latest_last 0 c.in-Some.field-0-1.now c.in-Some.last.now)
