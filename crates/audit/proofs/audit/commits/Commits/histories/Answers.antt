use Rattle.std.proofs.Common.{List, Option, subst}
use Rattle.std.specs.Prelude.{IfSome}
use Rattle.audit.specs.Histories.{AreHistories, Histories}
use Rattle.audit.specs.declared.audit.parts.Commit.{Commit}
use Rattle.audit.proofs.audit.commits.Commits.histories.Goals as goal

pub returns-in-Some : goal.returns-in-Some
returns-in-Some c = subst (λ (l : List Commit). AreHistories l c.in-Some.histories) c.self.view_is (subst (λ (o : Option Histories). IfSome o (AreHistories c.self.inside.list.items)) c.in-Some.is c.self.invariant.1)
