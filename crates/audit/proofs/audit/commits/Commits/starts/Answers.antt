use Rattle.std.proofs.Common.{List, Option, subst}
use Rattle.std.specs.Prelude.{IfSome}
use Rattle.audit.specs.Histories.{AreStarts, Starts}
use Rattle.audit.specs.declared.audit.parts.Commit.{Commit}
use Rattle.audit.proofs.audit.commits.Commits.starts.Goals as goal

pub returns-in-Some : goal.returns-in-Some
returns-in-Some c = subst (λ (l : List Commit). AreStarts l c.in-Some.starts) c.self.view_is (subst (λ (o : Option Starts). IfSome o (AreStarts c.self.inside.list.items)) c.in-Some.is c.self.invariant.2)
