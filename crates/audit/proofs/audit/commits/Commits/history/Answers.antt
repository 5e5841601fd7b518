use Rattle.std.proofs.Common.{◌≡◌, Bor, List, Option, subst, sym}
use Rattle.std.specs.Prelude.{IfSome}
use Rattle.si_model.specs.Reads.{cell_of}
use Rattle.audit.specs.Histories.{AreHistories, Histories, IsHistory, versions_at}
use Rattle.audit.specs.declared.audit.parts.Commit.{Commit}
use Rattle.audit.specs.declared.audit.parts.Version.{Version}
use Rattle.audit.proofs.Versions.{if_some_weaker}
use Rattle.audit.proofs.audit.commits.Commits.history.Goals as goal

pub returns-in-Some : goal.returns-in-Some
returns-in-Some c =
    let x = cell_of c.args.row.now c.args.family.now in
    let histories = c.in-Some.histories in
    let all : AreHistories c.args.self.now histories = subst (λ (l : List Commit). AreHistories l histories) c.self.view_is (subst (λ (o : Option Histories). IfSome o (AreHistories c.self.inside.list.items)) c.in-Some.is c.self.invariant.1) in
    if_some_weaker (λ (vs : Bor (List Version)). vs.now ≡ versions_at histories x) (λ (vs : Bor (List Version)). IsHistory c.args.self.now x vs.now)
    (λ vs is. subst (λ (l : List Version). IsHistory c.args.self.now x l) (sym is) (all x)) c.history_of.result c.history_of.ensures
