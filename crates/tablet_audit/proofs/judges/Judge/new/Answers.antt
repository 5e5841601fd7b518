use Rattle.std.proofs.Common.{rules, sym}
use Rattle.si_model.specs.Machine.{begins_new, new_machine}
use Rattle.audit.specs.Audits.{Keeps}
use Rattle.tablet_audit.proofs.Recordings.{begins_known}
use Rattle.tablet_audit.proofs.judges.Judge.new.Goals as goal

pub returns-clause-ok : goal.returns-clause-ok
returns-clause-ok c = λ sharing.
    let keeps : Keeps c.in_ok-audit.audit new_machine = search rules in
    record { state = (begins_new, keeps); table = sym c.new-2.ensures.empty; known = begins_known sharing }
