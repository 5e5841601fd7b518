use Rattle.std.proofs.Common.{◌≡◌, ◌+◌, ℕ, Option, subst, sym, List, length}
use Rattle.std.specs.Prelude.{is_some, if◌then◌else◌}
use Rattle.std.specs.BTreeMap as btree
use Rattle.si_model.specs.Machine.{State}
use Rattle.si_model.specs.Answers.{writes_named}
use Rattle.si_model.specs.Transactions.{Commit, CommitConflict, Goes}
use Rattle.audit.specs.AuditOperations.{AreFree, ClashesAt}
use Rattle.audit.specs.Audits.{KeepsReached}
use Rattle.audit.specs.declared.audit.parts.Phase.{Phase}
use Rattle.audit.specs.declared.audit.parts.Write.{Write}
use Rattle.audit.proofs.JudgedCommits.{another_place, comes_err, conflicted, no_clash, no_conflict, not_taken}
use Rattle.audit.proofs.JudgedOnly.{judged_untaken}
use Rattle.audit.proofs.KeptMaps.{stays_itself}
use Rattle.audit.proofs.audit.Audit.conflict_together.Goals as goal

pub returns-then-not-may_open : goal.returns-then-not-may_open
returns-then-not-may_open c =
    (no_conflict c.args.self.now c.args.start (writes_named c.args.asked.now) c.args.session c.args.place (λ may. cc (c.may_open.ensures.1 may, c.if-not-may_open.true)), stays_itself c.args.self.now)

pub returns-in-Err : goal.returns-in-Err
returns-in-Err c =
    judged_untaken c.args.self.now (Commit c.args.start (writes_named c.args.asked.now)) (CommitConflict c.args.session c.args.place) c.in-Err.refusal c.unnamed.result c.unnamed.ensures.memory c.unnamed.ensures.others
    (λ ne st next k. (not_taken c.args.self.now c.args.start (writes_named c.args.asked.now) c.in-Err.refusal (comes_err c.args.self.now c.args.start (writes_named c.args.asked.now) c.in-Err.refusal ne c.in-Err.ensures.refusal) st next c.args.session 0 c.args.place k).1)

pub returns-in_default : goal.returns-in_default
returns-in_default c = (
  no_clash c.args.self.now c.args.start (writes_named c.args.asked.now) c.args.session c.args.place c.in-Ok.all c.in-Ok.ensures.takes
      (subst (λ (l : List Write). AreFree c.args.self.now c.args.session l (length l)) c.deref.ensures.value c.in_default.ensures.none),
  stays_itself c.args.self.now,
)

pub returns-then-not-is_place : goal.returns-then-not-is_place
returns-then-not-is_place c = (
  another_place c.args.self.now c.args.start (writes_named c.args.asked.now) c.args.session c.args.place c.in-Ok.all c.in-Ok.ensures.takes c.in-Some.index
      (subst (λ (l : List Write). ClashesAt c.args.self.now c.args.session l c.in-Some.index) c.deref.ensures.value c.in-Some.ensures.some) (λ e. cc (c.is_place.ensures.1 e, c.if-not-is_place.true)),
  stays_itself c.args.self.now,
)

pub returns : goal.returns
returns c =
    subst (λ (t : ℕ). (st : State) → KeepsReached c.args.self.now st → (next : State) × Goes st (Commit c.args.start (writes_named c.args.asked.now)) (CommitConflict c.args.session c.args.place) next
    × KeepsReached (record c.args.self.now { top = t; begun = c.insert.new.self; active = c.remove.new.self }) next) (sym c.max-self.ensures)
    (conflicted c.args.self.now c.args.start (writes_named c.args.asked.now) c.args.session c.args.place c.in-Ok.all c.in-Ok.ensures.takes (c.may_open.ensures.0 (cc)) c.in-Some.index
    (subst (λ (l : List Write). ClashesAt c.args.self.now c.args.session l c.in-Some.index) c.deref.ensures.value c.in-Some.ensures.some) (c.is_place.ensures.0 (cc))
    c.insert.new.self c.remove.new.self c.in_ok-insert.ensures.updates.0 c.remove.ensures.updates.0
    (subst (λ (o : Option Phase). btree.btree_map_len c.remove.new.self + (if is_some o then 1 else 0) ≡ btree.btree_map_len c.args.self.now.active) c.remove.ensures.value c.remove.ensures.len))
