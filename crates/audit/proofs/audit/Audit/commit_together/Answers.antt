use Rattle.std.proofs.Common.{◌≡◌, ◌≢◌, ◌∙◌, inl, inr, [], List, length, true, ap, subst, sym, rules}
use Rattle.std.specs.Prelude.{◌↔◌}
use Rattle.si_model.specs.Answers.{writes_named}
use Rattle.si_model.specs.Machine.{State}
use Rattle.si_model.specs.Transactions.{Commit, CommitDone, Goes}
use Rattle.audit.specs.AuditOperations.{AreFree, ClashesAt}
use Rattle.audit.specs.Audits.{KeepsReached}
use Rattle.audit.specs.declared.audit.Audit.{Audit}
use Rattle.audit.specs.declared.audit.parts.Write.{Write}
use Rattle.audit.proofs.JudgedCommits.{comes_err, committed, not_clashing, not_empty, not_opened, not_stamped, not_taken, some_clash}
use Rattle.audit.proofs.JudgedOnly.{judged_untaken}
use Rattle.audit.proofs.SearchesBack.{no_items}
use Rattle.audit.proofs.KeptMaps.{if_none, stays_itself}
use Rattle.audit.proofs.audit.Audit.commit_together.Goals as goal
use Rattle.audit.proofs.audit.Audit.commit_together.Goals.{then-stamp-session-via-then-stamp-session, then-stamp-session-via-else-stamp-session+then-stamp-self, then-stamp-session-via-else-stamp-session+else-stamp-self+then-stamp-gt-MOST_STAMP, then-is_empty-via-then-is_empty, then-is_empty-via-else-is_empty+then-is_some}

pub returns-then-not-may_open : goal.returns-then-not-may_open
returns-then-not-may_open c =
    (not_opened c.args.self.now c.args.start (writes_named c.args.asked.now) c.args.session c.args.stamp (λ may. cc (c.may_open.ensures.1 may, c.if-not-may_open.true)), stays_itself c.args.self.now)

pub returns-in-Err : goal.returns-in-Err
returns-in-Err c =
    judged_untaken c.args.self.now (Commit c.args.start (writes_named c.args.asked.now)) (CommitDone c.args.session c.args.stamp) c.in-Err.refusal c.unnamed.result c.unnamed.ensures.memory c.unnamed.ensures.others
    (λ ne st next k. (not_taken c.args.self.now c.args.start (writes_named c.args.asked.now) c.in-Err.refusal (comes_err c.args.self.now c.args.start (writes_named c.args.asked.now) c.in-Err.refusal ne c.in-Err.ensures.refusal) st next c.args.session c.args.stamp 0 k).0)

pub returns-then-stamp-session : goal.returns-then-stamp-session
returns-then-stamp-session c = (
  not_stamped c.args.self.now c.args.start (writes_named c.args.asked.now) c.args.session c.args.stamp c.in-Ok.all c.in-Ok.ensures.takes (elim c.then-stamp-session.branch [
    | then-stamp-session-via-then-stamp-session w ↦ inl w.if-stamp-session.true
    | then-stamp-session-via-else-stamp-session+then-stamp-self w ↦ inr (inl w.if-stamp-self.true)
    | then-stamp-session-via-else-stamp-session+else-stamp-self+then-stamp-gt-MOST_STAMP w ↦ inr (inr w.if-stamp-gt-MOST_STAMP.true)
  ]),
  stays_itself c.args.self.now,
)

pub returns-then-is_empty : goal.returns-then-is_empty
returns-then-is_empty c = elim c.then-is_empty.branch [
  | then-is_empty-via-then-is_empty w ↦
      let empty : (c.is_empty.result ≡ true) ↔ (length c.in-Ok.all.items ≡ 0) = (let e = c.is_empty.ensures in search rules) in
      let none = no_items c.in-Ok.all.items (empty.0 w.if-is_empty.true) in
      (not_empty c.args.self.now c.args.start (writes_named c.args.asked.now) c.args.session c.args.stamp c.in-Ok.all c.in-Ok.ensures.takes none, stays_itself c.args.self.now)
  | then-is_empty-via-else-is_empty+then-is_some w ↦
      let clash = some_clash c.args.self.now c.args.session w.deref.result.now w.first_clash.result (sym w.is_some.ensures ∙ w.if-is_some.true) w.first_clash.ensures.some in (
        not_clashing c.args.self.now c.args.start (writes_named c.args.asked.now) c.args.session c.args.stamp c.in-Ok.all c.in-Ok.ensures.takes clash.0
            (subst (λ (l : List Write). ClashesAt c.args.self.now c.args.session l clash.0) w.deref.ensures.value clash.1),
        stays_itself c.args.self.now,
      )
]

pub returns : goal.returns
returns c =
    let done = c.in_ok-commit_writes.ensures.ok in
    let empty : (c.is_empty.result ≡ true) ↔ (length c.in-Ok.all.items ≡ 0) = (let e = c.is_empty.ensures in search rules) in
    let some : c.in-Ok.all.items ≢ [] = λ e. cc (empty.1 (ap length e), c.if-is_empty.false) in
    let free = if_none c.first_clash.result c.first_clash.ensures.none (sym c.is_some.ensures ∙ c.if-is_some.false) in
    subst (λ (a : Audit). (st : State) → KeepsReached c.args.self.now st → (next : State) × Goes st (Commit c.args.start (writes_named c.args.asked.now)) (CommitDone c.args.session c.args.stamp) next
    × KeepsReached (record a { top = c.args.stamp }) next) (sym done.others)
    (committed c.args.self.now c.args.start (writes_named c.args.asked.now) c.args.session c.args.stamp c.in-Ok.all c.in-Ok.ensures.takes (c.may_open.ensures.0 (cc)) c.if-stamp-session.false c.if-stamp-self.false c.if-stamp-gt-MOST_STAMP.false some
    (subst (λ (l : List Write). AreFree c.args.self.now c.args.session l (length l)) c.deref.ensures.value free)
    c.commit_writes.new.self.begun c.commit_writes.new.self.active c.commit_writes.new.self.commits done.commit done.begun done.ended.at done.ended.len done.reads done.added)
