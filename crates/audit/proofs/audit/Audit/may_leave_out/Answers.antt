use Rattle.std.proofs.Common.{ℕ, ◌<◌, ◌≤◌, inl, inr, subst, map, IsTrue}
use Rattle.std.specs.Prelude.{◌↔◌}
use Rattle.std.proofs.lemmas.Bool.{cases_lt}
use Rattle.si_model.specs.Reads.{cell_of}
use Rattle.si_model.specs.declared.replies.Cell.{Cell}
use Rattle.audit.specs.Audits.{commit_of}
use Rattle.audit.specs.AuditScans.{HasValue}
use Rattle.audit.proofs.ToldCells.{unsent_is}
use Rattle.audit.proofs.audit.Audit.may_leave_out.Goals as goal

above : (s n : ℕ) → ¬ (n ≤ s) → s < n
above s n h = elim (cases_lt s n) [ inl lt ↦ lt | inr ge ↦ absurd (h ge) ]

pub returns-clause-told : goal.returns-clause-told
returns-clause-told c =
    unsent_is c.args.self.now c.args.start c.args.used (cell_of c.args.row.now c.args.family.now) c.has_value.result c.least_unsent.result
    (λ t m. above c.args.start t (λ ge. cc (c.is_held_back.ensures.1 (t, m, ge), c.if-is_held_back.false)))
    (subst (λ (x : Cell). IsTrue c.has_value.result ↔ HasValue (map commit_of c.args.self.now.commits) c.args.start x c.least_unsent.result) c.in_ok-cell.ensures.ok c.has_value.ensures) c.least_unsent.ensures
