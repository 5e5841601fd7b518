use Rattle.std.proofs.Common.{◌≡◌, ◌≢◌, ◌++◌, subst, sym}
use Rattle.std.specs.Prelude.{IfOk}
use Rattle.commit_log.specs.Edits.{spelled_as}
use Rattle.commit_log.specs.declared.edits.EditForm.{EditForm}
use Rattle.commit_log.proofs.edits.first_edit.Goals as goal

pub returns-in-Fields-clause-found : goal.returns-in-Fields-clause-found
returns-in-Fields-clause-found c = subst (λ (form : EditForm). IfOk c.first_fields.result (λ p. c.args.bytes.now ≡ spelled_as form p.0 ++ p.1.now)) (sym c.in-Fields.is) c.first_fields.ensures.found

pub returns-in-Fields-clause-damaged : goal.returns-in-Fields-clause-damaged
returns-in-Fields-clause-damaged c = λ e edit rest is. subst (λ (form : EditForm). c.args.bytes.now ≢ spelled_as form edit ++ rest) (sym c.in-Fields.is) (c.first_fields.ensures.damaged e edit rest is)

pub returns-in-Entries-clause-found : goal.returns-in-Entries-clause-found
returns-in-Entries-clause-found c = subst (λ (form : EditForm). IfOk c.first_entry.result (λ p. c.args.bytes.now ≡ spelled_as form p.0 ++ p.1.now)) (sym c.in-Entries.is) c.first_entry.ensures.found

pub returns-in-Entries-clause-damaged : goal.returns-in-Entries-clause-damaged
returns-in-Entries-clause-damaged c = λ e edit rest is. subst (λ (form : EditForm). c.args.bytes.now ≢ spelled_as form edit ++ rest) (sym c.in-Entries.is) (c.first_entry.ensures.damaged e edit rest is)
