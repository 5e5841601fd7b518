use Rattle.std.proofs.Common.{◌≡◌, ◌≤◌, ◌∙◌, List, ℕ, length, ap, subst, sym}
use Rattle.std.specs.Prelude.{IfSome, Option}
use Rattle.cell_key.specs.Cells.{edited_key}
use Rattle.cell_key.specs.Entries.{Entry, lent_entry}
use Rattle.cell_key.specs.Keys.{text}
use Rattle.commit_log.specs.Edits.{edit_entry}
use Rattle.commit_log.proofs.Entries.{entry_joined, entry_split, short_edit}
use Rattle.commit_log.proofs.FieldParts.{stored_key, stored_value}
use Rattle.commit_log.proofs.Results.{of_none, of_some, passed}
use Rattle.commit_log.proofs.edits.first_entry.Goals as goal

pub returns-in_default-clause-damaged : goal.returns-in_default-clause-damaged
returns-in_default-clause-damaged c = λ _ edit x is. c.in_default.ensures.none (edit_entry edit) x (short_edit edit is)

pub returns-in_default-2-clause-damaged : goal.returns-in_default-2-clause-damaged
returns-in_default-2-clause-damaged c = λ _ edit x is same.
    let entry : edit_entry edit ≡ lent_entry c.in-Some.entry = (entry_split (edit_entry edit) (lent_entry c.in-Some.entry) x c.in-Some.rest.now (short_edit edit is) c.in-Some.ensures.short (sym same ∙ c.in-Some.ensures.found)).0 in
    of_none _ _ c.in_default-2.is c.in_ok-key.ensures.none (edited_key edit) (stored_key edit is) (sym (ap (λ (e : Entry). e.0) entry))

pub returns-in_err-edit-clause-damaged : goal.returns-in_err-edit-clause-damaged
returns-in_err-edit-clause-damaged c = λ e edit x is same.
    let entry : edit_entry edit ≡ lent_entry c.in-Some.entry = (entry_split (edit_entry edit) (lent_entry c.in-Some.entry) x c.in-Some.rest.now (short_edit edit is) c.in-Some.ensures.short (sym same ∙ c.in-Some.ensures.found)).0 in
    c.in_err-edit.ensures.damaged (passed c.from_residual-in_err-edit.result c.in_err-edit.field-0.0 _ c.from_residual-in_err-edit.ensures.1 e)
    (subst (λ (v : Option (List ℕ)). IfSome v (λ bytes. length bytes ≤ 65536)) (ap (λ (e : Entry). e.1) entry) (stored_value edit is))

pub returns-clause-found : goal.returns-clause-found
returns-clause-found c = entry_joined _ _ _ _ _ c.in_ok-edit.edit c.in-Some.ensures.found (of_some _ (λ key. c.in-Some.entry.key.now ≡ text key) c.in-Some-2.key c.in-Some-2.is c.in_ok-key.ensures.found) c.in_ok-edit.ensures.key c.in_ok-edit.ensures.value
