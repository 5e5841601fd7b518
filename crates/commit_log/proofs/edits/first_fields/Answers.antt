use Rattle.std.proofs.Common.{◌≤◌, ◌++◌, ◌∙◌, List, ℕ, length, subst, sym}
use Rattle.std.specs.Prelude.{IfSome, Option, is_some}
use Rattle.std.specs.Option.{option_copied}
use Rattle.cell_key.specs.Cells.{edited_key}
use Rattle.cell_key.specs.Keys.{IsStored}
use Rattle.commit_log.specs.Edits.{edit_value, lent_key, value_field}
use Rattle.commit_log.proofs.FieldParts.{edit_front, edit_joined, its_key, its_puts, its_value, its_value_field, rest_shorter, short_value, stored_fits, stored_key, stored_value}
use Rattle.commit_log.proofs.Results.{passed}
use Rattle.commit_log.proofs.edits.first_fields.Goals as goal

pub returns-in_default-clause-damaged : goal.returns-in_default-clause-damaged
returns-in_default-clause-damaged c = λ _ edit x is same.
    c.in_default.ensures.none (edited_key edit) (is_some (edit_value edit)) (value_field (edit_value edit) ++ x) (stored_fits edit is) (same ∙ edit_front edit x)

pub returns-in_default-split_value-clause-damaged : goal.returns-in_default-split_value-clause-damaged
returns-in_default-split_value-clause-damaged c = λ _ edit x is same.
    let key = lent_key c.in-Some.fields in
    c.in_default-split_value.ensures.none (edit_value edit) x
    (its_puts c.args.bytes.now c.in-Some.after.now x x key c.in-Some.puts edit is c.in-Some.ensures.short c.in-Some.ensures.found same)
    (short_value edit is)
    (its_value_field c.args.bytes.now c.in-Some.after.now x x key c.in-Some.puts edit is c.in-Some.ensures.short c.in-Some.ensures.found same)

pub returns-in_err-key-clause-damaged : goal.returns-in_err-key-clause-damaged
returns-in_err-key-clause-damaged c = λ e edit x is same.
    let key = lent_key c.in-Some.fields in
    c.in_err-key.ensures.damaged (passed c.from_residual.result c.in_err-key.field-0.0 _ c.from_residual.ensures.1 e)
    (subst IsStored (sym (its_key c.args.bytes.now c.in-Some.after.now x x key c.in-Some.puts edit is c.in-Some.ensures.short c.in-Some.ensures.found same)) (stored_key edit is))

pub returns-in_err-edit-clause-damaged : goal.returns-in_err-edit-clause-damaged
returns-in_err-edit-clause-damaged c = λ e edit x is same.
    let key = lent_key c.in-Some.fields in
    let value = option_copied c.in-Some-split_value.value in
    let of = its_value c.args.bytes.now c.in-Some.after.now c.in-Some-split_value.rest.now x key c.in-Some.puts edit is c.in-Some.ensures.short c.in-Some.ensures.found same value c.in-Some-split_value.ensures.puts c.in-Some-split_value.ensures.short c.in-Some-split_value.ensures.found in
    c.in_err-edit.ensures.damaged (passed c.from_residual-in_err-edit.result c.in_err-edit.field-0.0 _ c.from_residual-in_err-edit.ensures.1 e)
    (subst (λ (v : Option (List ℕ)). IfSome v (λ bytes. length bytes ≤ 65536)) (sym of) (stored_value edit is))

pub returns-clause-found : goal.returns-clause-found
returns-clause-found c =
    edit_joined c.args.bytes.now c.in-Some.after.now c.in-Some-split_value.rest.now (lent_key c.in-Some.fields) c.in-Some.puts (option_copied c.in-Some-split_value.value) c.in_ok-edit.edit c.in-Some.ensures.found c.in-Some-split_value.ensures.found c.in-Some-split_value.ensures.puts
    (c.in_ok-edit.ensures.key ∙ c.in_ok-key.ensures.key) c.in_ok-edit.ensures.value

pub returns-clause-shorter : goal.returns-clause-shorter
returns-clause-shorter c = rest_shorter c.args.bytes.now c.in-Some-split_value.rest.now c.in_ok-edit.edit (returns-clause-found c)
