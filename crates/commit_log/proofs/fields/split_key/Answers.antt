use Rattle.commit_log.proofs.FieldParts.{its_column, its_family, its_row, its_stamp, key_joined, no_bytes, no_stamp}
use Rattle.commit_log.proofs.Results.{as_none}
use Rattle.commit_log.proofs.fields.split_key.Goals as goal

pub returns-in_err-byte-clause-none : goal.returns-in_err-byte-clause-none
returns-in_err-byte-clause-none c = as_none c.from_residual.result (λ key puts rest fits same.
    no_bytes c.args.bytes.now key puts rest fits same c.in_err-byte.ensures.cases)

pub returns-in_err-column-clause-none : goal.returns-in_err-column-clause-none
returns-in_err-column-clause-none c = as_none c.from_residual-in_err-column.result (λ key puts rest fits same.
    c.in_err-column.ensures.none key.qualifier puts (its_column c.args.bytes.now key puts rest fits same c.in_ok-byte.byte.now c.in_ok-byte.after_column.now c.in_ok-byte.ensures.cases.0))

pub returns-in_err-row-clause-none : goal.returns-in_err-row-clause-none
returns-in_err-row-clause-none c = as_none c.from_residual-in_err-row.result (λ key puts rest fits same.
    c.in_err-row.ensures.none key.row _ fits.row (its_row c.args.bytes.now key puts rest fits same c.in_ok-byte.byte.now c.in_ok-byte.after_column.now c.in_ok-byte.ensures.cases.0))

pub returns-in_err-family-clause-none : goal.returns-in_err-family-clause-none
returns-in_err-family-clause-none c = as_none c.from_residual-in_err-family.result (λ key puts rest fits same.
    c.in_err-family.ensures.none key.family _ fits.family
    (its_family c.args.bytes.now key puts rest fits same c.in_ok-byte.byte.now c.in_ok-byte.after_column.now c.in_ok-byte.ensures.cases.0 c.in_ok-row.row.now c.in_ok-row.after_row.now c.in_ok-row.ensures.found c.in_ok-row.ensures.short))

pub returns-in_err-stamp-clause-none : goal.returns-in_err-stamp-clause-none
returns-in_err-stamp-clause-none c = as_none c.from_residual-in_err-stamp.result (λ key puts rest fits same.
    no_stamp _ rest key.stamp c.in_err-stamp.ensures.none
    (its_stamp c.args.bytes.now key puts rest fits same c.in_ok-byte.byte.now c.in_ok-byte.after_column.now c.in_ok-byte.ensures.cases.0 c.in_ok-row.row.now c.in_ok-row.after_row.now c.in_ok-row.ensures.found c.in_ok-row.ensures.short c.in_ok-family.family.now c.in_ok-family.after_family.now c.in_ok-family.ensures.found))

pub returns-clause-found : goal.returns-clause-found
returns-clause-found c =
    key_joined c.args.bytes.now c.in_ok-byte.after_column.now c.in_ok-row.after_row.now c.in_ok-family.after_family.now c.in_ok-stamp.rest.now c.in_ok-row.row.now c.in_ok-family.family.now c.in_ok-byte.byte.now c.in_ok-stamp.stamp c.in_ok-column.column c.in_ok-column.puts
    c.in_ok-byte.ensures.cases.0 c.in_ok-column.ensures.found c.in_ok-row.ensures.found c.in_ok-family.ensures.found c.in_ok-stamp.ensures.found
