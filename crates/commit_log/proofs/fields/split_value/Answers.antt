use Rattle.std.proofs.Common.{rules}
use Rattle.commit_log.proofs.FieldParts.{no_value_field}
use Rattle.commit_log.proofs.Results.{as_none}
use Rattle.commit_log.proofs.fields.split_value.Goals as goal

pub returns-in_err-value-clause-none : goal.returns-in_err-value-clause-none
returns-in_err-value-clause-none c = as_none c.from_residual.result (λ value rest some small same.
    no_value_field c.args.bytes.now rest value c.in_err-value.ensures.none (search rules) small same)
