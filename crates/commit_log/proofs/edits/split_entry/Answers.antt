use Rattle.commit_log.proofs.Entries.{other_kind, no_value}
use Rattle.commit_log.proofs.Results.{as_none}
use Rattle.commit_log.proofs.edits.split_entry.Goals as goal

pub returns-then-kind-ne1-clause-none : goal.returns-then-kind-ne1-clause-none
returns-then-kind-ne1-clause-none c =
    other_kind _ _ _ _ _ c.in_ok-key.ensures.short c.in_ok-key.ensures.found c.in_ok-kind.ensures.cases.0 c.if-kind-eq0.false c.if-kind-ne1.true

pub returns-in_err-value-clause-none : goal.returns-in_err-value-clause-none
returns-in_err-value-clause-none c =
    as_none c.from_residual-in_err-value.result
    (no_value _ _ _ _ _ c.in_ok-key.ensures.short c.in_ok-key.ensures.found c.in_ok-kind.ensures.cases.0 c.if-kind-ne1.false c.in_err-value.ensures.none)
