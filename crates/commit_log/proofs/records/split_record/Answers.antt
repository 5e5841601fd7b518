use Rattle.commit_log.proofs.Naming.{too_short}
use Rattle.commit_log.proofs.Results.{as_none}
use Rattle.commit_log.proofs.records.split_record.Goals as goal

pub returns-in_err-stamp-clause-none : goal.returns-in_err-stamp-clause-none
returns-in_err-stamp-clause-none c =
    as_none c.from_residual-in_err-stamp.result (too_short c.args.bytes.now c.in_ok-byte.after.now c.in_ok-byte.byte.now c.in_ok-byte.ensures.cases.0 c.in_err-stamp.ensures.none)
