use Rattle.version_collector.proofs.Starts.{passed_none}
use Rattle.version_collector.proofs.versions.named_by.Goals as goal

pub returns-in_err-write_of-in-Some-clause-damaged : goal.returns-in_err-write_of-in-Some-clause-damaged
returns-in_err-write_of-in-Some-clause-damaged c =
    passed_none c.args.found (c.in-Some.field-0-0, c.in-Some.text) c.deref.result.now c.in-Some.is c.deref.ensures.value c.in_err-write_of-in-Some.ensures.damaged c.from_residual.result
