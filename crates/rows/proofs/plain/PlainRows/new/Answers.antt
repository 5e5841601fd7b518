use Rattle.rows.proofs.Limits.{kept_none}
use Rattle.rows.proofs.plain.PlainRows.new.Goals as goal

pub invariant_of-result : goal.invariant_of-result
invariant_of-result c = kept_none c.new.result.entries c.new.ensures.empty
