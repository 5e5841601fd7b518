use Rattle.std.proofs.Common.{None}
use Rattle.metadata_table.proofs.RangeLemmas.{has_range, only_range}
use Rattle.metadata_table.proofs.laws.one_holder.Goals as goal

pub returns : goal.returns
returns c = λ ps table row.
    let found = has_range None ps table.rising row tt in
    (found.0, record { there = found.1; has = found.2; only = λ other there has. only_range None ps table.rising row found.0 other found.1 found.2 there has })
