use Rattle.std.proofs.Common.{◌+◌, ◌<◌, ◌≤◌, length, arith}
use Rattle.si_model.specs.Transactions.{has_nothing, is_sent, is_left_out, is_blocked}
use Rattle.txn_client.proofs.cell_reads.said_after.Goals as goal

pub returns-then-bytes-len-gt-MOST_TOLD-clause-told : goal.returns-then-bytes-len-gt-MOST_TOLD-clause-told
returns-then-bytes-len-gt-MOST_TOLD-clause-told c =
    let is = c.in-Value.is in
    let count = c.len.ensures in
    let many = c.if-bytes-len-gt-MOST_TOLD.true in
    let past : 1046268 < c.args.bytes + (1 + (4 + length c.in-Value.value.items)) = omega (arith, count, many) in
    rw is (is_left_out {value = c.in-Value.value.items} past)

pub returns-in-Nothing-clause-told : goal.returns-in-Nothing-clause-told
returns-in-Nothing-clause-told c = rw c.in-Nothing.is has_nothing

pub returns-in-Pending-clause-told : goal.returns-in-Pending-clause-told
returns-in-Pending-clause-told c = rw c.in-Pending.is is_blocked

pub returns-else-bytes-len-gt-MOST_TOLD-clause-told : goal.returns-else-bytes-len-gt-MOST_TOLD-clause-told
returns-else-bytes-len-gt-MOST_TOLD-clause-told c =
    let is = c.in-Value.is in
    let count = c.len.ensures in
    let few = c.if-bytes-len-gt-MOST_TOLD.false in
    let fits : c.args.bytes + (1 + (4 + length c.in-Value.value.items)) ≤ 1046268 = omega (arith, count, few) in
    rw is (is_sent {value = c.in-Value.value.items} fits)
