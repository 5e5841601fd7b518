use Rattle.std.proofs.Common.{sym}
use Rattle.std.proofs.lemmas.List.{length-map}
use Rattle.txn_client.specs.Writes.{write_of}
use Rattle.txn_client.proofs.TakenWrites.{refused_at, takes_at}
use Rattle.txn_client.proofs.takings.take_write.Goals as goal

pub returns-clause-takes : goal.returns-clause-takes
returns-clause-takes c =
    takes_at c.set.result _ _ c.in_ok-cell.cell _ c.in_ok-value.value _ _ (sym (length-map c.args.taken.now write_of)) c.set.ensures.ok c.set.ensures.room c.in_ok-cell.ensures.ok c.in_ok-value.ensures.value (c.in_ok-cell.ensures.row, c.in_ok-cell.ensures.family)
    c.in_ok-value.ensures.short

pub returns-clause-refusal : goal.returns-clause-refusal
returns-clause-refusal c =
    refused_at c.set.result _ c.in_ok-cell.cell _ _ _ (sym (length-map c.args.taken.now write_of)) c.set.ensures.full c.set.ensures.refusal c.in_ok-cell.ensures.ok (c.in_ok-cell.ensures.row, c.in_ok-cell.ensures.family) c.in_ok-value.ensures.short
