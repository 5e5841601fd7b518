use Rattle.std.proofs.Common.{List, subst, sym, ◌∙◌}
use Rattle.rows.specs.Room.{OverfillsOne}
use Rattle.rows.specs.declared.row_edits.RowEdits.{RowEdits}
use Rattle.txn_client.proofs.PutTogether.{only_change, overfills_one}
use Rattle.txn_client.proofs.puts.apply_changes.Goals as goal

pub returns-then-len-eq1-clause-full : goal.returns-then-len-eq1-clause-full
returns-then-len-eq1-clause-full g c = λ is.
    let one = only_change c.args.changes.items c.pop.new.self.items c.pop.result c.unwrap-row.result (sym c.args.changes.ok.0 ∙ (sym c.len.ensures ∙ c.if-len-eq1.true)) c.pop.ensures.items c.unwrap-row.ensures in
    subst (λ (l : List RowEdits). OverfillsOne g.R.Rows.seen.overfills l c.args.rows.now) (sym one)
    (overfills_one g.R.Rows.seen.overfills c.args.rows.now c.unwrap-row.result (c.apply.ensures.full is))
