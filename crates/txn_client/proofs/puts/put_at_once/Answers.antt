use Rattle.std.proofs.Common.{◌∙◌, ℕ, map, sym, subst, ap}
use Rattle.si_model.specs.PutCells.{all_put_cells}
use Rattle.txn_client.specs.Puts.{ArePuttings}
use Rattle.txn_client.specs.Writes.{write_of}
use Rattle.txn_client.proofs.PutTogether.{each_row}
use Rattle.txn_client.proofs.puts.put_at_once.Goals as goal

pub returns-clause-puts : goal.returns-clause-puts
returns-clause-puts g c =
    let rows = c.args.rows.now in
    let changes = c.in_ok-changes.changes.items in
    let all = map write_of c.args.writes.items in
    let stamp = c.stamp.ensures.stamp in
    record {
      changes = changes;
      puts = subst (λ (n : ℕ). ArePuttings c.args.start n all changes) (sym stamp) c.in_ok-changes.ensures.puttings;
      applied = c.in_ok-apply_changes.ensures.ok;
      made = λ held.
          c.in_ok-apply_changes.ensures.ok.made (each_row (g.R.Rows.seen.readable rows) (λ row. g.R.Rows.seen.each_readable rows held row) changes)
          ∙ (c.in_ok-changes.ensures.made (g.R.Rows.seen.cells rows) ∙ ap (λ (n : ℕ). all_put_cells (g.R.Rows.seen.cells rows) all c.args.start n) (sym stamp));
    }
