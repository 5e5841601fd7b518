use Rattle.std.proofs.Common.{◌≡◌, ◌+◌, ◌*◌, ◌≤◌, None, length, take}
use Rattle.rows.specs.Calls.{AreReadableFrom, OnlyReads}
use Rattle.si_model.specs.Answers.{cells_named, told_items}
use Rattle.si_model.specs.Transactions.{told_lengths}
use Rattle.txn_client.specs.CellReads.{AreRead, IsShortOf}
use Rattle.txn_client.proofs.cell_reads.read_all.Given as goal

-- the cells so far are read
abbrev pub invariant-loop-name : goal.invariant-loop-name
invariant-loop-name g l = record {
  few : l.told.bytes ≤ 1046268 + 9 * length l.told.found.items;
  count : length l.told.found.items ≡ l.name-index;
  read : AreReadableFrom g.R.Rows.seen l.fn.rows None → AreRead (g.R.Rows.seen.cells l.fn.rows) l.fn.start 0 (cells_named (take l.name-index l.names)) (told_items l.told.found.items);
  bytes : l.told.bytes ≡ told_lengths (told_items l.told.found.items);
  short : IsShortOf (length l.told.found.items) l.told.bytes;
  reads : OnlyReads g.R.Rows.seen l.fn.rows l.rows;
  faults : g.R.Rows.faults l.rows ≡ g.R.Rows.faults l.fn.rows;
}
