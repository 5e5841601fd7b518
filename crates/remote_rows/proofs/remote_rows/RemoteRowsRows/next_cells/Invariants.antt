use Rattle.std.proofs.Common.{◌≡◌}
use Rattle.remote_rows.specs.Wires.{KeepsRows}
use Rattle.remote_rows.proofs.remote_rows.RemoteRowsRows.next_cells.Given as goal

-- nothing was changed
abbrev pub invariant-loop-keys : goal.invariant-loop-keys
invariant-loop-keys g l = record {
  wire : KeepsRows g.W.RowWire.seen l.fn.self.wire l.self.wire;
  kept : l.self.held ≡ l.fn.self.held;
  faults : l.self.faults ≡ l.fn.self.faults;
}
