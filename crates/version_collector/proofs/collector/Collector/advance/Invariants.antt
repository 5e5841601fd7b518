use Rattle.std.proofs.Common.{◌≡◌}
use Rattle.rows.specs.Calls.{AreReadableFrom, KeepsBelow}
use Rattle.si_model.specs.Machine.{State}
use Rattle.version_collector.specs.Room.{TakesRoomOfVisits}
use Rattle.version_collector.specs.Ahead.{IsAhead}
use Rattle.version_collector.specs.Visits.{AreVisits, Thins, WhereCome, position_of, read_from}
use Rattle.version_collector.proofs.collector.Collector.advance.Given as goal

-- the counted visits were made, each answered More
abbrev pub invariant-loop-made : goal.invariant-loop-made
invariant-loop-made g l = record {
  visited : AreReadableFrom g.R.Rows.seen l.fn.rows (read_from l.fn.self l.self)
      → (st : State) → WhereCome st (g.R.Rows.seen.cells l.fn.rows) l.fn.self (AreVisits (g.R.Rows.seen.cells l.fn.rows) l.fn.self l.made (g.R.Rows.seen.cells l.rows) l.self);
  ahead : AreReadableFrom g.R.Rows.seen l.fn.rows (read_from l.fn.self l.self)
      → (st : State) → WhereCome st (g.R.Rows.seen.cells l.fn.rows) l.fn.self (IsAhead (g.R.Rows.seen.cells l.rows) (position_of l.self.after) l.ahead);
  floor : l.self.floor ≡ l.fn.self.floor;
  none : l.made ≡ 0 → (l.self ≡ l.fn.self) × (l.rows ≡ l.fn.rows);
  below : KeepsBelow g.R.Rows.seen l.fn.rows l.rows;
  thins : g.R.Rows.seen.holds l.fn.rows → Thins l.made (g.R.Rows.seen.cells l.fn.rows) (g.R.Rows.seen.cells l.rows);
  room : TakesRoomOfVisits g.R.Rows.seen.overfills l.made l.fn.rows l.rows;
  faults : g.R.Rows.faults l.rows ≡ g.R.Rows.faults l.fn.rows;
}
