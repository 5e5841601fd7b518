use Rattle.std.proofs.Common.{◌≡◌, ◌+◌, ◌≤◌, None, length, true}
use Rattle.std.specs.Prelude.{option_map}
use Rattle.std.specs.List.{AllByRecursion}
use Rattle.std.specs.Vec.Iter.{into_iter_items}
use Rattle.cell_key.specs.Places.{AreNextCells, IsNextCell, last_or}
use Rattle.rows.specs.Calls.{OnlyReads}
use Rattle.si_model.specs.Scans.{place_at}
use Rattle.rows.specs.Batches.{HasNewest, places_in}
use Rattle.txn_client.specs.Gathering.{Gathers, IsInLimits, last_of}
use Rattle.txn_client.specs.Ranges.{range_named}
use Rattle.txn_client.specs.Scans.{IsScanReadable}
use Rattle.txn_client.proofs.scan.Gathered.take_batch.Given as goal

-- the remaining cells are the next ones after the last cell, with their newest versions
abbrev pub invariant-loop-versions : goal.invariant-loop-versions
invariant-loop-versions g l = record {
  limits : IsInLimits l.self;
  cells : l.self.cells ≡ l.fn.self.cells;
  count : l.self.looked + length (into_iter_items l.versions-iterator) ≡ l.fn.self.looked + length (into_iter_items l.initial.versions-iterator);
  grows : l.fn.self.looked ≤ l.self.looked;
  gathers : IsScanReadable g.R.Rows.seen l.fn.rows (range_named l.fn.scan.range) → Gathers (g.R.Rows.seen.cells l.fn.rows) l.fn.scan l.fn.self → Gathers (g.R.Rows.seen.cells l.fn.rows) l.fn.scan l.self;
  next : IsScanReadable g.R.Rows.seen l.fn.rows (range_named l.fn.scan.range) → Gathers (g.R.Rows.seen.cells l.fn.rows) l.fn.scan l.fn.self
      → AreNextCells (g.R.Rows.seen.cells l.fn.rows) (option_map place_at (last_of l.self)) (length (into_iter_items l.versions-iterator)) (places_in (into_iter_items l.versions-iterator));
  newest : IsScanReadable g.R.Rows.seen l.fn.rows (range_named l.fn.scan.range) → Gathers (g.R.Rows.seen.cells l.fn.rows) l.fn.scan l.fn.self
      → AllByRecursion (HasNewest (g.R.Rows.seen.cells l.fn.rows) l.fn.scan.start) (into_iter_items l.versions-iterator);
  ends : IsScanReadable g.R.Rows.seen l.fn.rows (range_named l.fn.scan.range) → Gathers (g.R.Rows.seen.cells l.fn.rows) l.fn.scan l.fn.self → l.is_last ≡ true
      → IsNextCell (g.R.Rows.seen.cells l.fn.rows) (last_or (option_map place_at (last_of l.self)) (places_in (into_iter_items l.versions-iterator))) None;
  reads : OnlyReads g.R.Rows.seen l.fn.rows l.rows;
  faults : g.R.Rows.faults l.rows ≡ g.R.Rows.faults l.fn.rows;
}
