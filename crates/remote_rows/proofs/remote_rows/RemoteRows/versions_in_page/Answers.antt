use Rattle.std.proofs.Common.{option_map}
use Rattle.cell_key.specs.Cells.{Cells}
use Rattle.cell_key.specs.Places.{place_named}
use Rattle.remote_rows.specs.Pages.{IsSpanOf}
use Rattle.remote_rows.proofs.Told.{if_some_then}
use Rattle.remote_rows.proofs.remote_rows.RemoteRows.versions_in_page.Goals as goal

pub returns-clause-found : goal.returns-clause-found
returns-clause-found g c =
    if_some_then (g.W.RowWire.seen.cells c.args.self.now.wire) (λ (cells : Cells). IsSpanOf cells (option_map place_named c.args.after) c.in_ok-span.span) _ c.in_ok-span.ensures.found (λ cells is. c.next_versions.ensures.found cells is)
