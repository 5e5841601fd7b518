use Rattle.std.proofs.Common.{option_map, subst, sym, ◌∙◌}
use Rattle.cell_key.specs.Cells.{Cells}
use Rattle.cell_key.specs.Places.{place_named}
use Rattle.rows.specs.Batches.{AreNextVersions}
use Rattle.remote_rows.proofs.FromPlaces.{some_row}
use Rattle.remote_rows.proofs.Reading.{keeps_then, reads_apart, told_cells}
use Rattle.remote_rows.proofs.Told.{of_page}
use Rattle.remote_rows.proofs.remote_rows.RemoteRowsRows.next_versions.Goals as goal

pub returns-in_err-batch-clause-reads : goal.returns-in_err-batch-clause-reads
returns-in_err-batch-clause-reads g c =
    let seen = g.W.RowWire.seen in
    reads_apart seen (λ rows. rows.wire) (λ rows. rows.held) c.args.self.now c.versions_in_page.new.self (keeps_then seen c.args.self.now.wire c.loop-keys.self.wire c.versions_in_page.new.self.wire c.loop-keys.invariant.wire c.versions_in_page.ensures.wire) (c.versions_in_page.ensures.kept ∙ c.loop-keys.invariant.kept)

pub returns-in-Some-clause-found : goal.returns-in-Some-clause-found
returns-in-Some-clause-found g c readable =
    let seen = g.W.RowWire.seen in
    let after = option_map place_named c.args.after in
    let (row, from) = some_row after in
    let (cells, shows) = readable row from in
    subst (λ (told : Cells). AreNextVersions told after c.args.hi c.in-Some.batch) (sym (told_cells seen c.args.self.now.wire c.args.self.now.held cells shows))
    (of_page (seen.cells c.loop-keys.self.wire) cells c.versions_in_page.result c.in_ok-batch.field-0 c.in-Some.batch (λ told batch. AreNextVersions told after c.args.hi batch) (c.loop-keys.invariant.wire.cells ∙ shows.told) c.in_ok-batch.was c.in-Some.is c.versions_in_page.ensures.found)

pub returns-in-Some-clause-reads : goal.returns-in-Some-clause-reads
returns-in-Some-clause-reads g c =
    let seen = g.W.RowWire.seen in
    reads_apart seen (λ rows. rows.wire) (λ rows. rows.held) c.args.self.now c.versions_in_page.new.self (keeps_then seen c.args.self.now.wire c.loop-keys.self.wire c.versions_in_page.new.self.wire c.loop-keys.invariant.wire c.versions_in_page.ensures.wire) (c.versions_in_page.ensures.kept ∙ c.loop-keys.invariant.kept)

pub returns-clause-reads : goal.returns-clause-reads
returns-clause-reads g c =
    reads_apart g.W.RowWire.seen (λ rows. rows.wire) (λ rows. rows.held) c.args.self.now c.loop-keys.self c.loop-keys.invariant.wire c.loop-keys.invariant.kept
