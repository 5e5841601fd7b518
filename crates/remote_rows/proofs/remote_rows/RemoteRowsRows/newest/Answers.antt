use Rattle.std.proofs.Common.{option_map, subst, sym}
use Rattle.cell_key.specs.Cells.{Cells, IsNewest, version}
use Rattle.cell_key.specs.Versions.{stamped}
use Rattle.remote_rows.specs.Shown.{shown_cells}
use Rattle.remote_rows.proofs.InMemory.{if_from_memory}
use Rattle.remote_rows.proofs.Reading.{held_too, reads, reads_none, told_cells}
use Rattle.remote_rows.proofs.SameReads.{newest_too, same_column}
use Rattle.remote_rows.proofs.remote_rows.RemoteRowsRows.newest.Goals as goal

pub returns-in_err-held-clause-reads : goal.returns-in_err-held-clause-reads
returns-in_err-held-clause-reads g c =
    reads_none g.W.RowWire.seen (λ rows. rows.wire) (λ rows. rows.held) c.args.self.now c.take.new.self c.take.ensures.wire c.take.ensures.none

pub returns-clause-reads : goal.returns-clause-reads
returns-clause-reads g c =
    reads g.W.RowWire.seen (λ rows. rows.wire) (λ rows. rows.held) c.args.self.now _ c.take.ensures.wire
    (λ cells shows. held_too cells (g.W.RowWire.seen.guard c.args.self.now.wire) c.in_ok-held.held c.newest-found.new.self c.newest-found.ensures.reads.kept (c.in_ok-held.ensures.held cells shows))

pub returns-clause-found : goal.returns-clause-found
returns-clause-found g c (cells, shows) =
    let is = c.in_ok-held.ensures.held cells shows in
    let at = version c.args.row.now c.args.family.now c.args.qualifier in
    let same = same_column cells (g.W.RowWire.seen.guard c.args.self.now.wire) c.in_ok-held.held c.args.row.now c.args.family.now c.args.qualifier c.in_ok-held.ensures.row is in
    if_from_memory c.newest-found.result c.in_memory.result (λ found. IsNewest c.in_ok-held.held.rows at c.args.lo c.args.hi (option_map stamped found)) (λ found. IsNewest (shown_cells g.W.RowWire.seen c.args.self.now.wire) at c.args.lo c.args.hi (option_map stamped found)) c.in_memory.ensures (c.newest-found.ensures.found tt)
    (λ found one. subst (λ (told : Cells). IsNewest told at c.args.lo c.args.hi (option_map stamped found)) (sym (told_cells g.W.RowWire.seen c.args.self.now.wire c.args.self.now.held cells shows)) (newest_too c.in_ok-held.held.rows cells at c.args.lo c.args.hi (option_map stamped found) same one))
