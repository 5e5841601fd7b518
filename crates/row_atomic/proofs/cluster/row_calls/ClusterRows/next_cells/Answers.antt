-- The cells from a place on belong to the tablets that are not skipped.
use Rattle.std.proofs.Common.{option_map}
use Rattle.cell_key.specs.Places.{place_named}
use Rattle.metadata_table.specs.Places.{views}
use Rattle.row_atomic.proofs.Calls.{files_read}
use Rattle.row_atomic.proofs.Readable.{next_found, next_refused}
use Rattle.row_atomic.proofs.cluster.row_calls.ClusterRows.next_cells.Goals as goal

pub returns-clause-found : goal.returns-clause-found
returns-clause-found g c = rw (← c.self.view_is) (λ whole.
    next_found (g.F.Files.contents c.self.inside.files) c.self.inside.table c.self.inside.tablets.items c.places-places.ensures.table (option_map place_named c.args.after)
    (views c.places-places.result.now) c.deref.result.now c.places-places.ensures.places c.deref.ensures.value c.self.invariant.0.placed whole c.args.most (λ found. found.items) c.next_cells_in.result c.next_cells_in.ensures.found)

pub returns-clause-reads : goal.returns-clause-reads
returns-clause-reads g c = rw (← c.self.view_is) (files_read g.F.Files.contents _ c.next_cells_in.new.files c.next_cells_in.ensures.reads.same)

pub returns-clause-refusal : goal.returns-clause-refusal
returns-clause-refusal g c = rw (← c.self.view_is)
    (next_refused (g.F.Files.contents c.self.inside.files) c.self.inside.table c.self.inside.tablets.items c.places-places.ensures.table (option_map place_named c.args.after)
    (views c.places-places.result.now) c.deref.result.now c.places-places.ensures.places c.deref.ensures.value c.args.most c.next_cells_in.result c.next_cells_in.ensures.meets c.next_cells_in.ensures.reads.refusal)
