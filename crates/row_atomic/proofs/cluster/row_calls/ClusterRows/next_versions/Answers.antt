-- The cells from a place on belong to the tablets that are not skipped.
use Rattle.std.proofs.Common.{option_map}
use Rattle.cell_key.specs.Cells.{Cells}
use Rattle.cell_key.specs.Places.{place_named}
use Rattle.metadata_table.specs.Places.{views}
use Rattle.rows.specs.Batches.{AreNextVersions}
use Rattle.row_atomic.proofs.Calls.{files_read}
use Rattle.row_atomic.proofs.ManyVersions.{read_found, read_refused}
use Rattle.row_atomic.proofs.cluster.row_calls.ClusterRows.next_versions.Goals as goal

pub returns-clause-found : goal.returns-clause-found
returns-clause-found g c = rw (← c.self.view_is) (λ whole.
    read_found (g.F.Files.contents c.self.inside.files) c.self.inside.table c.self.inside.tablets.items c.places-places.ensures.table (option_map place_named c.args.after)
    (views c.places-places.result.now) c.deref.result.now c.places-places.ensures.places c.deref.ensures.value c.self.invariant.0.placed whole
    (λ (cells : Cells). AreNextVersions cells (option_map place_named c.args.after) c.args.hi) c.next_versions_in.result c.next_versions_in.ensures.found)

pub returns-clause-reads : goal.returns-clause-reads
returns-clause-reads g c = rw (← c.self.view_is) (files_read g.F.Files.contents _ c.next_versions_in.new.files c.next_versions_in.ensures.reads.same)

pub returns-clause-refusal : goal.returns-clause-refusal
returns-clause-refusal g c = rw (← c.self.view_is)
    (read_refused (g.F.Files.contents c.self.inside.files) c.self.inside.table c.self.inside.tablets.items c.places-places.ensures.table (option_map place_named c.args.after)
    (views c.places-places.result.now) c.deref.result.now c.places-places.ensures.places c.deref.ensures.value c.self.invariant.0.placed c.next_versions_in.result c.next_versions_in.ensures.damaged c.next_versions_in.ensures.reads.refusal)
