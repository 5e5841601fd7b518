use Rattle.std.proofs.Common.{inl, option_map}
use Rattle.cell_key.specs.Places.{place_named}
use Rattle.rows.specs.Batches.{AreNextVersions}
use Rattle.remote_rows.proofs.InMemory.{from_memory}
use Rattle.remote_rows.proofs.NextInSpans.{full_too, next_versions}
use Rattle.remote_rows.proofs.span.Span.next_versions.Goals as goal

pub returns-clause-found : goal.returns-clause-found
returns-clause-found c cells is =
    let after = option_map place_named c.args.after in
    let next = from_memory c.next_versions.result c.in_memory.result c.in_ok-batch.batch (AreNextVersions c.args.self.rows after c.args.hi) c.in_memory.ensures c.in_ok-batch.was (c.next_versions.ensures.found (λ row from. tt)) in
    next_versions cells c.args.self.rows c.args.self.end is.none after c.args.hi c.in_ok-batch.batch is.same (inl c.in-None.is) next

pub returns-in-Some-clause-found : goal.returns-in-Some-clause-found
returns-in-Some-clause-found c cells is =
    let after = option_map place_named c.args.after in
    let next = from_memory c.next_versions.result c.in_memory.result c.in_ok-batch.batch (AreNextVersions c.args.self.rows after c.args.hi) c.in_memory.ensures c.in_ok-batch.was (c.next_versions.ensures.found (λ row from. tt)) in
    full_too cells c.args.self.rows c.args.self.end is.none after c.args.hi c.in_ok-batch.batch c.full_batch.result is.same c.full_batch.ensures.cells c.full_batch.ensures.last next
