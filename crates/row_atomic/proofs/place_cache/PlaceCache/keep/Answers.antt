-- If the entry is added it is the row's; otherwise nothing changes.
use Rattle.std.proofs.Common.{List, ℕ, subst}
use Rattle.row_atomic.specs.PlaceCaches.{AddsOnly}
use Rattle.row_atomic.proofs.PlaceCaches.{added_by}
use Rattle.row_atomic.proofs.place_cache.PlaceCache.keep.Goals as goal

pub returns-in-Ok-clause-adds : goal.returns-in-Ok-clause-adds
returns-in-Ok-clause-adds c =
    subst (λ (row : List ℕ). AddsOnly row c.args.number c.args.self.now.numbers.entries c.put-told.new.self.entries) c.in-Ok.ensures.cases
    (added_by c.put-told.result c.put-told.new.self c.args.self.now.numbers c.in-Ok.row c.args.number c.put-told.ensures.entries c.put-told.ensures.err)
