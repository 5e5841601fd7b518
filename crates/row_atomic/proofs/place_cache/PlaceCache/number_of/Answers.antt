-- A row that is found is moved to the front.
use Rattle.std.proofs.Common.{sym, ap, ◌∙◌, option_map, slice_get}
use Rattle.row_atomic.specs.PlaceCaches.{is_key_of}
use Rattle.row_atomic.proofs.PlaceCaches.{first_number, first_promoted, first_stays}
use Rattle.row_atomic.proofs.place_cache.PlaceCache.number_of.Goals as goal

pub returns-in-Some-clause-found : goal.returns-in-Some-clause-found
returns-in-Some-clause-found c =
    first_number c.args.row.now c.args.self.now.numbers.entries c.in-Some.number ((rw c.in-Some.is at c.last.ensures))

pub returns-in-Some-clause-first : goal.returns-in-Some-clause-first
returns-in-Some-clause-first c =
    first_stays c.args.row.now c.args.self.now.numbers.entries c.in-Some.number ((rw c.in-Some.is at c.last.ensures))

pub returns-then-promote-clause-found : goal.returns-then-promote-clause-found
returns-then-promote-clause-found c =
    c.first.ensures
    ∙ ap (λ kept. option_map (λ entry. entry.1) (slice_get kept.entries 0)) c.promote.ensures.entries
    ∙ first_promoted (is_key_of c.args.row.now) c.args.self.now.numbers.entries (sym c.promote.ensures.value ∙ c.if-promote.true)
