-- The edits of one tablet are put after those of all others.
use Rattle.std.proofs.Common.{◌≡◌, ◌<◌, [], List, ℕ, length, max, slice_get, slice_index_or, IsErrOf, refl, sym, ap, ◌∙◌, arith, rules}
use Rattle.std.proofs.lemmas.List.{length-set}
use Rattle.std.proofs.lemmas.Result.{err_from_is_err_and}
use Rattle.cell_key.specs.declared.refusals.Refusal.TheVariants.{MemtableFull}
use Rattle.memtable.specs.Edits.{bytes_of}
use Rattle.rows.specs.RowEdits.{all_edits}
use Rattle.rows.specs.declared.row_edits.RowEdits.{RowEdits}
use Rattle.tablet.specs.Views.{memory_of, range_of, with_memory}
use Rattle.tablet.specs.declared.tablet.Tablet.{Tablet}
use Rattle.row_atomic.specs.ManyRows.{changes_in, changes_outside}
use Rattle.row_atomic.proofs.ManyRows.{err_after, fewer_on, full_after, full_first, inside_limited, keys_after, long_after, many_on, most_on, no_changes, none_first, ok_after, own_on, placed_on, same_at, set_at, within_after}
use Rattle.row_atomic.proofs.Memtables.{set_fuller}
use Rattle.row_atomic.proofs.PlaceCaches.{at_kept}
use Rattle.row_atomic.proofs.RowAnswers.{index_below, owner_at, slice_get_at}
use Rattle.row_atomic.proofs.cluster.many_rows.+apply_to.Goals as goal

pub returns-in-None-clause-ok : goal.returns-in-None-clause-ok
returns-in-None-clause-ok fuel c =
    no_changes c.args.changes.items c.args.tablets.now (none_first c.args.changes.items (ap (λ (xs : List RowEdits). slice_get xs 0) (sym c.deref.ensures.value) ∙ sym c.in-None.ensures.value))

pub offset_bounds-tablets-index : goal.offset_bounds-tablets-index
offset_bounds-tablets-index fuel c =
    let places = c.args.table.now in
    let ts = c.args.tablets.now in
    let changes = c.args.changes.items in
    let i = c.index_of-index.result in
    let row = c.in-Some.change.now.row in
    let table = c.index_of-index.ensures.table in
    let at = at_kept places ts row i c.requires.placed c.index_of-index.ensures.holder in
    let below = index_below ts i at.tablet at.there in
    let few = table.few in
    let many = c.requires.as_many in
    omega (arith, below, few, many)

pub offset_bounds-tablets-index-2 : goal.offset_bounds-tablets-index-2
offset_bounds-tablets-index-2 fuel c =
    let places = c.args.table.now in
    let ts = c.args.tablets.now in
    let changes = c.args.changes.items in
    let i = c.index_of-index.result in
    let row = c.in-Some.change.now.row in
    let table = c.index_of-index.ensures.table in
    let at = at_kept places ts row i c.requires.placed c.index_of-index.ensures.holder in
    let below = index_below ts i at.tablet at.there in
    let few = table.few in
    let many = c.requires.as_many in
    omega (arith, below, few, many)

pub offset_bounds-tablets-index-3 : goal.offset_bounds-tablets-index-3
offset_bounds-tablets-index-3 fuel c =
    let places = c.args.table.now in
    let ts = c.args.tablets.now in
    let changes = c.args.changes.items in
    let i = c.index_of-index.result in
    let row = c.in-Some.change.now.row in
    let table = c.index_of-index.ensures.table in
    let at = at_kept places ts row i c.requires.placed c.index_of-index.ensures.holder in
    let below = index_below ts i at.tablet at.there in
    let few = table.few in
    let many = c.requires.as_many in
    omega (arith, below, few, many)

pub offset_bounds-tablets-index-4 : goal.offset_bounds-tablets-index-4
offset_bounds-tablets-index-4 fuel c =
    let places = c.args.table.now in
    let ts = c.args.tablets.now in
    let changes = c.args.changes.items in
    let i = c.index_of-index.result in
    let row = c.in-Some.change.now.row in
    let table = c.index_of-index.ensures.table in
    let at = at_kept places ts row i c.requires.placed c.index_of-index.ensures.holder in
    let below = index_below ts i at.tablet at.there in
    let few = table.few in
    let many = c.requires.as_many in
    omega (arith, below, few, many)

pub bounds-tablets-index : goal.bounds-tablets-index
bounds-tablets-index fuel c =
    let places = c.args.table.now in
    let ts = c.args.tablets.now in
    let changes = c.args.changes.items in
    let i = c.index_of-index.result in
    let row = c.in-Some.change.now.row in
    let table = c.index_of-index.ensures.table in
    let at = at_kept places ts row i c.requires.placed c.index_of-index.ensures.holder in
    index_below ts i at.tablet at.there

pub bounds-tablets-index-2 : goal.bounds-tablets-index-2
bounds-tablets-index-2 fuel c =
    let places = c.args.table.now in
    let ts = c.args.tablets.now in
    let changes = c.args.changes.items in
    let i = c.index_of-index.result in
    let row = c.in-Some.change.now.row in
    let table = c.index_of-index.ensures.table in
    let at = at_kept places ts row i c.requires.placed c.index_of-index.ensures.holder in
    index_below ts i at.tablet at.there

pub bounds-tablets-index-3 : goal.bounds-tablets-index-3
bounds-tablets-index-3 fuel c =
    let places = c.args.table.now in
    let ts = c.args.tablets.now in
    let changes = c.args.changes.items in
    let i = c.index_of-index.result in
    let row = c.in-Some.change.now.row in
    let table = c.index_of-index.ensures.table in
    let at = at_kept places ts row i c.requires.placed c.index_of-index.ensures.holder in
    let t = slice_index_or ts i c.index-tablets-index-2.result in
    let within = index_below ts i at.tablet at.there in
    let there = slice_get_at ts i c.index-tablets-index-2.result within in
    let range = c.range.ensures ∙ ap range_of (same_at ts i c.index-tablets-index.result c.index-tablets-index-2.result within) in
    let others = c.in_ok-inside.others.items in
    let inside = c.in_ok-inside.inside.items in
    let are : others ≡ changes_outside (range_of t) changes = c.in_ok-inside.ensures.others ∙ ap (λ r. changes_outside r changes) range in
    let ins : inside ≡ all_edits (changes_in (range_of t) changes) = c.in_ok-inside.ensures.inside ∙ ap (λ r. all_edits (changes_in r changes)) range in
    let gone = c.prepare.new.self in
    let is_gone = c.in_ok-ready.ensures.taken in
    let us = c.apply_to-done.new.tablets in
    let done = c.apply_to-done.result in
    let long = long_after places ts table c.requires.placed c.requires.as_many i t there changes c.requires.edits gone is_gone others are inside ins us done c.apply_to-done.ensures.ok c.apply_to-done.ensures.err in
    let below = index_below ts i at.tablet at.there in
    omega (arith, long, below)

pub bounds-tablets-index-4 : goal.bounds-tablets-index-4
bounds-tablets-index-4 fuel c =
    let places = c.args.table.now in
    let ts = c.args.tablets.now in
    let changes = c.args.changes.items in
    let i = c.index_of-index.result in
    let row = c.in-Some.change.now.row in
    let table = c.index_of-index.ensures.table in
    let at = at_kept places ts row i c.requires.placed c.index_of-index.ensures.holder in
    let t = slice_index_or ts i c.index-tablets-index-2.result in
    let within = index_below ts i at.tablet at.there in
    let there = slice_get_at ts i c.index-tablets-index-2.result within in
    let range = c.range.ensures ∙ ap range_of (same_at ts i c.index-tablets-index.result c.index-tablets-index-2.result within) in
    let others = c.in_ok-inside.others.items in
    let inside = c.in_ok-inside.inside.items in
    let are : others ≡ changes_outside (range_of t) changes = c.in_ok-inside.ensures.others ∙ ap (λ r. changes_outside r changes) range in
    let ins : inside ≡ all_edits (changes_in (range_of t) changes) = c.in_ok-inside.ensures.inside ∙ ap (λ r. all_edits (changes_in r changes)) range in
    let gone = c.prepare.new.self in
    let is_gone = c.in_ok-ready.ensures.taken in
    let us = c.apply_to-done.new.tablets in
    let done = c.apply_to-done.result in
    let long = long_after places ts table c.requires.placed c.requires.as_many i t there changes c.requires.edits gone is_gone others are inside ins us done c.apply_to-done.ensures.ok c.apply_to-done.ensures.err in
    let below = index_below ts i at.tablet at.there in
    omega (arith, long, below, length-set us i c.finish.new.self)

pub prepare-requires : goal.prepare-requires
prepare-requires fuel c =
    let places = c.args.table.now in
    let ts = c.args.tablets.now in
    let changes = c.args.changes.items in
    let i = c.index_of-index.result in
    let row = c.in-Some.change.now.row in
    let table = c.index_of-index.ensures.table in
    let at = at_kept places ts row i c.requires.placed c.index_of-index.ensures.holder in
    let t = slice_index_or ts i c.index-tablets-index-2.result in
    let within = index_below ts i at.tablet at.there in
    let there = slice_get_at ts i c.index-tablets-index-2.result within in
    let range = c.range.ensures ∙ ap range_of (same_at ts i c.index-tablets-index.result c.index-tablets-index-2.result within) in
    let others = c.in_ok-inside.others.items in
    let inside = c.in_ok-inside.inside.items in
    let are : others ≡ changes_outside (range_of t) changes = c.in_ok-inside.ensures.others ∙ ap (λ r. changes_outside r changes) range in
    let ins : inside ≡ all_edits (changes_in (range_of t) changes) = c.in_ok-inside.ensures.inside ∙ ap (λ r. all_edits (changes_in r changes)) range in
    inside_limited places ts table c.requires.placed c.requires.as_many i t there changes c.requires.edits (with_memory t []) refl others are inside ins

pub returns-in_err-ready-clause-full : goal.returns-in_err-ready-clause-full
returns-in_err-ready-clause-full fuel c =
    let places = c.args.table.now in
    let ts = c.args.tablets.now in
    let changes = c.args.changes.items in
    let i = c.index_of-index.result in
    let row = c.in-Some.change.now.row in
    let table = c.index_of-index.ensures.table in
    let at = at_kept places ts row i c.requires.placed c.index_of-index.ensures.holder in
    let first = ap (λ (xs : List RowEdits). slice_get xs 0) (sym c.deref.ensures.value) ∙ sym c.in-Some.ensures.value in
    let t = slice_index_or ts i c.index-tablets-index-2.result in
    let within = index_below ts i at.tablet at.there in
    let there = slice_get_at ts i c.index-tablets-index-2.result within in
    let range = c.range.ensures ∙ ap range_of (same_at ts i c.index-tablets-index.result c.index-tablets-index-2.result within) in
    let others = c.in_ok-inside.others.items in
    let inside = c.in_ok-inside.inside.items in
    let are : others ≡ changes_outside (range_of t) changes = c.in_ok-inside.ensures.others ∙ ap (λ r. changes_outside r changes) range in
    let ins : inside ≡ all_edits (changes_in (range_of t) changes) = c.in_ok-inside.ensures.inside ∙ ap (λ r. all_edits (changes_in r changes)) range in
    let has = (owner_at places ts row i t table c.requires.placed c.requires.as_many at there).has in
    let p = err_from_is_err_and c.from_residual-in_err-ready.result c.from_residual-in_err-ready.ensures.1 in
    λ full.
    let e : IsErrOf c.prepare.result MemtableFull = cc (p.1, p.2, c.in_err-ready.was, full) in
    full_first places ts table c.requires.placed c.requires.as_many i t there changes c.requires.edits (with_memory t []) refl others are inside ins c.in-Some.change.now first has (c.prepare.ensures.full e)

pub apply_to-done-requires : goal.apply_to-done-requires
apply_to-done-requires fuel c =
    let places = c.args.table.now in
    let ts = c.args.tablets.now in
    let changes = c.args.changes.items in
    let i = c.index_of-index.result in
    let row = c.in-Some.change.now.row in
    let table = c.index_of-index.ensures.table in
    let at = at_kept places ts row i c.requires.placed c.index_of-index.ensures.holder in
    let first = ap (λ (xs : List RowEdits). slice_get xs 0) (sym c.deref.ensures.value) ∙ sym c.in-Some.ensures.value in
    let t = slice_index_or ts i c.index-tablets-index-2.result in
    let within = index_below ts i at.tablet at.there in
    let there = slice_get_at ts i c.index-tablets-index-2.result within in
    let range = c.range.ensures ∙ ap range_of (same_at ts i c.index-tablets-index.result c.index-tablets-index-2.result within) in
    let others = c.in_ok-inside.others.items in
    let inside = c.in_ok-inside.inside.items in
    let are : others ≡ changes_outside (range_of t) changes = c.in_ok-inside.ensures.others ∙ ap (λ r. changes_outside r changes) range in
    let ins : inside ≡ all_edits (changes_in (range_of t) changes) = c.in_ok-inside.ensures.inside ∙ ap (λ r. all_edits (changes_in r changes)) range in
    let has = (owner_at places ts row i t table c.requires.placed c.requires.as_many at there).has in
    let gone = c.prepare.new.self in
    let is_gone = c.in_ok-ready.ensures.taken in
    let fewer : length others < length changes = fewer_on places ts table c.requires.placed c.requires.as_many i t there changes c.requires.edits gone is_gone others are inside ins c.in-Some.change.now first has in
    let placed = placed_on places ts table c.requires.placed c.requires.as_many i t there changes c.requires.edits gone is_gone others are inside ins in
    let as_many = many_on places ts table c.requires.placed c.requires.as_many i t there changes c.requires.edits gone is_gone others are inside ins in
    let own = own_on places ts table c.requires.placed c.requires.as_many i t there changes c.requires.edits gone is_gone others are inside ins in
    let most = most_on places ts table c.requires.placed c.requires.as_many i t there changes c.requires.edits gone is_gone others are inside ins c.args.most.now c.requires.most in
    let held = c.index_of-index.ensures.right in
    (search rules, (placed, (as_many, (held, (most, own)))))

pub returns-clause-ok : goal.returns-clause-ok
returns-clause-ok fuel c =
    let places = c.args.table.now in
    let ts = c.args.tablets.now in
    let changes = c.args.changes.items in
    let i = c.index_of-index.result in
    let row = c.in-Some.change.now.row in
    let table = c.index_of-index.ensures.table in
    let at = at_kept places ts row i c.requires.placed c.index_of-index.ensures.holder in
    let t = slice_index_or ts i c.index-tablets-index-2.result in
    let within = index_below ts i at.tablet at.there in
    let there = slice_get_at ts i c.index-tablets-index-2.result within in
    let range = c.range.ensures ∙ ap range_of (same_at ts i c.index-tablets-index.result c.index-tablets-index-2.result within) in
    let others = c.in_ok-inside.others.items in
    let inside = c.in_ok-inside.inside.items in
    let are : others ≡ changes_outside (range_of t) changes = c.in_ok-inside.ensures.others ∙ ap (λ r. changes_outside r changes) range in
    let ins : inside ≡ all_edits (changes_in (range_of t) changes) = c.in_ok-inside.ensures.inside ∙ ap (λ r. all_edits (changes_in r changes)) range in
    let gone = c.prepare.new.self in
    let is_gone = c.in_ok-ready.ensures.taken in
    let us = c.apply_to-done.new.tablets in
    let done = c.apply_to-done.result in
    let long = long_after places ts table c.requires.placed c.requires.as_many i t there changes c.requires.edits gone is_gone others are inside ins us done c.apply_to-done.ensures.ok c.apply_to-done.ensures.err in
    ok_after places ts table c.requires.placed c.requires.as_many i t there changes c.requires.edits gone is_gone others are inside ins us (slice_index_or us i c.index-tablets-index-3.result) (slice_get_at us i c.index-tablets-index-3.result (omega (arith, long, within))) c.in_ok-ready.ready c.in_ok-ready.ensures.ready c.is_ok.result c.finish.new.self c.finish.ensures done c.is_ok.ensures.value c.apply_to-done.ensures.ok

pub returns-clause-err : goal.returns-clause-err
returns-clause-err fuel c =
    let places = c.args.table.now in
    let ts = c.args.tablets.now in
    let changes = c.args.changes.items in
    let i = c.index_of-index.result in
    let row = c.in-Some.change.now.row in
    let table = c.index_of-index.ensures.table in
    let at = at_kept places ts row i c.requires.placed c.index_of-index.ensures.holder in
    let t = slice_index_or ts i c.index-tablets-index-2.result in
    let within = index_below ts i at.tablet at.there in
    let there = slice_get_at ts i c.index-tablets-index-2.result within in
    let range = c.range.ensures ∙ ap range_of (same_at ts i c.index-tablets-index.result c.index-tablets-index-2.result within) in
    let others = c.in_ok-inside.others.items in
    let inside = c.in_ok-inside.inside.items in
    let are : others ≡ changes_outside (range_of t) changes = c.in_ok-inside.ensures.others ∙ ap (λ r. changes_outside r changes) range in
    let ins : inside ≡ all_edits (changes_in (range_of t) changes) = c.in_ok-inside.ensures.inside ∙ ap (λ r. all_edits (changes_in r changes)) range in
    let gone = c.prepare.new.self in
    let is_gone = c.in_ok-ready.ensures.taken in
    let us = c.apply_to-done.new.tablets in
    let done = c.apply_to-done.result in
    let long = long_after places ts table c.requires.placed c.requires.as_many i t there changes c.requires.edits gone is_gone others are inside ins us done c.apply_to-done.ensures.ok c.apply_to-done.ensures.err in
    err_after places ts table c.requires.placed c.requires.as_many i t there changes c.requires.edits gone is_gone others are inside ins us (slice_index_or us i c.index-tablets-index-3.result) (slice_get_at us i c.index-tablets-index-3.result (omega (arith, long, within))) c.in_ok-ready.ready c.in_ok-ready.ensures.ready c.is_ok.result c.finish.new.self c.finish.ensures done c.is_ok.ensures.value c.apply_to-done.ensures.err

pub returns-clause-keys : goal.returns-clause-keys
returns-clause-keys fuel c =
    let places = c.args.table.now in
    let ts = c.args.tablets.now in
    let changes = c.args.changes.items in
    let i = c.index_of-index.result in
    let row = c.in-Some.change.now.row in
    let table = c.index_of-index.ensures.table in
    let at = at_kept places ts row i c.requires.placed c.index_of-index.ensures.holder in
    let t = slice_index_or ts i c.index-tablets-index-2.result in
    let within = index_below ts i at.tablet at.there in
    let there = slice_get_at ts i c.index-tablets-index-2.result within in
    let range = c.range.ensures ∙ ap range_of (same_at ts i c.index-tablets-index.result c.index-tablets-index-2.result within) in
    let others = c.in_ok-inside.others.items in
    let inside = c.in_ok-inside.inside.items in
    let are : others ≡ changes_outside (range_of t) changes = c.in_ok-inside.ensures.others ∙ ap (λ r. changes_outside r changes) range in
    let ins : inside ≡ all_edits (changes_in (range_of t) changes) = c.in_ok-inside.ensures.inside ∙ ap (λ r. all_edits (changes_in r changes)) range in
    let gone = c.prepare.new.self in
    let is_gone = c.in_ok-ready.ensures.taken in
    let us = c.apply_to-done.new.tablets in
    let done = c.apply_to-done.result in
    keys_after places ts table c.requires.placed c.requires.as_many i t there changes c.requires.edits gone is_gone others are inside ins done c.in_ok-ready.ensures.keys c.apply_to-done.ensures.keys

pub returns-clause-full : goal.returns-clause-full
returns-clause-full fuel c =
    let places = c.args.table.now in
    let ts = c.args.tablets.now in
    let changes = c.args.changes.items in
    let i = c.index_of-index.result in
    let row = c.in-Some.change.now.row in
    let table = c.index_of-index.ensures.table in
    let at = at_kept places ts row i c.requires.placed c.index_of-index.ensures.holder in
    let t = slice_index_or ts i c.index-tablets-index-2.result in
    let within = index_below ts i at.tablet at.there in
    let there = slice_get_at ts i c.index-tablets-index-2.result within in
    let range = c.range.ensures ∙ ap range_of (same_at ts i c.index-tablets-index.result c.index-tablets-index-2.result within) in
    let others = c.in_ok-inside.others.items in
    let inside = c.in_ok-inside.inside.items in
    let are : others ≡ changes_outside (range_of t) changes = c.in_ok-inside.ensures.others ∙ ap (λ r. changes_outside r changes) range in
    let ins : inside ≡ all_edits (changes_in (range_of t) changes) = c.in_ok-inside.ensures.inside ∙ ap (λ r. all_edits (changes_in r changes)) range in
    let gone = c.prepare.new.self in
    let is_gone = c.in_ok-ready.ensures.taken in
    let us = c.apply_to-done.new.tablets in
    let done = c.apply_to-done.result in
    λ full. full_after places ts table c.requires.placed c.requires.as_many i t there changes c.requires.edits gone is_gone others are inside ins (c.apply_to-done.ensures.full full)

pub returns-clause-within : goal.returns-clause-within
returns-clause-within fuel c =
    let places = c.args.table.now in
    let ts = c.args.tablets.now in
    let changes = c.args.changes.items in
    let i = c.index_of-index.result in
    let row = c.in-Some.change.now.row in
    let table = c.index_of-index.ensures.table in
    let at = at_kept places ts row i c.requires.placed c.index_of-index.ensures.holder in
    let t = slice_index_or ts i c.index-tablets-index-2.result in
    let within = index_below ts i at.tablet at.there in
    let there = slice_get_at ts i c.index-tablets-index-2.result within in
    let range = c.range.ensures ∙ ap range_of (same_at ts i c.index-tablets-index.result c.index-tablets-index-2.result within) in
    let others = c.in_ok-inside.others.items in
    let inside = c.in_ok-inside.inside.items in
    let are : others ≡ changes_outside (range_of t) changes = c.in_ok-inside.ensures.others ∙ ap (λ r. changes_outside r changes) range in
    let ins : inside ≡ all_edits (changes_in (range_of t) changes) = c.in_ok-inside.ensures.inside ∙ ap (λ r. all_edits (changes_in r changes)) range in
    let gone = c.prepare.new.self in
    let is_gone = c.in_ok-ready.ensures.taken in
    let us = c.apply_to-done.new.tablets in
    let done = c.apply_to-done.result in
    within_after places ts table c.requires.placed c.requires.as_many i t there changes c.requires.edits gone is_gone others are inside ins done c.in_ok-ready.ensures.within c.apply_to-done.ensures.within

pub returns-clause-most : goal.returns-clause-most
returns-clause-most fuel c =
    let places = c.args.table.now in
    let ts = c.args.tablets.now in
    let changes = c.args.changes.items in
    let i = c.index_of-index.result in
    let row = c.in-Some.change.now.row in
    let table = c.index_of-index.ensures.table in
    let at = at_kept places ts row i c.requires.placed c.index_of-index.ensures.holder in
    let t = slice_index_or ts i c.index-tablets-index-2.result in
    let within = index_below ts i at.tablet at.there in
    let there = slice_get_at ts i c.index-tablets-index-2.result within in
    let range = c.range.ensures ∙ ap range_of (same_at ts i c.index-tablets-index.result c.index-tablets-index-2.result within) in
    let others = c.in_ok-inside.others.items in
    let inside = c.in_ok-inside.inside.items in
    let are : others ≡ changes_outside (range_of t) changes = c.in_ok-inside.ensures.others ∙ ap (λ r. changes_outside r changes) range in
    let ins : inside ≡ all_edits (changes_in (range_of t) changes) = c.in_ok-inside.ensures.inside ∙ ap (λ r. all_edits (changes_in r changes)) range in
    let gone = c.prepare.new.self in
    let is_gone = c.in_ok-ready.ensures.taken in
    let us = c.apply_to-done.new.tablets in
    let done = c.apply_to-done.result in
    let long = long_after places ts table c.requires.placed c.requires.as_many i t there changes c.requires.edits gone is_gone others are inside ins us done c.apply_to-done.ensures.ok c.apply_to-done.ensures.err in
    let below = index_below ts i at.tablet at.there in
    let now = set_at us i c.finish.new.self c.index-tablets-index-4.result (omega (arith, long, below)) in
    let most = c.apply_to-done.new.most in
    let entries = c.joined.ensures.entries ∙ ap (λ (n : ℕ). max most.entries n) (c.of.ensures.entries ∙ ap (λ (v : Tablet). length (memory_of v)) now) in
    let bytes = c.joined.ensures.bytes ∙ ap (λ (n : ℕ). max most.bytes n) (c.of.ensures.bytes ∙ ap (λ (v : Tablet). bytes_of (memory_of v)) now) in
    set_fuller most us i c.apply_to-done.ensures.most c.joined.result c.finish.new.self entries bytes
