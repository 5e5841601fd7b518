-- The edits are made in the row's tablet only.
use Rattle.std.proofs.Common.{◌<◌, ℕ, ap, map, max, length, sym, subst, ◌∙◌, rules}
use Rattle.std.proofs.lemmas.Option.{slice_get_within}
use Rattle.std.proofs.lemmas.Result.{on_err_weaker}
use Rattle.memtable.specs.Edits.{bytes_of}
use Rattle.sorted_file.specs.File.{name_of}
use Rattle.tablet.specs.Views.{memory_of, range_of}
use Rattle.tablet.specs.declared.tablet.Tablet.{Tablet}
use Rattle.row_atomic.proofs.RowAnswers.{apply_answer, apply_still, found_there, holder_numbered, index_below, matched_set, over_full, owner_at}
use Rattle.row_atomic.proofs.ChangedTablets.{is_set, on_ok}
use Rattle.row_atomic.proofs.Calls.{applied_in, same_tablet}
use Rattle.row_atomic.proofs.Readable.{readable_in}
use Rattle.row_atomic.proofs.CompactionRoom.{all_kept, not_full, room_after}
use Rattle.row_atomic.proofs.Memtables.{set_fuller}
use Rattle.row_atomic.proofs.PlaceCaches.{at_kept}
use Rattle.row_atomic.proofs.cluster.row_calls.ClusterRows.apply.Goals as goal

pub index_of-index-requires : goal.index_of-index-requires
index_of-index-requires g c = c.self.invariant.1

pub index_mut-requires : goal.index_mut-requires
index_mut-requires g c =
    let at = at_kept c.self.inside.table c.self.inside.tablets.items c.args.row.now c.index_of-index.result c.self.invariant.0.placed c.index_of-index.ensures.holder in
    subst (λ (n : ℕ). c.index_of-index.result < n) (sym c.self.inside.tablets.ok.0) (index_below c.self.inside.tablets.items c.index_of-index.result at.tablet at.there)

pub invariant_of-self : goal.invariant_of-self
invariant_of-self g c =
    let at = at_kept c.self.inside.table c.self.inside.tablets.items c.args.row.now c.index_of-index.result c.self.invariant.0.placed c.index_of-index.ensures.holder in
    let ts = c.self.inside.tablets.items in
    let there = found_there ts c.index_of-index.result at.tablet c.index_mut.result.now at.there c.index_mut.ensures.value in
    let now = is_set ts c.index_of-index.result c.index_mut.result.now c.apply-done.new.self c.index.result.now there c.index.ensures in
    let entries = c.joined-self-inside.ensures.entries ∙ ap (λ (n : ℕ). max c.self.inside.most.entries n) (c.of.ensures.entries ∙ ap (λ (t : Tablet). length (memory_of t)) now) in
    let bytes = c.joined-self-inside.ensures.bytes ∙ ap (λ (n : ℕ). max c.self.inside.most.bytes n) (c.of.ensures.bytes ∙ ap (λ (t : Tablet). bytes_of (memory_of t)) now) in (
      matched_set c.self.inside.file_limit c.self.inside.next_name c.self.inside.table ts c.index_of-index.result c.index_mut.result.now c.apply-done.new.self there c.apply-done.ensures.range (ap (λ files. map name_of files) c.apply-done.ensures.files) c.self.invariant.0,
      c.index_of-index.ensures.right,
      set_fuller c.self.inside.most ts c.index_of-index.result c.self.invariant.2 c.joined-self-inside.result c.apply-done.new.self entries bytes,
    )

pub index-requires : goal.index-requires
index-requires g c =
    let at = at_kept c.self.inside.table c.self.inside.tablets.items c.args.row.now c.index_of-index.result c.self.invariant.0.placed c.index_of-index.ensures.holder in
    let there = found_there c.self.inside.tablets.items c.index_of-index.result at.tablet c.index_mut.result.now at.there c.index_mut.ensures.value in
    let below = slice_get_within c.self.inside.tablets.items c.index_of-index.result c.index_mut.result.now there in
    search rules

pub returns-clause-ok : goal.returns-clause-ok
returns-clause-ok g c =
    let at = at_kept c.self.inside.table c.self.inside.tablets.items c.args.row.now c.index_of-index.result c.self.invariant.0.placed c.index_of-index.ensures.holder in
    let table = c.index_of-index.ensures.table in
    let ts = c.self.inside.tablets.items in
    let row = c.args.row.now in
    let edits = c.args.edits.items in
    let t = c.index_mut.result.now in
    let there = found_there ts c.index_of-index.result at.tablet t at.there c.index_mut.ensures.value in
    let owns = owner_at c.self.inside.table ts row c.index_of-index.result t table c.self.invariant.0.placed c.self.invariant.0.as_many at there in
    rw (← c.self.view_is) (applied_in g.F.Files.contents _ c.index_of-index.result c.apply-done.new.self row edits c.apply-done.result
    (λ held. (apply_still (g.F.Files.contents c.self.inside.files) c.self.inside.next_name ts held.0 c.index_of-index.result t c.apply-done.new.self there c.apply-done.result c.apply-done.ensures.files c.apply-done.ensures.still c.apply-done.ensures.err, held.1))
    (readable_in (g.F.Files.contents c.self.inside.files) c.self.inside.table ts c.index_of-index.result t c.apply-done.new.self there c.apply-done.result c.apply-done.ensures.still)
    (λ whole. apply_answer (g.F.Files.contents c.self.inside.files) ts row c.index_of-index.result t c.apply-done.new.self edits c.apply-done.result owns
    (whole at.place t at.holder (holder_numbered c.self.inside.table ts row c.index_of-index.result t at there)) c.apply-done.ensures.range c.requires c.apply-done.ensures.ok)
    (on_ok _ _ c.apply-done.result (room_after c.self.inside.table ts row c.index_of-index.result t c.apply-done.new.self edits there owns.has c.requires c.apply-done.ensures.range) c.apply-done.ensures.memory))

pub returns-clause-err : goal.returns-clause-err
returns-clause-err g c =
    let at = at_kept c.self.inside.table c.self.inside.tablets.items c.args.row.now c.index_of-index.result c.self.invariant.0.placed c.index_of-index.ensures.holder in
    let ts = c.self.inside.tablets.items in
    let there = found_there ts c.index_of-index.result at.tablet c.index_mut.result.now at.there c.index_mut.ensures.value in
    rw (← c.self.view_is) (on_err_weaker c.apply-done.result (same_tablet g.F.Files.contents _ c.index_of-index.result c.index_mut.result.now c.apply-done.new.self there) c.apply-done.ensures.err)

pub returns-clause-full : goal.returns-clause-full
returns-clause-full g c =
    let at = at_kept c.self.inside.table c.self.inside.tablets.items c.args.row.now c.index_of-index.result c.self.invariant.0.placed c.index_of-index.ensures.holder in
    let table = c.index_of-index.ensures.table in
    let ts = c.self.inside.tablets.items in
    let there = found_there ts c.index_of-index.result at.tablet c.index_mut.result.now at.there c.index_mut.ensures.value in
    let owns = owner_at c.self.inside.table ts c.args.row.now c.index_of-index.result c.index_mut.result.now table c.self.invariant.0.placed c.self.invariant.0.as_many at there in
    let all = all_kept (range_of c.index_mut.result.now) c.args.row.now c.args.edits.items owns.has c.requires in
    rw (← c.self.view_is) (λ full. over_full c.self.inside.table ts c.args.row.now c.args.edits.items c.index_of-index.result c.index_mut.result.now at there all (c.apply-done.ensures.full full))

pub returns-clause-within : goal.returns-clause-within
returns-clause-within g c =
    let at = at_kept c.self.inside.table c.self.inside.tablets.items c.args.row.now c.index_of-index.result c.self.invariant.0.placed c.index_of-index.ensures.holder in
    let table = c.index_of-index.ensures.table in
    let ts = c.self.inside.tablets.items in
    let there = found_there ts c.index_of-index.result at.tablet c.index_mut.result.now at.there c.index_mut.ensures.value in
    let owns = owner_at c.self.inside.table ts c.args.row.now c.index_of-index.result c.index_mut.result.now table c.self.invariant.0.placed c.self.invariant.0.as_many at there in
    let all = all_kept (range_of c.index_mut.result.now) c.args.row.now c.args.edits.items owns.has c.requires in
    rw (← c.self.view_is) (on_ok _ _ c.apply-done.result (not_full c.self.inside.table ts c.args.row.now c.args.edits.items c.index_of-index.result c.index_mut.result.now at there all) c.apply-done.ensures.within)
