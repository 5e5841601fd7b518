-- One tablet is compacted, and its place lists its files.
use Rattle.std.proofs.Common.{None, ◌≡◌, rules, refl, ap, ◌∙◌, List, map, sym, subst}
use Rattle.std.proofs.lemmas.Option.{slice_get_within}
use Rattle.std.specs.Vec.{vec_capacity}
use Rattle.cell_key.specs.declared.refusals.Refusal.TheVariants.{BadCount, NoMemory}
use Rattle.metadata_table.specs.Places.{PlaceView}
use Rattle.metadata_table.specs.Table.{with_files}
use Rattle.tablet.specs.Views.{names_of, range_of}
use Rattle.row_atomic.specs.Clusters.{spot_of}
use Rattle.row_atomic.specs.PlaceCaches.{AreHeld}
use Rattle.row_atomic.specs.Changes.{CannotRead, FitsLimit, IsCleaned, IsFullTablet, IsMade, IsOutOfOrder, IsTooLarge, MeetsBadCount, MeetsFull, StaysInOrder, WritesNone}
use Rattle.tablet.specs.Compactions.{Compacts, ReadsTooMuch}
use Rattle.row_atomic.proofs.RowAnswers.{found_there, undamaged}
use Rattle.row_atomic.proofs.DamagedTablets.{named_below, stays_ordered}
use Rattle.row_atomic.proofs.ListedFiles.{flush_lists}
use Rattle.row_atomic.proofs.FileNames.{compacted_files, no_less, placed_names}
use Rattle.row_atomic.proofs.ChangedTablets.{numbered_at, has_room, in_order, is_set, matched_unchanged, matched_listed, numbered_new, numbered_old, parts_stay, remade, same_spots, stays}
use Rattle.tablet.specs.declared.compactions.Compaction.{Compaction}
use Rattle.row_atomic.specs.declared.commands.Outcome.TheVariants.{Done}
use Rattle.row_atomic.proofs.Outcomes.{compacted, full_meets, known_refusal, refused_done, tells_done, tells_refused, uncompacted, unstarted}
use Rattle.row_atomic.proofs.PassedRefusals.{none_answered}
use Rattle.row_atomic.proofs.CompactionRoom.{numbered_not, numbered_that}
use Rattle.row_atomic.proofs.MergeStates.{beside, used_still}
use Rattle.row_atomic.proofs.Memtables.{set_made, set_same}
use Rattle.row_atomic.proofs.PlaceCaches.{held_listed}
use Rattle.row_atomic.proofs.cluster.Cluster.compact_tablet.Goals as goal

pub invariant_of-self : goal.invariant_of-self
invariant_of-self g c =
    let at = rw (← c.self.view_is) at c.position-index.ensures in
    let there = found_there c.self.inside.tablets.items c.position-index.result at.tablet c.index_mut.result.now at.there c.index_mut.ensures.value in
    (matched_unchanged c.self.inside.file_limit (g.F.Files.contents c.self.inside.files) (g.F.Files.contents c.compact.new.files) c.self.inside.next_name c.compact.new.next_name c.self.inside.table c.self.inside.tablets.items c.position-index.result c.index_mut.result.now c.compact.new.tablet there c.compact.ensures.name c.compact.ensures.named_to c.in_err-compact.ensures.err c.self.invariant.0, c.self.invariant.1, set_same c.self.inside.most c.self.inside.tablets.items c.position-index.result c.self.invariant.2 c.index_mut.result.now c.compact.new.tablet there c.in_err-compact.ensures.err.memory)

pub index-requires-2 : goal.index-requires-2
index-requires-2 g c =
    let at = rw (← c.self.view_is) at c.position-index.ensures in
    let there = found_there c.self.inside.tablets.items c.position-index.result at.tablet c.index_mut.result.now at.there c.index_mut.ensures.value in
    let below = slice_get_within c.self.inside.tablets.items c.position-index.result c.index_mut.result.now there in
    search rules

pub list_files-requires-clause-room : goal.list_files-requires-clause-room
list_files-requires-clause-room g c =
    let at = rw (← c.self.view_is) at c.position-index.ensures in
    let there = found_there c.self.inside.tablets.items c.position-index.result at.tablet c.index_mut.result.now at.there c.index_mut.ensures.value in
    has_room c.self.inside.tablets.items c.position-index.result c.index_mut.result.now c.compact.new.tablet c.index.result.now c.index-2.result.now (vec_capacity c.in_ok-names.names) there c.index.ensures c.index-2.ensures c.in_ok-names.ensures.room c.in_ok-compact.ensures.few

pub invariant_of-self-2 : goal.invariant_of-self-2
invariant_of-self-2 g c =
    let at = rw (← c.self.view_is) at c.position-index.ensures in
    let there = found_there c.self.inside.tablets.items c.position-index.result at.tablet c.index_mut.result.now at.there c.index_mut.ensures.value in
    let listed = c.list_files.ensures ∙ ap (λ t. with_files c.args.tablet (names_of t) c.self.inside.table) (is_set c.self.inside.tablets.items c.position-index.result c.index_mut.result.now c.compact.new.tablet c.index-2.result.now there c.index-2.ensures) in (
      matched_listed c.self.inside.file_limit (g.F.Files.contents c.self.inside.files) (g.F.Files.contents c.compact.new.files) c.self.inside.next_name c.compact.new.next_name c.self.inside.table c.list_files.new.table c.self.inside.tablets.items c.args.tablet c.position-index.result c.index_mut.result.now c.compact.new.tablet at.number there c.compact.ensures.name c.compact.ensures.named_to c.compact.ensures.range listed
          (compacted_files c.args.compaction c.index_mut.result.now c.compact.new.tablet c.self.inside.next_name c.compact.new.next_name c.in_ok-compact.ensures.done.made c.in_ok-compact.ensures.done.room
          (λ bad. (rw (← c.self.view_is) at c.requires.counted) (numbered_old c.self.inside.tablets.items c.position-index.result c.index_mut.result.now c.compact.new.tablet there (MeetsBadCount c.args.compaction) c.args.tablet at.number bad))
          c.in_ok-compact.ensures.done.used c.self.invariant.0.named_from (no_less (g.F.Files.contents c.self.inside.files) (g.F.Files.contents c.compact.new.files) c.self.inside.next_name c.compact.new.next_name c.compact.ensures.name)
          (placed_names c.self.inside.next_name c.self.inside.tablets.items c.args.tablet c.index_mut.result.now (numbered_at c.self.inside.tablets.items c.args.tablet c.position-index.result c.index_mut.result.now at.number there) None c.self.inside.table c.self.invariant.0.placed c.self.invariant.0.files (rw (← c.self.view_is) at c.requires.known)))
          c.self.invariant.0,
      subst (λ (ps : List PlaceView). AreHeld ps c.self.inside.place_cache.numbers.entries) (sym listed) (held_listed c.self.inside.table c.args.tablet (names_of c.compact.new.tablet) c.self.inside.place_cache.numbers.entries c.self.invariant.1),
      set_made c.self.inside.most c.self.inside.tablets.items c.position-index.result c.self.invariant.2 c.args.compaction c.self.inside.next_name c.index_mut.result.now c.compact.new.tablet there c.in_ok-compact.ensures.done.made,
    )

pub returns-clause-listed : goal.returns-clause-listed
returns-clause-listed g c =
    let at = rw (← c.self.view_is) at c.position-index.ensures in
    let there = found_there c.self.inside.tablets.items c.position-index.result at.tablet c.index_mut.result.now at.there c.index_mut.ensures.value in
    rw (← c.self.view_is) (numbered_new c.self.inside.tablets.items c.position-index.result c.index_mut.result.now c.compact.new.tablet there _ c.args.tablet at.number (c.list_files.ensures ∙ ap (λ t. with_files c.args.tablet (names_of t) c.self.inside.table) (is_set c.self.inside.tablets.items c.position-index.result c.index_mut.result.now c.compact.new.tablet c.index-2.result.now there c.index-2.ensures)))

pub returns-clause-ranges : goal.returns-clause-ranges
returns-clause-ranges g c =
    let at = rw (← c.self.view_is) at c.position-index.ensures in
    let there = found_there c.self.inside.tablets.items c.position-index.result at.tablet c.index_mut.result.now at.there c.index_mut.ensures.value in
    rw (← c.self.view_is) (remade c.self.inside.tablets.items c.position-index.result c.index_mut.result.now c.compact.new.tablet there (λ t u. range_of u ≡ range_of t) c.args.tablet at.number c.compact.ensures.range)

pub returns-clause-order : goal.returns-clause-order
returns-clause-order g c =
    let at = rw (← c.self.view_is) at c.position-index.ensures in
    let ts = c.self.inside.tablets.items in
    let t = c.index_mut.result.now in
    let old = g.F.Files.contents c.self.inside.files in
    let new = g.F.Files.contents c.compact.new.files in
    let there = found_there ts c.position-index.result at.tablet t at.there c.index_mut.ensures.value in
    let named = placed_names c.self.inside.next_name ts c.args.tablet t (numbered_at ts c.args.tablet c.position-index.result t at.number there) None c.self.inside.table c.self.invariant.0.placed c.self.invariant.0.files (rw (← c.self.view_is) at c.requires.known) in
    rw (← c.self.view_is) (remade ts c.position-index.result t c.compact.new.tablet there (StaysInOrder old new) c.args.tablet at.number (stays_ordered old new c.self.inside.next_name c.compact.new.next_name t c.compact.new.tablet c.compact.ensures.keeps (named_below c.self.inside.next_name t named)))

pub returns-in_err-names-clause-order : goal.returns-in_err-names-clause-order
returns-in_err-names-clause-order g c = none_answered c.from_residual.result c.in_err-names.field-0.0 _ c.from_residual.ensures.1

pub returns-in_err-compact-clause-order : goal.returns-in_err-compact-clause-order
returns-in_err-compact-clause-order g c = none_answered c.from_residual-in_err-compact.result c.in_err-compact.field-0.0 _ c.from_residual-in_err-compact.ensures.1

pub returns-in_err-names-clause-ranges : goal.returns-in_err-names-clause-ranges
returns-in_err-names-clause-ranges g c = none_answered c.from_residual.result c.in_err-names.field-0.0 _ c.from_residual.ensures.1

pub returns-in_err-compact-clause-ranges : goal.returns-in_err-compact-clause-ranges
returns-in_err-compact-clause-ranges g c = none_answered c.from_residual-in_err-compact.result c.in_err-compact.field-0.0 _ c.from_residual-in_err-compact.ensures.1

pub returns-in_err-names-clause-listed : goal.returns-in_err-names-clause-listed
returns-in_err-names-clause-listed g c = none_answered c.from_residual.result c.in_err-names.field-0.0 _ c.from_residual.ensures.1

pub returns-in_err-compact-clause-listed : goal.returns-in_err-compact-clause-listed
returns-in_err-compact-clause-listed g c = none_answered c.from_residual-in_err-compact.result c.in_err-compact.field-0.0 _ c.from_residual-in_err-compact.ensures.1

pub returns-in_err-names-clause-outcome : goal.returns-in_err-names-clause-outcome
returns-in_err-names-clause-outcome g c =
    refused_done g.F.Files.contents g.F.Files.faults _ c.from_residual.result c.in_err-names.field-0.0 NoMemory _ _ c.from_residual.ensures.1 c.in_err-names.ensures.refusal
    (unstarted g.F.Files.contents g.F.Files.faults c.args.tablet c.args.self.now c.args.compaction c.requires.known c.requires.counted)

pub returns-in_err-compact-clause-outcome : goal.returns-in_err-compact-clause-outcome
returns-in_err-compact-clause-outcome g c =
    let at = rw (← c.self.view_is) at c.position-index.ensures in
    let there = found_there c.self.inside.tablets.items c.position-index.result at.tablet c.index_mut.result.now at.there c.index_mut.ensures.value in
    let e = c.in_err-compact.field-0.0 in
    let refused = c.in_err-compact.ensures in
    let known = rw (← c.self.view_is) at c.requires.known in
    let counted = rw (← c.self.view_is) at c.requires.counted in
    let within : ¬ (e ≡ BadCount) = λ is. counted (numbered_old c.self.inside.tablets.items c.position-index.result c.index_mut.result.now c.compact.new.tablet there (MeetsBadCount c.args.compaction) c.args.tablet at.number (refused.refused.count is)) in
    rw (← c.self.view_is) (refused_done g.F.Files.contents g.F.Files.faults _ c.from_residual-in_err-compact.result e e _ _ c.from_residual-in_err-compact.ensures.1 refl
    (uncompacted g.F.Files.contents g.F.Files.faults c.args.tablet _ _ c.args.compaction e
    (λ holds. beside
    (used_still c.stays_open.ensures (g.F.Files.contents c.self.inside.files) (g.F.Files.contents c.compact.new.files) c.self.inside.file_limit c.self.inside.next_name c.compact.new.next_name c.self.inside.merge c.compact.ensures.name holds.1)
    (stays c.self.inside.tablets.items c.position-index.result c.index_mut.result.now c.compact.new.tablet there c.others_stay.ensures (g.F.Files.contents c.self.inside.files) (g.F.Files.contents c.compact.new.files) c.self.inside.next_name c.compact.new.next_name c.compact.ensures.name c.compact.ensures.keeps holds.0))
    (λ holds is. undamaged (g.F.Files.contents c.self.inside.files) c.self.inside.next_name c.self.inside.tablets.items holds.0 c.position-index.result c.index_mut.result.now _ there refused.refused.damaged is)
    refused.refusal
    (record { places = refl; tablets = parts_stay c.self.inside.tablets.items c.position-index.result c.index_mut.result.now c.compact.new.tablet there refused.err })
    (record { name = c.compact.ensures.name; limit = refl; none = λ none. (c.compact.ensures.empty (numbered_that c.self.inside.tablets.items c.position-index.result c.index_mut.result.now there (WritesNone c.args.compaction) c.args.tablet at.number none)).1; spots = refl })
    (record {
      unknown = ((λ is. absurd (known_refusal c.args.compaction e refused.refusal is)), λ not. absurd (not known));
      count = ((λ is. absurd (within is)), λ bad. absurd (counted bad.1));
      full = full_meets c.args.compaction e refused.refusal (λ is. numbered_old c.self.inside.tablets.items c.position-index.result c.index_mut.result.now c.compact.new.tablet there (IsFullTablet) c.args.tablet at.number (refused.refused.full is));
      unfilled = λ of. numbered_not c.self.inside.tablets.items c.position-index.result c.index_mut.result.now there (MeetsFull c.args.compaction) c.args.tablet at.number (refused.refused.unfilled of);
      exhausted = λ is. ((refused.refused.exhausted is).0, numbered_not c.self.inside.tablets.items c.position-index.result c.index_mut.result.now there (WritesNone c.args.compaction) c.args.tablet at.number ((refused.refused.exhausted is).1));
      large = λ is. numbered_old c.self.inside.tablets.items c.position-index.result c.index_mut.result.now c.compact.new.tablet there (IsTooLarge c.self.inside.file_limit (g.F.Files.contents c.self.inside.files) c.args.compaction) c.args.tablet at.number (refused.refused.large is);
      damaged = λ is. numbered_old c.self.inside.tablets.items c.position-index.result c.index_mut.result.now c.compact.new.tablet there (IsOutOfOrder (g.F.Files.contents c.self.inside.files)) c.args.tablet at.number (refused.refused.damaged is);
    })
    (record {
      large = λ is. numbered_old c.self.inside.tablets.items c.position-index.result c.index_mut.result.now c.compact.new.tablet there (ReadsTooMuch c.args.compaction c.self.inside.file_limit (g.F.Files.contents c.self.inside.files)) c.args.tablet at.number (refused.refused.too_much is);
      damaged = λ is. numbered_old c.self.inside.tablets.items c.position-index.result c.index_mut.result.now c.compact.new.tablet there (CannotRead (g.F.Files.contents c.self.inside.files) c.args.compaction) c.args.tablet at.number (refused.refused.unread is);
    })
    (known_refusal c.args.compaction e refused.refusal) within
    (λ is. let same = refused.refused.undone is in record { as_before = record { places = refl; tablets = parts_stay c.self.inside.tablets.items c.position-index.result c.index_mut.result.now c.compact.new.tablet there refused.err }; name = same.0; files = same.1 })
    (tells_refused g.F.Files.faults e _ _ refused.reason)))

pub returns-clause-outcome : goal.returns-clause-outcome
returns-clause-outcome g c =
    let at = rw (← c.self.view_is) at c.position-index.ensures in
    let there = found_there c.self.inside.tablets.items c.position-index.result at.tablet c.index_mut.result.now at.there c.index_mut.ensures.value in
    rw (← c.self.view_is) (compacted g.F.Files.contents g.F.Files.faults c.args.tablet _ _ c.args.compaction
    (λ holds. beside
    (used_still c.stays_open.ensures (g.F.Files.contents c.self.inside.files) (g.F.Files.contents c.compact.new.files) c.self.inside.file_limit c.self.inside.next_name c.compact.new.next_name c.self.inside.merge c.compact.ensures.name holds.1)
    (stays c.self.inside.tablets.items c.position-index.result c.index_mut.result.now c.compact.new.tablet there c.others_stay.ensures (g.F.Files.contents c.self.inside.files) (g.F.Files.contents c.compact.new.files) c.self.inside.next_name c.compact.new.next_name c.compact.ensures.name c.compact.ensures.keeps holds.0))
    (record { made = remade c.self.inside.tablets.items c.position-index.result c.index_mut.result.now c.compact.new.tablet there (IsMade c.args.compaction c.self.inside.next_name) c.args.tablet at.number c.in_ok-compact.ensures.done.made; lists = remade c.self.inside.tablets.items c.position-index.result c.index_mut.result.now c.compact.new.tablet there (Compacts c.args.compaction (g.F.Files.contents c.self.inside.files) c.self.inside.next_name (g.F.Files.contents c.compact.new.files)) c.args.tablet at.number c.in_ok-compact.ensures.done.lists; cleaned = λ holds. numbered_new c.self.inside.tablets.items c.position-index.result c.index_mut.result.now c.compact.new.tablet there (IsCleaned c.args.compaction (g.F.Files.contents c.compact.new.files)) c.args.tablet at.number (in_order _ (g.F.Files.contents c.self.inside.files) c.self.inside.next_name c.self.inside.tablets.items c.position-index.result c.index_mut.result.now there holds.0 c.in_ok-compact.ensures.done.cleaned) })
    (record {
      name = c.compact.ensures.name;
      limit = refl;
      none = λ none. (c.compact.ensures.empty (numbered_that c.self.inside.tablets.items c.position-index.result c.index_mut.result.now there (WritesNone c.args.compaction) c.args.tablet at.number none)).1;
      spots = ap (map spot_of) (c.list_files.ensures ∙ ap (λ t. with_files c.args.tablet (names_of t) c.self.inside.table) (is_set c.self.inside.tablets.items c.position-index.result c.index_mut.result.now c.compact.new.tablet c.index-2.result.now there c.index-2.ensures)) ∙ same_spots c.args.tablet (names_of c.compact.new.tablet) c.self.inside.table;
    })
    (record {
      known = rw (← c.self.view_is) at c.requires.known;
      counted = rw (← c.self.view_is) at c.requires.counted;
      room = numbered_not c.self.inside.tablets.items c.position-index.result c.index_mut.result.now there (MeetsFull c.args.compaction) c.args.tablet at.number c.in_ok-compact.ensures.done.room;
      named = λ most. numbered_old c.self.inside.tablets.items c.position-index.result c.index_mut.result.now c.compact.new.tablet there (WritesNone c.args.compaction) c.args.tablet at.number (c.in_ok-compact.ensures.done.named most);
      fits = numbered_old c.self.inside.tablets.items c.position-index.result c.index_mut.result.now c.compact.new.tablet there (FitsLimit c.self.inside.file_limit (g.F.Files.contents c.self.inside.files) c.args.compaction) c.args.tablet at.number c.in_ok-compact.ensures.done.fits;
    })
    (λ minor. flush_lists c.self.inside.tablets.items c.self.inside.table c.self.invariant.0.placed c.list_files.new.table c.args.tablet c.self.inside.next_name c.index_mut.result.now c.compact.new.tablet
    (numbered_at c.self.inside.tablets.items c.args.tablet c.position-index.result c.index_mut.result.now at.number there)
    (subst (λ (kind : Compaction). IsMade kind c.self.inside.next_name c.index_mut.result.now c.compact.new.tablet) minor c.in_ok-compact.ensures.done.made).names
    (c.list_files.ensures ∙ ap (λ t. with_files c.args.tablet (names_of t) c.self.inside.table) (is_set c.self.inside.tablets.items c.position-index.result c.index_mut.result.now c.compact.new.tablet c.index-2.result.now there c.index-2.ensures)))
    (tells_done g.F.Files.faults _ Done _ _ (λ is. cc) c.in_ok-compact.ensures.reason))
