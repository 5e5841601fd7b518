-- One file takes the place of some in one tablet, under a name that no other tablet has.
use Rattle.std.proofs.Common.{inl, None, ◌≡◌, ◌≤◌, ◌+◌, ℕ, List, Option, map, length, rules, arith, refl, ap, ◌∙◌, sym, subst}
use Rattle.std.proofs.lemmas.Option.{slice_get_within}
use Rattle.std.specs.Vec.{vec_capacity}
use Rattle.file_store.specs.Store.{KeepsOthers}
use Rattle.sorted_file.specs.File.{name_of}
use Rattle.metadata_table.specs.Places.{PlaceView}
use Rattle.metadata_table.specs.Roots.{AreFiles}
use Rattle.metadata_table.specs.Table.{with_files}
use Rattle.sorted_file.specs.declared.file.SortedFile.{SortedFile}
use Rattle.tablet.specs.RunMerges.{IsRunAt, LacksName}
use Rattle.tablet.specs.declared.tablet.Tablet.{Tablet}
use Rattle.tablet.specs.Views.{names_of}
use Rattle.row_atomic.specs.Clusters.{spot_of}
use Rattle.row_atomic.specs.MergeStates.{HoldsMerge, MergeState}
use Rattle.row_atomic.specs.MergeSteps.{IsJoined}
use Rattle.row_atomic.specs.PlaceCaches.{AreHeld}
use Rattle.row_atomic.proofs.ChangedTablets.{if_err, is_set, is_there, matched_listed, numbered_at, numbered_new, parts_stay, remade, same_spots}
use Rattle.row_atomic.proofs.CompactionRoom.{numbered_that}
use Rattle.row_atomic.proofs.DamagedTablets.{named_below}
use Rattle.row_atomic.proofs.FileNames.{placed_names}
use Rattle.row_atomic.proofs.Memtables.{set_same}
use Rattle.row_atomic.proofs.MergeSteps.{all_lack, fewer_names, is_joined, joined_keeps, joined_names, merged_keeps, state_of, these, unchanged_keeps}
use Rattle.row_atomic.proofs.PlaceCaches.{held_listed}
use Rattle.row_atomic.proofs.RowAnswers.{found_there, matched_set}
use Rattle.row_atomic.proofs.Shares.{each_at}
use Rattle.row_atomic.proofs.cluster.Cluster.join_file.Goals as goal

pub invariant_of-self : goal.invariant_of-self
invariant_of-self g c =
    let can = rw (← c.merge.view_is, ← c.self.view_is) at c.requires.can in
    let ts = c.self.inside.tablets.items in
    let t = c.index_mut.result.now in
    let u = c.end_merge.new.self in
    let there = found_there ts c.args.index can.stands.tablet t can.stands.there c.index_mut.ensures.value in
    let same = c.in_err-end_merge.ensures.err in (
      matched_set c.self.inside.file_limit c.self.inside.next_name c.self.inside.table ts c.args.index t u there same.range (ap (λ (files : List SortedFile). map name_of files) same.files) c.self.invariant.0,
      c.self.invariant.1,
      set_same c.self.inside.most ts c.args.index c.self.invariant.2 t u there same.memory,
    )

pub returns-in_err-end_merge-clause-unended : goal.returns-in_err-end_merge-clause-unended
returns-in_err-end_merge-clause-unended g c =
    let can = rw (← c.merge.view_is, ← c.self.view_is) at c.requires.can in
    let ts = c.self.inside.tablets.items in
    let t = c.index_mut.result.now in
    let there = found_there ts c.args.index can.stands.tablet t can.stands.there c.index_mut.ensures.value in
    rw (← c.self.view_is) (if_err _ c.from_residual.result (record { rest = refl; tablets = parts_stay ts c.args.index t c.end_merge.new.self there c.in_err-end_merge.ensures.err }))

pub returns-in_err-end_merge-clause-keeps : goal.returns-in_err-end_merge-clause-keeps
returns-in_err-end_merge-clause-keeps g c =
    let can = rw (← c.merge.view_is, ← c.self.view_is) at c.requires.can in
    let none = rw (← c.self.view_is) at c.requires.none in
    let matched = c.self.invariant.0 in
    let places = c.self.inside.table in
    let ts = c.self.inside.tablets.items in
    let next = c.self.inside.next_name in
    let name = c.merge.inside.name in
    let t = c.index_mut.result.now in
    let u = c.end_merge.new.self in
    let old = g.F.Files.contents c.self.inside.files in
    let new = g.F.Files.contents c.end_merge.new.files in
    let there = found_there ts c.args.index can.stands.tablet t can.stands.there c.index_mut.ensures.value in
    let lacks = all_lack name places ts c.len.ensures.table matched.placed matched.as_many can.unlisted in
    let same = c.in_err-end_merge.ensures.err in
    let files = placed_names next ts c.merge.inside.tablet t (numbered_at ts c.merge.inside.tablet c.args.index t can.stands.number there) None places matched.placed matched.files can.known in
    let others = subst (λ (k : ℕ). KeepsOthers k old new) c.merge.invariant.2 c.end_merge.ensures.others in
    let below = named_below next u (subst (AreFiles next) (sym (ap (λ (files : List SortedFile). map name_of files) same.files)) files) in
    rw (← c.merge.view_is, ← c.self.view_is) (record {
      kept = λ ends holds.
          let by = joined_keeps c.unnamed_may_go.ensures name next ts lacks c.args.index t u there old new others
          (unchanged_keeps c.unnamed_may_go.ensures name next ts lacks c.args.index t u there old new others same) below holds.0 in
          ((by.0, subst (λ (o : Option MergeState). HoldsMerge new c.self.inside.file_limit next o) (sym none) tt), by.1);
      spots = refl;
      rest = refl;
    })

pub index-requires : goal.index-requires
index-requires g c =
    let can = rw (← c.merge.view_is, ← c.self.view_is) at c.requires.can in
    let below = slice_get_within c.self.inside.tablets.items c.args.index can.stands.tablet can.stands.there in
    search rules

pub list_files-requires-clause-room : goal.list_files-requires-clause-room
list_files-requires-clause-room g c =
    let can = rw (← c.merge.view_is, ← c.self.view_is) at c.requires.can in
    let ts = c.self.inside.tablets.items in
    let t = c.index_mut.result.now in
    let u = c.end_merge.new.self in
    let there = found_there ts c.args.index can.stands.tablet t can.stands.there c.index_mut.ensures.value in
    let room : length (names_of t) + 1 ≤ vec_capacity c.args.names = numbered_that ts c.args.index t there (λ x. length (names_of x) + 1 ≤ vec_capacity c.args.names) c.merge.inside.tablet can.stands.number can.room in
    let fewer = fewer_names _ t u _ _ c.in_ok-end_merge.ensures.made in
    let is = ap (λ (x : Tablet). length (names_of x)) (is_set ts c.args.index t u c.index.result.now there c.index.ensures) in
    omega (arith, room, fewer, is)

pub invariant_of-self-2 : goal.invariant_of-self-2
invariant_of-self-2 g c =
    let can = rw (← c.merge.view_is, ← c.self.view_is) at c.requires.can in
    let matched = c.self.invariant.0 in
    let places = c.self.inside.table in
    let ts = c.self.inside.tablets.items in
    let next = c.self.inside.next_name in
    let number = c.merge.inside.tablet in
    let name = c.merge.inside.name in
    let t = c.index_mut.result.now in
    let u = c.end_merge.new.self in
    let there = found_there ts c.args.index can.stands.tablet t can.stands.there c.index_mut.ensures.value in
    let lacks = all_lack name places ts c.len.ensures.table matched.placed matched.as_many can.unlisted in
    let made = c.in_ok-end_merge.ensures.made in
    let files = placed_names next ts number t (numbered_at ts number c.args.index t can.stands.number there) None places matched.placed matched.files can.known in
    let valid = joined_names _ t u _ _ made next name files can.used (each_at (LacksName name) ts lacks c.args.index t there) c.merge.invariant.2 in
    let listed = c.list_files.ensures ∙ ap (λ (x : Tablet). with_files number (names_of x) places) (is_set ts c.args.index t u c.index.result.now there c.index.ensures) in (
      matched_listed c.self.inside.file_limit None None next next places c.list_files.new.table ts number c.args.index t u can.stands.number there (inl (refl, refl)) (λ h. h) c.end_merge.ensures.range listed valid matched,
      subst (λ (ps : List PlaceView). AreHeld ps c.self.inside.place_cache.numbers.entries) (sym listed) (held_listed places number (names_of u) c.self.inside.place_cache.numbers.entries c.self.invariant.1),
      set_same c.self.inside.most ts c.args.index c.self.invariant.2 t u there made.memory,
    )

pub returns-clause-joined : goal.returns-clause-joined
returns-clause-joined g c =
    let can = rw (← c.merge.view_is, ← c.self.view_is) at c.requires.can in
    let places = c.self.inside.table in
    let ts = c.self.inside.tablets.items in
    let next = c.self.inside.next_name in
    let number = c.merge.inside.tablet in
    let name = c.merge.inside.name in
    let run = c.merge.inside.merge in
    let began = c.merge.inside.was.value.files in
    let t = c.index_mut.result.now in
    let u = c.end_merge.new.self in
    let old = g.F.Files.contents c.self.inside.files in
    let new = g.F.Files.contents c.end_merge.new.files in
    let there = found_there ts c.args.index can.stands.tablet t can.stands.there c.index_mut.ensures.value in
    let same = ap (λ (x : Tablet). x.range) (is_there ts c.args.index can.stands.tablet t can.stands.there c.index_mut.ensures.value) ∙ can.stands.range in
    let listed = c.list_files.ensures ∙ ap (λ (x : Tablet). with_files number (names_of x) places) (is_set ts c.args.index t u c.index.result.now there c.index.ensures) in
    rw (← c.merge.view_is, ← c.self.view_is) (record {
      joined = remade ts c.args.index t u there (IsJoined (state_of number c.merge.inside.range began name c.merge.inside.limit run) next old new) number can.stands.number
          (is_joined run t u old new c.in_ok-end_merge.ensures.made c.runs_alike.ensures number c.merge.inside.range began name c.merge.inside.limit next c.merge.invariant.4 c.merge.invariant.1 c.merge.invariant.2 c.merge.invariant.3 same c.end_merge.ensures.range);
      listed = numbered_new ts c.args.index t u there (λ x. c.list_files.new.table ≡ with_files number (names_of x) places) number can.stands.number listed;
      rest = refl;
      others = subst (λ (k : ℕ). KeepsOthers k old new) c.merge.invariant.2 c.end_merge.ensures.others;
    })

pub returns-clause-keeps : goal.returns-clause-keeps
returns-clause-keeps g c =
    let can = rw (← c.merge.view_is, ← c.self.view_is) at c.requires.can in
    let none = rw (← c.self.view_is) at c.requires.none in
    let matched = c.self.invariant.0 in
    let places = c.self.inside.table in
    let ts = c.self.inside.tablets.items in
    let next = c.self.inside.next_name in
    let number = c.merge.inside.tablet in
    let name = c.merge.inside.name in
    let run = c.merge.inside.merge in
    let began = c.merge.inside.was.value.files in
    let t = c.index_mut.result.now in
    let u = c.end_merge.new.self in
    let old = g.F.Files.contents c.self.inside.files in
    let new = g.F.Files.contents c.end_merge.new.files in
    let there = found_there ts c.args.index can.stands.tablet t can.stands.there c.index_mut.ensures.value in
    let is = is_there ts c.args.index can.stands.tablet t can.stands.there c.index_mut.ensures.value in
    let same = ap (λ (x : Tablet). x.range) is ∙ can.stands.range in
    let stands = subst (λ (x : Tablet). IsRunAt x.files (map name_of (these began run)) can.stands.at) (sym is) can.stands.run in
    let lacks = all_lack name places ts c.len.ensures.table matched.placed matched.as_many can.unlisted in
    let files = placed_names next ts number t (numbered_at ts number c.args.index t can.stands.number there) None places matched.placed matched.files can.known in
    let valid = joined_names _ t u _ _ c.in_ok-end_merge.ensures.made next name files can.used (each_at (LacksName name) ts lacks c.args.index t there) c.merge.invariant.2 in
    let listed = c.list_files.ensures ∙ ap (λ (x : Tablet). with_files number (names_of x) places) (is_set ts c.args.index t u c.index.result.now there c.index.ensures) in
    let others = subst (λ (k : ℕ). KeepsOthers k old new) c.merge.invariant.2 c.end_merge.ensures.others in
    rw (← c.merge.view_is, ← c.self.view_is) (record {
      kept = λ ends holds.
          let by = joined_keeps c.unnamed_may_go.ensures name next ts lacks c.args.index t u there old new others
          (merged_keeps c.unnamed_may_go.ensures name next ts lacks c.args.index t u there c.runs_alike.ensures run number c.merge.inside.range began c.merge.inside.limit c.self.inside.file_limit
          c.merge.invariant.4 c.merge.invariant.1 same can.stands.at stands c.merge.invariant.2 old new c.end_merge.ensures.keeps ends)
          (named_below next u valid) holds.0 in
          ((by.0, subst (λ (o : Option MergeState). HoldsMerge new c.self.inside.file_limit next o) (sym none) tt), by.1);
      spots = ap (map spot_of) listed ∙ same_spots number (names_of u) places;
      rest = refl;
    })
