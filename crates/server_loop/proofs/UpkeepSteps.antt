-- The machine's steps for the upkeep of tablets, and for raw reads.
use Rattle.std.proofs.Common.{◌≡◌, ◌<◌, ◌≤◌, ◌+◌, ◌⊎◌, ℕ, inl, inr, List, length, map, Option, refl, sym, ap, subst, ◌∙◌, arith}
use Rattle.std.proofs.lemmas.Bool.{cases_lt}
use Rattle.cell_key.specs.Cells.{Cells}
use Rattle.cell_key.specs.Names.{IsRow, IsFamily}
use Rattle.cell_key.specs.declared.keys.Qualifier.{Qualifier}
use Rattle.cell_key.specs.declared.refusals.Refusal.{Refusal}
use Rattle.cell_key.specs.declared.refusals.Refusal.TheVariants.{BadRow, BadColumn, UnknownTablet, BadSplit, UnknownServer, BadCount, TooManyFiles, FileTooLarge, Exhausted, Device, NoMemory, Damaged}
use Rattle.file_store.specs.Store.{Contents}
use Rattle.metadata_table.specs.Places.{PlaceView}
use Rattle.metadata_table.specs.Table.{BarsSplit, HasTablet, IsTable, most_servers}
use Rattle.row_atomic.specs.Changes.{ComesTo, Holds, IsBadCount, IsCut, IsMerged, IsMoveRefusal, IsNumberedRefusal, IsRefusalOf as IsFlushRefusal, IsSplitRefusal, KeepsMap, Numbered, Remakes}
use Rattle.row_atomic.specs.Clusters.{ClusterState, cells_in, spots_of}
use Rattle.row_atomic.specs.MergeStates.{MergeState}
use Rattle.row_atomic.specs.Recorded.{Follows}
use Rattle.rows.specs.Refusals.{IsReadRefusal}
use Rattle.row_atomic.specs.Compactions as compaction
use Rattle.tablet.specs.declared.tablet.Tablet.{Tablet}
use Rattle.si_model.specs.Machine.{State, Request, Reply, Refused, Step, Refuses, Minor, MinorDone, Merge, MergeDone, Major, MajorDone, Split, SplitOff, Move, MoveDone, Sweep, Swept, Raw, RawFound, Checkpoint, CheckpointDone, Status, Reported, accepts, tells, minors, merges, majors, sweeps, finds_raw, checkpoints, reports}
use Rattle.si_model.specs.Refusing.{IsStorageRefusal, gives_up}
use Rattle.si_model.specs.declared.replies.Cell.{Cell}
use Rattle.txn_client.specs.Shows as clients
use Rattle.clean_up.specs.Shows.{ShowsCleaners}
use Rattle.clean_up.specs.declared.cleaners.Cleaners.{Cleaners}
use Rattle.version_collector.specs.Shows.{ShowsCollectors}
use Rattle.version_collector.specs.declared.collectors.Collectors.{Collectors}
use Rattle.server_loop.specs.Refusals.{IsCutRefusal, IsRawRefusal, IsSweepRefusal}
use Rattle.server_loop.specs.Runs.{StepsAs}
use Rattle.server_loop.specs.Server.{Shows, machine_place, machine_places}
use Rattle.server_loop.specs.declared.server.Server.{Server}
use Rattle.server_loop.proofs.MachinePlaces.{has_tablet_so, has_tablet_back, length_so}
use Rattle.server_loop.proofs.UpkeepRefusals.{minor_unknown_first, minor_accepted, merge_unknown_first, merge_bad, merge_accepted, major_unknown_first, major_accepted, split_row_first, sweep_accepted, checkpoint_accepted, status_accepted, raw_row_first, raw_family_first, raw_accepted}
use Rattle.server_loop.proofs.SplitSteps.{splits_so, split_next, split_barred, moves_step, stays_step, move_unknown, move_far, move_next}
use Rattle.server_loop.proofs.CellChanges.{unchanged_if}
use Rattle.server_loop.proofs.OthersShown.{cleaners_stay, collectors_stay, places_not_cleaners, places_not_collectors}
use Rattle.server_loop.proofs.SamePlaces.{placed, shows_placed}

-- ---- refusals, and accepted steps

module _ (st : State) (ps : List PlaceView) (same : st.places ≡ machine_places ps) where
  pub minor_refuses : (k : ℕ) (e : Refusal) → IsNumberedRefusal compaction.minor e → (e ≡ UnknownTablet → ¬ HasTablet k ps) → Refuses st (Minor k) e
  minor_refuses k UnknownTablet u none = minor_unknown_first st k (λ has. none refl (has_tablet_back st ps same k has))
  minor_refuses k TooManyFiles u none = gives_up tt
  minor_refuses k FileTooLarge u none = gives_up tt
  minor_refuses k Exhausted u none = gives_up tt
  minor_refuses k Device u none = gives_up tt
  minor_refuses k NoMemory u none = gives_up tt
  minor_refuses k Damaged u none = gives_up tt
  minor_refuses k _ u none = absurd u

  pub minor_done : (k : ℕ) → HasTablet k ps → Step st (Minor k) MinorDone st
  minor_done k has = accepts (minor_accepted st k (has_tablet_so st ps same k has)) (tells minors)

  pub merge_refuses : (k n : ℕ) (e : Refusal) → IsNumberedRefusal (compaction.merging n) e → (e ≡ UnknownTablet → ¬ HasTablet k ps) → (e ≡ BadCount → HasTablet k ps) → Refuses st (Merge k n) e
  merge_refuses k n UnknownTablet u none bad = merge_unknown_first st k n (λ has. none refl (has_tablet_back st ps same k has))
  merge_refuses k n BadCount u none bad = merge_bad st k n (has_tablet_so st ps same k (bad refl))
  merge_refuses k n FileTooLarge u none bad = gives_up tt
  merge_refuses k n Exhausted u none bad = gives_up tt
  merge_refuses k n Device u none bad = gives_up tt
  merge_refuses k n NoMemory u none bad = gives_up tt
  merge_refuses k n Damaged u none bad = gives_up tt
  merge_refuses k n _ u none bad = absurd u

  pub merge_done : (k n : ℕ) → HasTablet k ps → 2 ≤ n → Step st (Merge k n) MergeDone st
  merge_done k n has two = accepts (merge_accepted st k n (has_tablet_so st ps same k has) two) (tells merges)

  pub major_refuses : (k : ℕ) (e : Refusal) → IsNumberedRefusal compaction.major e → (e ≡ UnknownTablet → ¬ HasTablet k ps) → Refuses st (Major k) e
  major_refuses k UnknownTablet u none = major_unknown_first st k (λ has. none refl (has_tablet_back st ps same k has))
  major_refuses k FileTooLarge u none = gives_up tt
  major_refuses k Exhausted u none = gives_up tt
  major_refuses k Device u none = gives_up tt
  major_refuses k NoMemory u none = gives_up tt
  major_refuses k Damaged u none = gives_up tt
  major_refuses k _ u none = absurd u

  pub major_done : (k : ℕ) → HasTablet k ps → Step st (Major k) MajorDone st
  major_done k has = accepts (major_accepted st k (has_tablet_so st ps same k has)) (tells majors)

  pub split_refuses : (row : List ℕ) (e : Refusal) → IsRow row → IsSplitRefusal e → (e ≡ BadSplit → BarsSplit row ps) → Refuses st (Split row) e
  split_refuses row BadSplit is u bars = split_barred st ps same row is (bars refl)
  split_refuses row TooManyFiles is u bars = gives_up tt
  split_refuses row FileTooLarge is u bars = gives_up tt
  split_refuses row Exhausted is u bars = gives_up tt
  split_refuses row Device is u bars = gives_up tt
  split_refuses row NoMemory is u bars = gives_up tt
  split_refuses row Damaged is u bars = gives_up tt
  split_refuses row _ is u bars = absurd u

  pub move_refuses : (k server : ℕ) (e : Refusal) → IsMoveRefusal e → (e ≡ UnknownTablet → ¬ HasTablet k ps) → (e ≡ UnknownServer → HasTablet k ps × (most_servers ≤ server)) → Refuses st (Move k server) e
  move_refuses k server UnknownTablet u none far = move_unknown st ps same k server (none refl)
  move_refuses k server UnknownServer u none far = move_far st ps same k server (far refl).0 (far refl).1
  move_refuses k server TooManyFiles u none far = gives_up tt
  move_refuses k server FileTooLarge u none far = gives_up tt
  move_refuses k server Exhausted u none far = gives_up tt
  move_refuses k server Device u none far = gives_up tt
  move_refuses k server NoMemory u none far = gives_up tt
  move_refuses k server Damaged u none far = gives_up tt
  move_refuses k server _ u none far = absurd u

pub sweep_refuses : (st : State) (e : Refusal) → IsSweepRefusal e → Refuses st Sweep e
sweep_refuses st e which = elim which [
  | inl is ↦ subst (λ (r : Refusal). Refuses st Sweep r) (sym is) (gives_up tt)
  | inr is ↦ subst (λ (r : Refusal). Refuses st Sweep r) (sym is) (gives_up tt)
]

pub sweep_done : (st : State) (n : ℕ) → Step st Sweep (Swept n) st
sweep_done st n = accepts (sweep_accepted st) (tells sweeps)

pub checkpoint_refuses : (st : State) (e : Refusal) → IsFlushRefusal compaction.minor e → Refuses st Checkpoint e
checkpoint_refuses st TooManyFiles u = gives_up tt
checkpoint_refuses st FileTooLarge u = gives_up tt
checkpoint_refuses st Exhausted u = gives_up tt
checkpoint_refuses st Device u = gives_up tt
checkpoint_refuses st NoMemory u = gives_up tt
checkpoint_refuses st Damaged u = gives_up tt
checkpoint_refuses st _ u = absurd u

-- a flush's refusals are refusals of the store
pub flush_stores : (e : Refusal) → IsFlushRefusal compaction.minor e → IsStorageRefusal e
flush_stores TooManyFiles u = tt
flush_stores FileTooLarge u = tt
flush_stores Exhausted u = tt
flush_stores Device u = tt
flush_stores NoMemory u = tt
flush_stores Damaged u = tt
flush_stores _ u = absurd u

pub checkpoint_done : (st : State) → Step st Checkpoint CheckpointDone st
checkpoint_done st = accepts (checkpoint_accepted st) (tells checkpoints)

pub status_refuses : (st : State) (k : ℕ) (e : Refusal) → e ≡ NoMemory → Refuses st (Status k) e
status_refuses st k e is = subst (λ (r : Refusal). Refuses st (Status k) r) (sym is) (gives_up tt)

pub status_done : (st : State) (k : ℕ) (report : List ℕ) → Step st (Status k) (Reported report) st
status_done st k report = accepts (status_accepted st k) (tells reports)

pub raw_refuses : (st : State) (x : Cell) (q : Qualifier) (lo hi : ℕ) (e : Refusal) → IsReadRefusal e → Refuses st (Raw x q lo hi) e
raw_refuses st x q lo hi Device u = gives_up tt
raw_refuses st x q lo hi NoMemory u = gives_up tt
raw_refuses st x q lo hi Damaged u = gives_up tt
raw_refuses st x q lo hi _ u = absurd u

pub raw_done : (st : State) (x : Cell) (q : Qualifier) (lo hi : ℕ) (found : Option (ℕ × List ℕ)) → IsRow x.row → IsFamily x.family → Step st (Raw x q lo hi) (RawFound found) st
raw_done st x q lo hi found row family = accepts (raw_accepted st x q lo hi row family) (tells finds_raw)

-- a count with which a merge was made is two or more
pub two_merged : (k n next : ℕ) (old new : List Tablet) → ¬ Numbered (IsBadCount n) k old → Remakes (IsMerged n next) k old new → 2 ≤ n
two_merged k n next old new good made = elim (cases_lt n 2) [
  | inl few ↦ absurd (good (record { tablet = made.was; numbered = made.was_numbered; such = λ within. omega (arith, few, within.0) }))
  | inr two ↦ two
]

-- other files, or another merge, leave each tablet's place unchanged
pub same_spots : {F : Type 0} (old new : ClusterState F) (files : F) (merge : Option MergeState) → new ≡ record old { files = files; merge = merge } → spots_of new ≡ spots_of old
same_spots old new files merge e = ap (λ (cluster : ClusterState _). spots_of cluster) e

-- ---- whole steps

module _ {F M W : Type 0} (contents : F → Option Contents) (old new : Server F M W) (kept : KeepsMap contents old.rows.cluster new.rows.cluster) (follows : Holds contents old.rows.cluster → Follows contents old.rows.cluster old.rows.journal → Follows contents new.rows.cluster new.rows.journal) (same_clients : new.clients ≡ old.clients) (same_last : new.oracle.last ≡ old.oracle.last) (same_cleaners : new.cleaners ≡ old.cleaners) (same_collectors : new.collectors ≡ old.collectors) where
  -- if cells, sessions and stamps are unchanged, they show the same
  shows_kept : (st : State) → Holds contents old.rows.cluster → clients.Shows (cells_in (contents old.rows.cluster.files) old.rows.cluster.tablets) old.clients old.oracle.last st
      → clients.Shows (cells_in (contents new.rows.cluster.files) new.rows.cluster.tablets) new.clients new.oracle.last st
  shows_kept st held shows =
      subst (λ (cells : Cells). clients.Shows cells new.clients new.oracle.last st) (sym (kept held).1)
      (subst (λ (n : ℕ). clients.Shows (cells_in (contents old.rows.cluster.files) old.rows.cluster.tablets) new.clients n st) (sym same_last)
      (rw same_clients shows))

  -- and if no tablet has moved
  pub still_shown : (st : State) → spots_of new.rows.cluster ≡ spots_of old.rows.cluster → Shows contents old st → Shows contents new st
  still_shown st spots shown = record {
    in_order = ((kept shown.in_order.0).0, follows shown.in_order.0 shown.in_order.1);
    shows = shows_kept st shown.in_order.0 shown.shows;
    alone = (rw same_clients shown.alone.0, rw same_collectors shown.alone.1);
    cleaners = subst (λ (k : Cleaners). ShowsCleaners k st) (sym same_cleaners) shown.cleaners;
    collectors = subst (λ (cells : Cells). ShowsCollectors cells new.collectors st) (sym (kept shown.in_order.0).1)
        (subst (λ (k : Collectors). ShowsCollectors (cells_in (contents old.rows.cluster.files) old.rows.cluster.tablets) k st) (sym same_collectors) shown.collectors);
    places = ap (λ spots. map machine_place spots) spots ∙ shown.places;
    next = shown.next;
  }

  -- requests that leave the machine unchanged
  pub tells_as : (request : Request) (reply : Reply) → spots_of new.rows.cluster ≡ spots_of old.rows.cluster → ((st : State) → Shows contents old st → Step st request reply st)
      → (Holds contents old.rows.cluster → reply ≡ Refused Damaged → ⊥) → StepsAs (Shows contents) old new request reply
  tells_as request reply spots step whole = λ before reached shown. (before, step before shown, still_shown before spots shown, whole shown.in_order.0)

  -- a tablet is split
  pub splits_as : (row : List ℕ) (left : ℕ) → IsRow row → ¬ BarsSplit row old.rows.cluster.places → left ≡ length old.rows.cluster.places + 1 → IsCut row left old.rows.cluster.places new.rows.cluster.places
      → StepsAs (Shows contents) old new (Split row) (SplitOff left)
  splits_as row left is free count cut = λ before reached shown.
      let same = sym shown.places in
      let number : left ≡ before.next_tablet = count ∙ sym (shown.next ∙ ap (λ (n : ℕ). n + 1) (length_so before old.rows.cluster.places same)) in
      let next = placed before (machine_places new.rows.cluster.places) (left + 1) in
      let step = splits_so before old.rows.cluster.places same row left cut.place.tablet cut.names new.rows.cluster.places is free number cut.cut in
      let after : Shows contents new next = record {
        in_order = ((kept shown.in_order.0).0, follows shown.in_order.0 shown.in_order.1);
        cleaners = cleaners_stay before next (Split row) (SplitOff left) step old.cleaners new.cleaners reached places_not_cleaners same_cleaners shown.cleaners;
        collectors = collectors_stay before next (Split row) (SplitOff left) step _ _ old.collectors new.collectors reached shown.shows.store places_not_collectors (unchanged_if _ _ before (kept shown.in_order.0).1) same_collectors shown.collectors;
        shows = shows_placed before (machine_places new.rows.cluster.places) (left + 1) _ new.clients new.oracle.last (shows_kept before shown.in_order.0 shown.shows);
        alone = (rw same_clients shown.alone.0, rw same_collectors shown.alone.1);
        places = refl;
        next = split_next before old.rows.cluster.places same row left cut.place.tablet cut.names new.rows.cluster.places count cut.cut;
      } in
      (next, step, after, λ e. cc)

  -- a tablet is moved to a server
  pub moves_as : (n server : ℕ) → IsTable old.rows.cluster.places → HasTablet n old.rows.cluster.places → server < most_servers → ComesTo n server old.rows.cluster new.rows.cluster
      → StepsAs (Shows contents) old new (Move n server) MoveDone
  moves_as n server table has near comes = λ before reached shown.
      let same = sym shown.places in
      elim comes [
        | inl stays ↦ (
          before,
          stays_step before old.rows.cluster.places same n server stays.0.0 table near stays.0.1 stays.0.2 stays.0.3,
          still_shown before (ap (λ (cluster : ClusterState F). spots_of cluster) stays.1) shown,
          λ e. cc,
        )
        | inr put ↦
            let goes = put.moved in
            let next = placed before (machine_places new.rows.cluster.places) before.next_tablet in
            let step = moves_step before old.rows.cluster.places same n server goes.names new.rows.cluster.places table has near goes.moved in (
              next,
              step,
              record {
                in_order = ((kept shown.in_order.0).0, follows shown.in_order.0 shown.in_order.1);
                cleaners = cleaners_stay before next (Move n server) MoveDone step old.cleaners new.cleaners reached places_not_cleaners same_cleaners shown.cleaners;
                collectors = collectors_stay before next (Move n server) MoveDone step _ _ old.collectors new.collectors reached shown.shows.store places_not_collectors (unchanged_if _ _ before (kept shown.in_order.0).1) same_collectors shown.collectors;
                shows = shows_placed before (machine_places new.rows.cluster.places) before.next_tablet _ new.clients new.oracle.last (shows_kept before shown.in_order.0 shown.shows);
                alone = (rw same_clients shown.alone.0, rw same_collectors shown.alone.1);
                places = refl;
                next = move_next before old.rows.cluster.places same n server goes.names new.rows.cluster.places shown.next goes.moved;
              },
              λ e. cc,
            )
      ]

-- the refusals of a name
pub split_named : (st : State) (row : List ℕ) (e : Refusal) → (e ≡ BadRow) ⊎ (e ≡ NoMemory) → (e ≡ BadRow → ¬ IsRow row) → Refuses st (Split row) e
split_named st row e which bad = elim which [
  | inl is ↦ subst (λ (r : Refusal). Refuses st (Split row) r) (sym is) (split_row_first st row (bad is))
  | inr is ↦ subst (λ (r : Refusal). Refuses st (Split row) r) (sym is) (gives_up tt)
]

pub raw_row_named : (st : State) (x : Cell) (q : Qualifier) (lo hi : ℕ) (e : Refusal) → (e ≡ BadRow) ⊎ (e ≡ NoMemory) → (e ≡ BadRow → ¬ IsRow x.row) → Refuses st (Raw x q lo hi) e
raw_row_named st x q lo hi e which bad = elim which [
  | inl is ↦ subst (λ (r : Refusal). Refuses st (Raw x q lo hi) r) (sym is) (raw_row_first st x q lo hi (bad is))
  | inr is ↦ subst (λ (r : Refusal). Refuses st (Raw x q lo hi) r) (sym is) (gives_up tt)
]

pub raw_family_named : (st : State) (x : Cell) (q : Qualifier) (lo hi : ℕ) (e : Refusal) → IsRow x.row → (e ≡ BadColumn) ⊎ (e ≡ NoMemory) → (e ≡ BadColumn → ¬ IsFamily x.family) → Refuses st (Raw x q lo hi) e
raw_family_named st x q lo hi e row which bad = elim which [
  | inl is ↦ subst (λ (r : Refusal). Refuses st (Raw x q lo hi) r) (sym is) (raw_family_first st x q lo hi row (bad is))
  | inr is ↦ subst (λ (r : Refusal). Refuses st (Raw x q lo hi) r) (sym is) (gives_up tt)
]

-- a refusal of a name is never Damaged
pub row_whole : (e : Refusal) → (e ≡ BadRow) ⊎ (e ≡ NoMemory) → ¬ (e ≡ Damaged)
row_whole e which same = elim which [
  | inl is ↦ let both = sym is ∙ same in cc
  | inr is ↦ let both = sym is ∙ same in cc
]

pub family_whole : (e : Refusal) → (e ≡ BadColumn) ⊎ (e ≡ NoMemory) → ¬ (e ≡ Damaged)
family_whole e which same = elim which [
  | inl is ↦ let both = sym is ∙ same in cc
  | inr is ↦ let both = sym is ∙ same in cc
]

-- a split is refused as a name is, or as the split of a tablet
pub cut_named : (e : Refusal) → (e ≡ BadRow) ⊎ (e ≡ NoMemory) → IsCutRefusal e
cut_named e which = elim which [
  | inl is ↦ subst IsCutRefusal (sym is) tt
  | inr is ↦ subst IsCutRefusal (sym is) tt
]

pub cut_refused : (e : Refusal) → IsSplitRefusal e → IsCutRefusal e
cut_refused BadRow told = tt
cut_refused refusal told = told

-- a raw read is refused as a name is, or as a read
pub raw_unnamed : {bad memory : Refusal} (e : Refusal) → IsRawRefusal bad → IsRawRefusal memory → (e ≡ bad) ⊎ (e ≡ memory) → IsRawRefusal e
raw_unnamed e is_bad is_memory which = elim which [
  | inl is ↦ subst IsRawRefusal (sym is) is_bad
  | inr is ↦ subst IsRawRefusal (sym is) is_memory
]

pub raw_refused : (e : Refusal) → IsReadRefusal e → IsRawRefusal e
raw_refused BadRow told = tt
raw_refused BadColumn told = tt
raw_refused refusal told = told

-- an accepted step is not Damaged
pub minor_whole : ¬ (MinorDone ≡ Refused Damaged)
minor_whole e = cc

pub merge_whole : ¬ (MergeDone ≡ Refused Damaged)
merge_whole e = cc

pub major_whole : ¬ (MajorDone ≡ Refused Damaged)
major_whole e = cc

pub swept_whole : (n : ℕ) → ¬ (Swept n ≡ Refused Damaged)
swept_whole n e = cc

pub checkpoint_whole : ¬ (CheckpointDone ≡ Refused Damaged)
checkpoint_whole e = cc

pub reported_whole : (report : List ℕ) → ¬ (Reported report ≡ Refused Damaged)
reported_whole report e = cc

-- want of memory is not Damaged
pub memory_whole : (e : Refusal) → e ≡ NoMemory → ¬ (e ≡ Damaged)
memory_whole e is same = let both = sym is ∙ same in cc

pub raw_whole : (found : Option (ℕ × List ℕ)) → ¬ (RawFound found ≡ Refused Damaged)
raw_whole found e = cc
