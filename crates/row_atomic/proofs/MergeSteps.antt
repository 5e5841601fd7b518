-- Merges of tablets' files in steps.
use Rattle.std.proofs.Common.{◌≡◌, ◌≢◌, ◌≤◌, ◌<◌, ◌+◌, inl, inr, ℕ, zero, suc, Bool, true, false, nat_eq, List, [], ◌∷◌, ◌++◌, map, set, length, get_or, take, drop, Option, Some, None, IfSome, IfNone, IsNone, IsSomeAnd, option_map, Result, Ok, Err, OnOk, OnErr, is_ok, slice_get, refl, sym, ap, ◌∙◌, subst, arith, length-append, length-drop, length-take-le}
use Rattle.std.proofs.lemmas.List.{length-map, map-append, take-map, take_at}
use Rattle.std.proofs.lemmas.Option.{same_Some, slice_get_within}
use borrow.Author.Tests.{eqb-true, eqb-false}
use Rattle.std.specs.FinMap.{get}
use Rattle.std.specs.List.{AllByRecursion, AllPairs, Contains}
use Rattle.cell_key.specs.Cells.{Cells}
use Rattle.cell_key.specs.Entries.{IsEntryList, cells_of, merged}
use Rattle.file_store.specs.Store.{Contents, KeepsOthers}
use Rattle.metadata_table.specs.Places.{PlaceView}
use Rattle.metadata_table.specs.Roots.{AreFiles, OneRoot, RootView, lengths_of, root_of}
use Rattle.metadata_table.specs.Table.{HasTablet, IsListed, IsTable}
use Rattle.metadata_table.specs.declared.root.Root.{Root}
use Rattle.sorted_file.specs.File.{IsOpen, listed, name_of}
use Rattle.cell_key.specs.declared.refusals.Refusal.{Refusal}
use Rattle.sorted_file.specs.Grammar.{FitsIn}
use Rattle.tablet.specs.Compactions.{IsNewFile}
use Rattle.tablet.specs.declared.merge_policy.MergePolicy.{MergePolicy}
use Rattle.sorted_file.specs.PartialFiles.{entries_below, entries_of, keeps_erasures, limit_of, next_of, target_of}
use Rattle.sorted_file.specs.Written.{only_written}
use Rattle.sorted_file.specs.declared.file.SortedFile.{SortedFile}
use Rattle.tablet.specs.Laws.{UnnamedMayGo}
use Rattle.tablet.specs.MergePolicies.{IsMergeCount}
use Rattle.tablet.specs.Ranges.{seen}
use Rattle.tablet.specs.RunMerges.{IsAllOf, IsPartOf, IsRunAt, KeepsCells as KeepsRunCells, LacksName, ReplacesRun, RunsAlike, keeps_of, merged_of, run_at, shown_of, sources_of as names_merged, written_to}
use Rattle.tablet.specs.Views.{Holds as HoldsAt, IsBelow, IsUnchanged, cells_at, files_of, names_of, range_of}
use Rattle.tablet.specs.declared.ranges.RowRange.{RowRange}
use Rattle.tablet.specs.declared.run_merge.RunMerge.{RunMerge}
use Rattle.tablet.specs.declared.tablet.Tablet.{Tablet}
use Rattle.row_atomic.specs.Changes.{Holds, Numbered, Remakes, parts_of}
use Rattle.row_atomic.specs.Flushes.{KeepsShown}
use Rattle.row_atomic.specs.Clusters.{ArePlaced, ClusterState, InOrder, cells_in, joined, spots_of, tablet_numbered}
use Rattle.row_atomic.specs.MergeStates.{CanGoOn, HoldsMerge, IsUsed, MergeState}
use Rattle.row_atomic.specs.MergeSteps.{CanEnd, CanEndOver, CanJoin, GoesOn, IsDueMerge, IsJoined, IsMergeOf, IsUnended, IsUnrooted, JoinsFile, KeepsAtEnd, KeepsRoots, StandsIn, StepsMerge, begins, ends, gives_up}
use Rattle.row_atomic.specs.Open.{FindsRoot, told_of}
use Rattle.row_atomic.specs.Roots.{HasRoot, root_name}
use Rattle.row_atomic.proofs.KeptRoots.{cells_stay}
use Rattle.row_atomic.proofs.ManyRows.{each_both}
use Rattle.row_atomic.proofs.Owners.{each_placed}
use Rattle.row_atomic.proofs.Shares.{each_at, each_map, each_set, map_set}
use Rattle.row_atomic.proofs.Sweeps.{each_of}

-- ---- parts of lists

module _ {A : Type 0} (P : A → Type 0) where
  all_taken : (n : ℕ) (xs : List A) → AllByRecursion P xs → AllByRecursion P (take n xs)
  all_taken zero xs all = tt
  all_taken (suc n) [] all = tt
  all_taken (suc n) (x ∷ xs) all = (all.0, all_taken n xs all.1)

  all_dropped : (n : ℕ) (xs : List A) → AllByRecursion P xs → AllByRecursion P (drop n xs)
  all_dropped zero xs all = all
  all_dropped (suc n) [] all = tt
  all_dropped (suc n) (x ∷ xs) all = all_dropped n xs all.1

  -- one element in the place of some
  all_replaced : (at end : ℕ) (x : A) (xs : List A) → AllByRecursion P xs → P x → AllByRecursion P (take at xs ++ x ∷ drop end xs)
  all_replaced at end x xs all here = each_both P (take at xs) (x ∷ drop end xs) (all_taken at xs all) (here, all_dropped end xs all)

-- ---- a merge's files in a tablet

-- the files at a run's place have its names
run_names : (files : List SortedFile) (names : List ℕ) (at : ℕ) → IsRunAt files names at → map name_of (run_at files names at) ≡ names
run_names files names at h =
    sym (take-map name_of (length names) (drop at files))
    ∙ ap (take (length names)) h.named.1
    ∙ take_at names h.named.0 (length names) refl

-- a merge as a cluster knows it
abbrev pub state_of : {W : Type 0} → ℕ → RowRange → List SortedFile → ℕ → ℕ → RunMerge W → MergeState
state_of number range files name limit run = record {
  tablet = number;
  range = range;
  files = take (length (names_merged run)) files;
  name = name;
  limit = limit;
  keep_erasures = keeps_of run;
  entries = entries_of (written_to run);
  next = next_of (written_to run);
}

-- it was begun with these files of a tablet
abbrev pub these : {W : Type 0} → List SortedFile → RunMerge W → List SortedFile
these files run = take (length (names_merged run)) files

module _ {W : Type 0} (law : RunsAlike) (range : RowRange) (m : Contents) (files was : List SortedFile) (opened : AllByRecursion (IsOpen m) files) (were : AllByRecursion (IsOpen m) was) (run : RunMerge W) (named : map name_of was ≡ names_merged run) (kept : keeps_erasures (written_to run) ≡ keeps_of run) where
  -- they mean the same entries as the tablet's present ones
  same_run : (at : ℕ) → IsRunAt files (names_merged run) at → shown_of range m (run_at files (names_merged run) at) ≡ shown_of range m was
  same_run at stands = law range m (run_at files (names_merged run) at) was
      (all_taken (IsOpen m) (length (names_merged run)) (drop at files) (all_dropped (IsOpen m) at files opened)) were
      (run_names files (names_merged run) at stands ∙ sym named)

  abbrev HasPart : Type 0
  HasPart = entries_of (written_to run) ≡ only_written (keeps_of run) (entries_below (next_of (written_to run)) (shown_of range m was))

  abbrev HasAll : Type 0
  HasAll = entries_of (written_to run) ≡ only_written (keeps_of run) (shown_of range m was)

  part_of : (at : ℕ) → IsRunAt files (names_merged run) at → HasPart → IsPartOf range m files run
  part_of at stands part = record {
    at = at;
    run = stands;
    under_way = part ∙ (λ i. only_written (sym kept i) (entries_below (next_of (written_to run)) (sym (same_run at stands) i)));
  }

  part_for : IsPartOf range m files run → HasPart
  part_for part = part.under_way ∙ (λ i. only_written (kept i) (entries_below (next_of (written_to run)) (same_run part.at part.run i)))

  all_of : (at : ℕ) → IsRunAt files (names_merged run) at → HasAll → IsAllOf range m files run
  all_of at stands all = record {
    at = at;
    run = stands;
    whole = all ∙ (λ i. only_written (sym kept i) (sym (same_run at stands) i));
  }

  all_for : IsAllOf range m files run → HasAll
  all_for all = all.whole ∙ (λ i. only_written (kept i) (same_run all.at all.run i))

-- ---- a step

-- the tablets' files are open over known contents
open_at : (m : Contents) (next : ℕ) (ts : List Tablet) (i : ℕ) (t : Tablet) → slice_get ts i ≡ Some t → InOrder (Some m) next ts → HoldsAt m t
open_at m next ts i t there order =
    each_at (HoldsAt m) ts (subst (λ (o : Contents). AllByRecursion (HoldsAt o) ts) (sym (same_Some m order.contents order.on_disk)) order.each_open) i t there

none_told : {A : Type 0} (m : A) → None ≡ Some m → ⊥
none_told m e = cc

module _ {W : Type 0} (law : RunsAlike) (number : ℕ) (range : RowRange) (files : List SortedFile) (name limit : ℕ) (run went : RunMerge W)
    (named : map name_of (these files run) ≡ names_merged run) (kept : keeps_erasures (written_to run) ≡ keeps_of run)
    (sources : names_merged went ≡ names_merged run) (keeps : keeps_of went ≡ keeps_of run) (still : keeps_erasures (written_to went) ≡ keeps_erasures (written_to run)) where
  -- the merge is the same, further on
  pub goes_on : state_of number range files name limit went ≡ record (state_of number range files name limit run) { entries = entries_of (written_to went); next = next_of (written_to went) }
  goes_on i = record {
    tablet = number;
    range = range;
    files = take (length (sources i)) files;
    name = name;
    limit = limit;
    keep_erasures = keeps i;
    entries = entries_of (written_to went);
    next = next_of (written_to went);
  }

  names_still : map name_of (these files run) ≡ names_merged went
  names_still = named ∙ sym sources

  kept_still : keeps_erasures (written_to went) ≡ keeps_of went
  kept_still = still ∙ kept ∙ sym keeps

  module _ (t : Tablet) (same : range_of t ≡ range) (at : ℕ) (stands : IsRunAt (files_of t) (map name_of (these files run)) at) where
    run_stands : IsRunAt (files_of t) (names_merged run) at
    run_stands = subst (λ (names : List ℕ). IsRunAt (files_of t) names at) named stands

    module _ (m : Contents) (opened : AllByRecursion (IsOpen m) (files_of t)) (were : AllByRecursion (IsOpen m) (these files run)) where
      part_step : (IsPartOf (range_of t) m (files_of t) run → IsPartOf (range_of t) m (files_of t) went)
          → entries_of (written_to run) ≡ only_written (keeps_of run) (entries_below (next_of (written_to run)) (shown_of range m (these files run)))
          → entries_of (written_to went) ≡ only_written (keeps_of run) (entries_below (next_of (written_to went)) (shown_of range m (these files run)))
      part_step step part =
          part_for law (range_of t) m (files_of t) (these files run) opened were went names_still kept_still
          (step (part_of law (range_of t) m (files_of t) (these files run) opened were run named kept at run_stands
          (part ∙ (λ i. only_written (keeps_of run) (entries_below (next_of (written_to run)) (shown_of (sym same i) m (these files run)))))))
          ∙ (λ i. only_written (keeps i) (entries_below (next_of (written_to went)) (shown_of (same i) m (these files run))))

      all_step : (IsPartOf (range_of t) m (files_of t) run → IsAllOf (range_of t) m (files_of t) went)
          → entries_of (written_to run) ≡ only_written (keeps_of run) (entries_below (next_of (written_to run)) (shown_of range m (these files run)))
          → entries_of (written_to went) ≡ only_written (keeps_of run) (shown_of range m (these files run))
      all_step step part =
          all_for law (range_of t) m (files_of t) (these files run) opened were went names_still kept_still
          (step (part_of law (range_of t) m (files_of t) (these files run) opened were run named kept at run_stands
          (part ∙ (λ i. only_written (keeps_of run) (entries_below (next_of (written_to run)) (shown_of (sym same i) m (these files run)))))))
          ∙ (λ i. only_written (keeps i) (shown_of (same i) m (these files run)))

    module _ (file_limit next : ℕ) (ts : List Tablet) (i : ℕ) (there : slice_get ts i ≡ Some t) where
      pub more_holds : (disk now : Option Contents) → now ≡ disk
          → IfSome disk (λ m. AllByRecursion (IsOpen m) (files_of t) → IsPartOf (range_of t) m (files_of t) run → IsPartOf (range_of t) m (files_of t) went)
          → InOrder disk next ts × HoldsMerge disk file_limit next (Some (state_of number range files name limit run))
          → InOrder now next ts × HoldsMerge now file_limit next (Some (state_of number range files name limit went))
      more_holds None now e step holds = absurd (none_told holds.0.contents holds.0.on_disk)
      more_holds (Some m) now e step holds =
          let open_files = (open_at m next ts i t there holds.0).files in
          subst (λ (o : Option Contents). InOrder o next ts × HoldsMerge o file_limit next (Some (state_of number range files name limit went))) (sym e) (
            holds.0,
            subst (λ (merge : MergeState). CanGoOn m file_limit next merge) (sym goes_on) (record {
              opened = holds.1.opened;
              named = holds.1.named;
              own = holds.1.own;
              limited = holds.1.limited;
              part = part_step m open_files holds.1.opened (step open_files) holds.1.part;
            }),
          )

      pub all_holds : (disk now : Option Contents) → now ≡ disk
          → IfSome disk (λ m. AllByRecursion (IsOpen m) (files_of t) → IsPartOf (range_of t) m (files_of t) run → IsAllOf (range_of t) m (files_of t) went)
          → InOrder disk next ts × HoldsMerge disk file_limit next (Some (state_of number range files name limit run))
          → CanEndOver now file_limit next (state_of number range files name limit went)
      all_holds None now e step holds = absurd (none_told holds.0.contents holds.0.on_disk)
      all_holds (Some m) now e step holds =
          let open_files = (open_at m next ts i t there holds.0).files in
          subst (λ (o : Option Contents). CanEndOver o file_limit next (state_of number range files name limit went)) (sym e)
          (subst (λ (merge : MergeState). CanEnd m file_limit next merge) (sym goes_on) (record {
            opened = holds.1.opened;
            own = holds.1.own;
            limited = holds.1.limited;
            whole = all_step m open_files holds.1.opened (step open_files) holds.1.part;
          }))

-- ---- names that no root has

-- the root that was read is the one that the files keep
root_found : {F : Type 0} → OneRoot → (contents : F → Option Contents) (root : RootView) (cells : Cells) (state : ClusterState F) (has : HasRoot contents root cells state) (found : Option Root) → IfSome (contents state.files) (λ m. FindsRoot (get m root_name) (option_map told_of found))
    → (r : Root) × (found ≡ Some r) × (root ≡ root_of r)
root_found one contents root cells state has found finds = of found (subst (λ (image : Option (List ℕ)). FindsRoot image (option_map told_of found)) has.keeps.there at_kept)
  where
    at_kept : FindsRoot (get has.kept root_name) (option_map told_of found)
    at_kept = subst (λ (o : Option Contents). IfSome o (λ m. FindsRoot (get m root_name) (option_map told_of found))) has.on_disk finds

    of : (o : Option Root) → FindsRoot (Some has.keeps.image) (option_map told_of o) → (r : Root) × (o ≡ Some r) × (root ≡ root_of r)
    of None is = absurd is
    of (Some r) is = (r, refl, one root (root_of r) has.keeps.image has.keeps.form (record { lengths = lengths_of r; measured = is }))

pub root_lacks : {F : Type 0} → OneRoot → (contents : F → Option Contents) (name : ℕ) (state : ClusterState F) (found : Option Root) → IfSome (contents state.files) (λ m. FindsRoot (get m root_name) (option_map told_of found))
    → ((r : Root) → found ≡ Some r → ¬ IsListed name r.table) → IsUnrooted contents name state
root_lacks one contents name state found finds lacks = λ root cells has.
    let is = root_found one contents root cells state has found finds in
    λ there. lacks is.0 is.1 (subst (λ (view : RootView). IsListed name view.places) is.2 there)

-- ---- names in the place of a run's

abbrev Lacks : ℕ → List ℕ → Type 0
Lacks name names = AllByRecursion (λ other. other ≢ name) names

-- no two are the same
abbrev Apart : List ℕ → Type 0
Apart [] = Unit {0}
Apart (x ∷ xs) = AllByRecursion (λ y. x ≢ y) xs × Apart xs

each_got : {A : Type 0} (P : A → Type 0) (xs : List A) → ((k : ℕ) (d : A) → k < length xs → P (get_or xs k d)) → AllByRecursion P xs
each_got P [] h = tt
each_got P (x ∷ xs) h = (h 0 x (omega arith), each_got P xs (λ k d below. h (suc k) d (omega (arith, below))))

got_each : {A : Type 0} (P : A → Type 0) (xs : List A) → AllByRecursion P xs → (k : ℕ) (d : A) → k < length xs → P (get_or xs k d)
got_each P [] all k d below = absurd (omega (arith, below))
got_each P (x ∷ xs) all zero d below = all.0
got_each P (x ∷ xs) all (suc k) d below = got_each P xs all.1 k d (omega (arith, below))

apart_of : (xs : List ℕ) → AllPairs (λ (a b : ℕ). a ≢ b) xs → Apart xs
apart_of [] pairs = tt
apart_of (x ∷ xs) pairs = (
  each_got (λ y. x ≢ y) xs (λ k d below. pairs 0 (suc k) d (omega arith) (omega (arith, below))),
  apart_of xs (λ i j d less below. pairs (suc i) (suc j) d (omega (arith, less)) (omega (arith, below))),
)

pairs_of : (xs : List ℕ) → Apart xs → AllPairs (λ (a b : ℕ). a ≢ b) xs
pairs_of [] apart i j d less below = absurd (omega (arith, below))
pairs_of (x ∷ xs) apart i zero d less below = absurd (omega (arith, less))
pairs_of (x ∷ xs) apart zero (suc j) d less below = got_each (λ y. x ≢ y) xs apart.0 j d (omega (arith, below))
pairs_of (x ∷ xs) apart (suc i) (suc j) d less below = pairs_of xs apart.1 i j d (omega (arith, less)) (omega (arith, below))

apart_dropped : (n : ℕ) (xs : List ℕ) → Apart xs → Apart (drop n xs)
apart_dropped zero xs apart = apart
apart_dropped (suc n) [] apart = tt
apart_dropped (suc n) (x ∷ xs) apart = apart_dropped n xs apart.1

apart_replaced : (at end name : ℕ) (xs : List ℕ) → at ≤ end → Apart xs → Lacks name xs → Apart (take at xs ++ name ∷ drop end xs)
apart_replaced zero end name xs more apart lacks = (
  all_dropped (λ y. name ≢ y) end xs (each_map (λ y. y ≢ name) (λ y. name ≢ y) (λ y h e. h (sym e)) xs lacks),
  apart_dropped end xs apart,
)
apart_replaced (suc at) zero name xs more apart lacks = absurd (omega (arith, more))
apart_replaced (suc at) (suc end) name [] more apart lacks = (tt, tt)
apart_replaced (suc at) (suc end) name (x ∷ xs) more apart lacks = (
  all_replaced (λ y. x ≢ y) at end name xs apart.0 lacks.0,
  apart_replaced at end name xs (omega (arith, more)) apart.1 lacks.1,
)

pub replaced_length : {A : Type 0} (at count : ℕ) (x : A) (xs : List A) → 1 ≤ count → at + count ≤ length xs → length (take at xs ++ x ∷ drop (at + count) xs) ≤ length xs
replaced_length at count x xs some within =
    let front = length-take-le at xs (omega (arith, within)) in
    let all = length-append (take at xs) (x ∷ drop (at + count) xs) in
    let behind = length-drop (at + count) xs in
    omega arith

-- The names of a tablet's files are valid if a used name that is not among them takes the place of some.
pub replaced_files : (next at count name : ℕ) (names : List ℕ) → AreFiles next names → IsUsed next name → Lacks name names → 1 ≤ count → at + count ≤ length names → AreFiles next (take at names ++ name ∷ drop (at + count) names)
replaced_files next at count name names files used lacks some within = record {
  few = let less = replaced_length at count name names some within in let few = files.few in omega arith;
  distinct = pairs_of _ (apart_replaced at (at + count) name names (omega arith) (apart_of names files.distinct) lacks);
  named = all_replaced (λ n. (1 ≤ n) × (n < next)) at (at + count) name names files.named used;
}

-- the end of a run is within the files
pub run_within : (files : List SortedFile) (names : List ℕ) (at : ℕ) → IsRunAt files names at → at + length names ≤ length files
run_within files names at run =
    let same : length (map name_of (drop at files)) ≡ length (names ++ run.named.0) = ap (λ (xs : List ℕ). length xs) run.named.1 in
    let mapped = length-map (drop at files) name_of in
    let both = length-append names run.named.0 in
    let behind = length-drop at files in
    let within = run.within in
    omega arith

-- ---- files that no tablet lists

lacks_by : (name : ℕ) (names : List ℕ) → ((other : ℕ) → Contains names other → other ≢ name) → Lacks name names
lacks_by name [] h = tt
lacks_by name (x ∷ xs) h = (h x (0, omega arith, refl), lacks_by name xs (λ other c. h other (suc c.0, omega (arith, c.1), c.2)))

lacks_in : (name : ℕ) (ps : List PlaceView) → ¬ IsListed name ps → AllByRecursion (λ p. Lacks name p.files) ps
lacks_in name [] none = tt
lacks_in name (p ∷ ps) none = (
  lacks_by name p.files (λ other c e. none (p, (0, omega arith, refl), subst (λ (n : ℕ). Contains p.files n) e c)),
  lacks_in name ps (λ l. none (l.0, (suc l.1.0, omega (arith, l.1.1), l.1.2), l.2)),
)

lacks_placed : (name : ℕ) (ts : List Tablet) (before : Option (List ℕ)) (ps : List PlaceView) → ArePlaced ts before ps → AllByRecursion (λ p. Lacks name p.files) ps → AllByRecursion (λ p. (t : Tablet) → tablet_numbered p.tablet ts ≡ Some t → LacksName name t) ps
lacks_placed name ts before [] placed lacks = tt
lacks_placed name ts before (p ∷ ps) placed lacks = (
  λ t e. subst (Lacks name) (sym (ap names_of (same_Some t placed.0.tablet (sym e ∙ placed.0.numbered)) ∙ placed.0.names)) lacks.0,
  lacks_placed name ts p.end ps placed.1 lacks.1,
)

pub all_lack : (name : ℕ) (places : List PlaceView) (ts : List Tablet) → IsTable places → ArePlaced ts None places → length ts ≡ length places → ¬ IsListed name places → AllByRecursion (LacksName name) ts
all_lack name places ts table placed as_many none = each_of (LacksName name) ts (λ j t e.
    let found = each_placed (λ p. (x : Tablet) → tablet_numbered p.tablet ts ≡ Some x → LacksName name x) ts places table as_many (lacks_placed name ts None places placed (lacks_in name places none)) j t e in
    found.1.0 t (ap (λ (k : ℕ). tablet_numbered k ts) found.1.1 ∙ e))

-- ---- the cells after the end of a merge

module _ (law : UnnamedMayGo) (name next : ℕ) (ts : List Tablet) (lacks : AllByRecursion (LacksName name) ts) where
  module _ (m n : Contents) (others : (other : ℕ) → other ≢ name → get n other ≡ get m other) where
    abbrev Still : Tablet → Type 0
    Still t = HoldsAt n t × (cells_at n t ≡ cells_at m t)

    one_still : (t : Tablet) → HoldsAt m t → LacksName name t → Still t
    one_still t holds lack = law m n t holds (each_map (λ other. other ≢ name) (λ other. get n other ≡ get m other) (λ other h. others other h) (names_of t) lack)

    all_still : (xs : List Tablet) → AllByRecursion (HoldsAt m) xs → AllByRecursion (LacksName name) xs → AllByRecursion Still xs
    all_still [] holds lack = tt
    all_still (x ∷ xs) holds lack = (one_still x holds.0 lack.0, all_still xs holds.1 lack.1)

  module _ (i : ℕ) (t u : Tablet) (there : slice_get ts i ≡ Some t) where
    -- if the tablet keeps its cells, the cluster does
    pub joined_keeps : (disk now : Option Contents) → KeepsOthers name disk now → IfSome disk (λ m. HoldsAt m t → IsSomeAnd now (λ n. HoldsAt n u × (cells_at n u ≡ cells_at m t))) → IsBelow next u → InOrder disk next ts
        → InOrder now next (set ts i u) × (cells_in now (set ts i u) ≡ cells_in disk ts)
    joined_keeps None now others kept below order = absurd (none_told order.contents order.on_disk)
    joined_keeps (Some m) None others kept below order = absurd others
    joined_keeps (Some m) (Some n) others kept below order =
        let holds = subst (λ (o : Contents). AllByRecursion (HoldsAt o) ts) (sym (same_Some m order.contents order.on_disk)) order.each_open in
        let still = all_still m n others ts holds lacks in
        let this = kept (each_at (HoldsAt m) ts holds i t there) in (
          record {
            contents = n;
            on_disk = refl;
            each_open = each_set (HoldsAt n) ts i u (each_map (Still m n others) (HoldsAt n) (λ x h. h.0) ts still) this.0;
            each_below = each_set (IsBelow next) ts i u order.each_below below;
          },
          ap joined (map_set (cells_at n) (cells_at m) ts i t u there (each_map (Still m n others) (λ x. cells_at n x ≡ cells_at m x) (λ x h. h.1) ts still) this.1),
        )

    -- a tablet that is unchanged keeps its cells
    pub unchanged_keeps : (disk now : Option Contents) → KeepsOthers name disk now → IsUnchanged t u → IfSome disk (λ m. HoldsAt m t → IsSomeAnd now (λ n. HoldsAt n u × (cells_at n u ≡ cells_at m t)))
    unchanged_keeps None now others same = tt
    unchanged_keeps (Some m) None others same = absurd others
    unchanged_keeps (Some m) (Some n) others same = λ holds.
        let still = one_still m n others t holds (each_at (LacksName name) ts lacks i t there) in (
          record { memory = subst IsEntryList (sym same.memory) still.0.memory; files = subst (AllByRecursion (IsOpen n)) (sym same.files) still.0.files },
          (λ j. cells_of (merged (map (seen (same.range j)) (same.memory j ∷ map (listed n) (same.files j))))) ∙ still.1,
        )

    -- so does one whose merge could end
    pub merged_keeps : {W : Type 0} → RunsAlike → (run : RunMerge W) (number : ℕ) (range : RowRange) (files : List SortedFile) (limit file_limit : ℕ) → map name_of (these files run) ≡ names_merged run → keeps_erasures (written_to run) ≡ keeps_of run
        → range_of t ≡ range → (at : ℕ) → IsRunAt (files_of t) (map name_of (these files run)) at → target_of (written_to run) ≡ name
        → (disk now : Option Contents) → KeepsRunCells disk now run t u → CanEndOver disk file_limit next (state_of number range files name limit run)
        → IfSome disk (λ m. HoldsAt m t → IsSomeAnd now (λ n. HoldsAt n u × (cells_at n u ≡ cells_at m t)))
    merged_keeps alike run number range files limit file_limit named kept same at stands target None now keeps can = tt
    merged_keeps alike run number range files limit file_limit named kept same at stands target (Some m) now keeps can = λ holds.
        keeps holds (subst (λ (n : ℕ). LacksName n t) (sym target) (each_at (LacksName name) ts lacks i t there))
        (all_of alike (range_of t) m (files_of t) (these files run) holds.files can.opened run named kept at (subst (λ (names : List ℕ). IsRunAt (files_of t) names at) named stands)
        (can.whole ∙ (λ j. only_written (keeps_of run) (shown_of (sym same j) m (these files run)))))

-- ---- the tablet after the end of a merge

same_middle : {A : Type 0} (xs ys zs : List A) (x y : A) → xs ++ x ∷ ys ≡ xs ++ y ∷ zs → x ≡ y
same_middle [] ys zs x y e = cc
same_middle (w ∷ xs) ys zs x y e = same_middle xs ys zs x y (let rest : xs ++ x ∷ ys ≡ xs ++ y ∷ zs = cc in rest)

module _ {W : Type 0} (run : RunMerge W) (t u : Tablet) (disk now : Option Contents) (made : ReplacesRun disk now run t u) where
  -- the new file has the merge's name
  new_named : name_of made.file ≡ target_of (written_to run)
  new_named = same_middle (take made.at (names_of t)) _ _ (name_of made.file) (target_of (written_to run)) (sym named ∙ made.names)
    where
      end : ℕ
      end = made.at + length (names_merged run)

      named : names_of u ≡ take made.at (names_of t) ++ name_of made.file ∷ map name_of (drop end (files_of t))
      named =
          ap (map name_of) made.files
          ∙ map-append name_of (take made.at (files_of t)) (made.file ∷ drop end (files_of t))
          ∙ ap (λ (names : List ℕ). names ++ name_of made.file ∷ map name_of (drop end (files_of t))) (sym (take-map name_of made.at (files_of t)))

  end_within : made.at + length (names_merged run) ≤ length (names_of t)
  end_within = let within = run_within (files_of t) (names_merged run) made.at made.stands.run in let same = length-map (files_of t) name_of in omega arith

  pub fewer_names : length (names_of u) ≤ length (names_of t)
  fewer_names =
      let less = replaced_length made.at (length (names_merged run)) (target_of (written_to run)) (names_of t) made.stands.some end_within in
      let same = ap (λ (names : List ℕ). length names) made.names in
      omega arith

  pub joined_names : (next name : ℕ) → AreFiles next (names_of t) → IsUsed next name → LacksName name t → target_of (written_to run) ≡ name → AreFiles next (names_of u)
  joined_names next name files used lacks target =
      subst (AreFiles next) (sym (made.names ∙ ap (λ (n : ℕ). take made.at (names_of t) ++ n ∷ drop (made.at + length (names_merged run)) (names_of t)) target))
      (replaced_files next made.at (length (names_merged run)) name (names_of t) files used lacks made.stands.some end_within)

  module _ (alike : RunsAlike) (number : ℕ) (range : RowRange) (files : List SortedFile) (name limit next : ℕ) (named : map name_of (these files run) ≡ names_merged run) (kept : keeps_erasures (written_to run) ≡ keeps_of run)
      (target : target_of (written_to run) ≡ name) (size : limit_of (written_to run) ≡ limit) (same : range_of t ≡ range) (still : range_of u ≡ range_of t) where
    abbrev Put : Option Contents → Type 0
    Put disk = IfSome disk (λ m. AllByRecursion (IsOpen m) (files_of t) → CanEnd m limit next (state_of number range files name limit run)
        → IsSomeAnd now (λ n. IsNewFile n made.file (entries_of (written_to run)) × FitsIn limit (entries_of (written_to run))))

    put_file : (o : Option Contents)
        → IfSome o (λ m. AllByRecursion (IsOpen m) (files_of t) → IsAllOf (range_of t) m (files_of t) run → IsSomeAnd now (λ n.
        IsNewFile n made.file (merged_of (range_of t) m (files_of t) run made.at) × FitsIn (limit_of (written_to run)) (merged_of (range_of t) m (files_of t) run made.at)))
        → Put o
    put_file None put = tt
    put_file (Some m) put = λ opened can.
        let has : entries_of (written_to run) ≡ only_written (keeps_of run) (shown_of (range_of t) m (these files run)) = can.whole ∙ (λ j. only_written (keeps_of run) (shown_of (sym same j) m (these files run))) in
        let all = all_of alike (range_of t) m (files_of t) (these files run) opened can.opened run named kept made.at made.stands.run has in
        let is : merged_of (range_of t) m (files_of t) run made.at ≡ entries_of (written_to run) =
        (λ j. only_written (keeps_of run) (alike_at m opened can.opened j)) ∙ sym has in
        at now is (put opened all)
      where
        alike_at : (m : Contents) → AllByRecursion (IsOpen m) (files_of t) → AllByRecursion (IsOpen m) (these files run) → shown_of (range_of t) m (run_at (files_of t) (names_merged run) made.at) ≡ shown_of (range_of t) m (these files run)
        alike_at m opened were = same_run alike (range_of t) m (files_of t) (these files run) opened were run named kept made.at made.stands.run

        at : (o : Option Contents) → merged_of (range_of t) m (files_of t) run made.at ≡ entries_of (written_to run) → IsSomeAnd o (λ n. IsNewFile n made.file (merged_of (range_of t) m (files_of t) run made.at) × FitsIn (limit_of (written_to run)) (merged_of (range_of t) m (files_of t) run made.at))
            → IsSomeAnd o (λ n. IsNewFile n made.file (entries_of (written_to run)) × FitsIn limit (entries_of (written_to run)))
        at None is there = absurd there
        at (Some n) is there = (
          subst (IsNewFile n made.file) is there.0,
          subst (λ (k : ℕ). FitsIn k (entries_of (written_to run))) size (subst (FitsIn (limit_of (written_to run))) is there.1),
        )

    pub is_joined : IsJoined (state_of number range files name limit run) next disk now t u
    is_joined = record {
      at = made.at;
      run = subst (λ (names : List ℕ). IsRunAt (files_of t) names made.at) (sym named) made.stands.run;
      last = λ dropped. ap (λ (names : List ℕ). made.at + length names) named ∙ made.stands.last dropped;
      range = still;
      memory = made.memory;
      file = made.file;
      files = made.files ∙ ap (λ (names : List ℕ). take made.at (files_of t) ++ made.file ∷ drop (made.at + length names) (files_of t)) (sym named);
      named = new_named ∙ target;
      put = put_file disk made.put;
    }

-- ---- roots

module _ {F : Type 0} (contents : F → Option Contents) (old new : ClusterState F) where
  pub roots_later : contents new.files ≡ contents old.files → old.next_name ≤ new.next_name → KeepsRoots contents old new
  roots_later same next = λ root cells has. record {
    kept = has.kept;
    on_disk = same ∙ has.on_disk;
    keeps = has.keeps;
    below = let below = has.below in omega (arith, below, next);
  }

  pub roots_rest : contents new.files ≡ contents old.files → new.next_name ≡ old.next_name → KeepsRoots contents old new
  roots_rest same next = roots_later same (omega (arith, next))

  -- a file was written under a name that no root has
  pub roots_stay : UnnamedMayGo → (name : ℕ) → 1 ≤ name → IsUnrooted contents name old → KeepsOthers name (contents old.files) (contents new.files) → new.next_name ≡ old.next_name → KeepsRoots contents old new
  roots_stay law name from none others next = λ root cells has. by root cells has (contents new.files) refl (subst (λ (o : Option Contents). KeepsOthers name o (contents new.files)) has.on_disk others)
    where
      by : (root : RootView) (cells : Cells) (has : HasRoot contents root cells old) (o : Option Contents) → contents new.files ≡ o → KeepsOthers name (Some has.kept) (contents new.files) → HasRoot contents root cells new
      by root cells has None is told = absurd (subst (λ (o : Option Contents). KeepsOthers name (Some has.kept) o) is told)
      by root cells has (Some n) is told =
          let same = subst (λ (o : Option Contents). KeepsOthers name (Some has.kept) o) is told in
          record {
            kept = n;
            on_disk = is;
            keeps = cells_stay law has.kept n root cells (record {
              root = same root_name (λ e. absurd (omega (arith, from, e)));
              listed = λ other there. same other (λ e. none root cells has (subst (λ (k : ℕ). IsListed k root.places) e there));
            }) has.keeps;
            below = subst (λ (k : ℕ). root.next_name ≤ k) (sym next) has.below;
          }

-- no file has changed
pub none_changed : (name : ℕ) (old now : Option Contents) → now ≡ old → KeepsOthers name old now
none_changed name None now same = subst IsNone (sym same) refl
none_changed name (Some m) now same = subst (λ (o : Option Contents). KeepsOthers name (Some m) o) (sym same) (λ other apart. refl)

-- ---- the cluster before and after files were read

module _ {F : Type 0} (contents : F → Option Contents) (old mid : ClusterState F) (rest : mid ≡ record old { files = mid.files }) (same : contents mid.files ≡ contents old.files) where
  pub can_join_over : (merge : MergeState) (index capacity : ℕ) → CanJoin contents merge index capacity old → CanJoin contents merge index capacity mid
  can_join_over merge index capacity can = record {
    stands = subst (λ (ts : List Tablet). StandsIn merge ts index) (sym (ap (λ (s : ClusterState F). s.tablets) rest)) can.stands;
    known = subst (HasTablet merge.tablet) (sym (ap (λ (s : ClusterState F). s.places) rest)) can.known;
    used = subst (λ (k : ℕ). IsUsed k merge.name) (sym (ap (λ (s : ClusterState F). s.next_name) rest)) can.used;
    unlisted = λ there. can.unlisted (subst (IsListed merge.name) (ap (λ (s : ClusterState F). s.places) rest) there);
    unrooted = λ root cells has. can.unrooted root cells (roots_rest contents mid old (sym same) (sym (ap (λ (s : ClusterState F). s.next_name) rest)) root cells has);
    room = subst (λ (ts : List Tablet). Numbered (λ t. length (names_of t) + 1 ≤ capacity) merge.tablet ts) (sym (ap (λ (s : ClusterState F). s.tablets) rest)) can.room;
  }

  module _ (merge : MergeState) (new : ClusterState F) where
    pub others_over : KeepsOthers merge.name (contents mid.files) (contents new.files) → KeepsOthers merge.name (contents old.files) (contents new.files)
    others_over others = subst (λ (o : Option Contents). KeepsOthers merge.name o (contents new.files)) same others

    pub joins_over : JoinsFile contents merge mid new → JoinsFile contents merge old new
    joins_over joins =
        let by = subst (λ (s : ClusterState F). JoinsFile contents merge s new) rest joins in
        record {
          joined = subst (λ (o : Option Contents). Remakes (IsJoined merge old.next_name o (contents new.files)) merge.tablet old.tablets new.tablets) same by.joined;
          listed = by.listed;
          rest = by.rest;
          others = subst (λ (o : Option Contents). KeepsOthers merge.name o (contents new.files)) same by.others;
        }

    pub unended_over : IsUnended mid new → IsUnended old new
    unended_over unended = let by = subst (λ (s : ClusterState F). IsUnended s new) rest unended in record { rest = by.rest; tablets = by.tablets }

    pub keeps_over : KeepsAtEnd contents merge mid new → KeepsAtEnd contents merge old new
    keeps_over keeps =
        let by = subst (λ (s : ClusterState F). KeepsAtEnd contents merge s new) rest keeps in
        record {
          kept = subst (λ (o : Option Contents). CanEndOver o old.file_limit old.next_name merge → InOrder o old.next_name old.tablets × HoldsMerge o old.file_limit old.next_name old.merge → Holds contents new × (cells_in (contents new.files) new.tablets ≡ cells_in o old.tablets)) same by.kept;
          spots = by.spots;
          rest = by.rest;
        }

-- ---- steps of a merge that was under way

pub unended_rest : {F : Type 0} (old new : ClusterState F) → new ≡ record old { files = new.files } → IsUnended old new
unended_rest old new rest = record {
  rest = rest ∙ (λ i. record old { files = new.files; tablets = sym (ap (λ s. s.tablets) rest) i });
  tablets = ap (λ s. map parts_of s.tablets) rest;
}

module _ {F : Type 0} (contents : F → Option Contents) (policy : MergePolicy) (old new : ClusterState F) (was : MergeState) (none : old.merge ≡ None) where
  -- nothing but the merge's file has changed
  pub gave_up : (name : ℕ) → name ≡ was.name → IsUnended old new → KeepsOthers name (contents old.files) (contents new.files) → StepsMerge contents policy (record old { merge = Some was }) false new
  gave_up name named unended others = gives_up (record {
    name = name;
    used = inr named;
    rest = unended.rest ∙ (λ i. record old { files = new.files; next_name = sym (ap (λ s. s.next_name) unended.rest) i; tablets = new.tablets; merge = none i });
    tablets = unended.tablets;
    later = let next = ap (λ s. s.next_name) unended.rest in omega arith;
    others = others;
  })

  pub ended : (is : MergeState) (r : Result (Unit {0}) Refusal) → GoesOn was is → OnOk r (JoinsFile contents is old new) → OnErr r (IsUnended old new) → KeepsOthers is.name (contents old.files) (contents new.files)
      → StepsMerge contents policy (record old { merge = Some was }) (is_ok r) new
  ended is (Ok x) goes joins unended others = ends (record {
    was = was;
    was_merge = refl;
    is = is;
    goes = goes;
    joins = subst (λ (o : Option MergeState). JoinsFile contents is (record old { merge = o }) new) none joins;
  })
  ended is (Err e) goes joins unended others = gave_up is.name (ap (λ (m : MergeState). m.name) goes.rest) unended others

-- after its last step a merge is ended, with the cells that the cluster had
module _ {F : Type 0} (contents : F → Option Contents) (faults : F → ℕ) (old mid new : ClusterState F) (was is : MergeState) (none : old.merge ≡ None) (rest : mid ≡ record old { files = mid.files }) (same : contents mid.files ≡ contents old.files) where
  pub end_shown : KeepsAtEnd contents is mid new → (Holds contents (record old { merge = Some was }) → CanEndOver (contents mid.files) mid.file_limit mid.next_name is) → faults old.files ≤ faults mid.files → faults mid.files ≤ faults new.files → KeepsShown contents faults (record old { merge = Some was }) new
  end_shown keeps can first second = record {
    kept = λ holds.
        let by = (keeps_over contents old mid rest same is new keeps).kept (can_over holds) (holds.0, subst (λ (o : Option MergeState). HoldsMerge (contents old.files) old.file_limit old.next_name o) (sym none) tt) in
        by;
    spots = keeps.spots ∙ ap (λ s. spots_of s) rest;
    limit = ap (λ s. s.file_limit) keeps.rest ∙ ap (λ s. s.file_limit) rest;
    later = omega (arith, first, second);
  }
    where
      can_over : Holds contents (record old { merge = Some was }) → CanEndOver (contents old.files) old.file_limit old.next_name is
      can_over holds = subst (λ (o : Option Contents). CanEndOver o old.file_limit old.next_name is) same (subst (λ (s : ClusterState F). CanEndOver (contents mid.files) s.file_limit s.next_name is) rest (can holds))

-- ---- beginning

take_length : {A : Type 0} (n : ℕ) (xs : List A) → take (length (take n xs)) xs ≡ take n xs
take_length zero xs = refl
take_length (suc n) [] = refl
take_length (suc n) (x ∷ xs) = ap (λ ys. x ∷ ys) (take_length n xs)

-- the names of the newest files
pub begun_names : (files : List SortedFile) (count : ℕ) (names : List ℕ) → names ≡ take count (map name_of files) → map name_of (take (length names) files) ≡ names
begun_names files count names is =
    sym (take-map name_of (length names) files)
    ∙ subst (λ (ns : List ℕ). take (length ns) (map name_of files) ≡ ns) (sym is) (take_length count (map name_of files))

pub begun_files : (files : List SortedFile) (count : ℕ) (names : List ℕ) → names ≡ take count (map name_of files) → take (length names) files ≡ take count files
begun_files files count names is =
    ap (λ (k : ℕ). take k files) (ap (λ (ns : List ℕ). length ns) (is ∙ take-map name_of count files) ∙ length-map (take count files) name_of)
    ∙ take_length count files

later_order : (o : Option Contents) (before after : ℕ) (ts : List Tablet) → before ≤ after → InOrder o before ts → InOrder o after ts
later_order o before after ts more order = record {
  contents = order.contents;
  on_disk = order.on_disk;
  each_open = order.each_open;
  each_below = each_map (IsBelow before) (IsBelow after) (λ t below. each_map (λ name. name < before) (λ name. name < after) (λ name less. omega (arith, less, more)) (names_of t) below) ts order.each_below;
}

pub begun_holds : {W : Type 0} → RunsAlike → (run : RunMerge W) (number limit before after count : ℕ) (ts : List Tablet) (i : ℕ) (t : Tablet) → slice_get ts i ≡ Some t → 1 ≤ before → after ≡ before + 1 → AreFiles before (names_of t)
    → names_merged run ≡ take count (names_of t) → keeps_erasures (written_to run) ≡ keeps_of run → ((m : Contents) → IsPartOf (range_of t) m (files_of t) run)
    → (disk now : Option Contents) → now ≡ disk → InOrder disk before ts
    → InOrder now after ts × HoldsMerge now limit after (Some (state_of number (range_of t) (files_of t) before limit run))
begun_holds alike run number limit before after count ts i t there from used files names kept begun None now e order = absurd (none_told order.contents order.on_disk)
begun_holds alike run number limit before after count ts i t there from used files names kept begun (Some m) now e order =
    let opened = (open_at m before ts i t there order).files in
    let named = begun_names (files_of t) count (names_merged run) names in
    subst (λ (o : Option Contents). InOrder o after ts × HoldsMerge o limit after (Some (state_of number (range_of t) (files_of t) before limit run))) (sym e) (
      later_order (Some m) before after ts (omega (arith, used)) order,
      record {
        opened = all_taken (IsOpen m) (length (names_merged run)) (files_of t) opened;
        named = subst (AllByRecursion (IsUsed after)) (sym (named ∙ names)) (all_taken (IsUsed after) count (names_of t) (each_map (IsUsed before) (IsUsed after) (λ name h. (h.0, omega (arith, used, h.1))) (names_of t) files.named));
        own = (from, omega (arith, used));
        limited = refl;
        part = part_for alike (range_of t) m (files_of t) (these (files_of t) run) opened (all_taken (IsOpen m) (length (names_merged run)) (files_of t) opened) run named kept (begun m);
      },
    )

-- ---- the next tablet

module _ (P : ℕ → Type 0) (numbers : List ℕ) where
  -- there is nothing to do for the numbers before an index
  abbrev pub NoneBefore : ℕ → Type 0
  NoneBefore index = (k n : ℕ) → k < index → slice_get numbers k ≡ Some n → P n

  pub none_yet : (o : Option (ℕ × ℕ)) (index n : ℕ) → slice_get numbers index ≡ Some n → (IsNone o → P n) → IfNone o (NoneBefore index) → IfNone o (NoneBefore (index + 1))
  none_yet (Some x) index n at here before = tt
  none_yet None index n at here before = λ k number below e. go k number below e (nat_eq k index) refl
    where
      go : (k number : ℕ) → k < index + 1 → slice_get numbers k ≡ Some number → (b : Bool) → nat_eq k index ≡ b → P number
      go k number below e true is = subst P (same_Some n number (sym at ∙ ap (slice_get numbers) (sym (eqb-true k index is)) ∙ e)) (here refl)
      go k number below e false is = before k number (less k index below (eqb-false k index is)) e
        where
          less : (a b : ℕ) → a < b + 1 → a ≢ b → a < b
          less a b h other = omega arith

  pub none_left : (o : Option (ℕ × ℕ)) (index : ℕ) → length numbers ≤ index → IfNone o (NoneBefore index) → IfNone o (AllByRecursion P numbers)
  none_left (Some x) index past before = tt
  none_left None index past before = each_of P numbers (λ j n e. before j n (let below = slice_get_within numbers j n e in omega arith) e)

-- the tablets are unchanged where only files were read
pub same_tablets : {F : Type 0} (old mid now : ClusterState F) → now ≡ mid → mid ≡ record old { files = mid.files } → now.tablets ≡ old.tablets
same_tablets old mid now same rest = ap (λ s. s.tablets) same ∙ ap (λ s. s.tablets) rest

-- the count is 0, or none comes first
pub none_due : (o : Option (ℕ × ℕ)) (count : ℕ) (P : ℕ → Type 0) → P count → (IsNone o → count ≡ 0) → IsNone o → P 0
none_due o count P has when none = subst P (when none) has

-- where only files were read, and a merge was put there, all else is unchanged
pub with_merge : {F : Type 0} (old mid now : ClusterState F) → now ≡ mid → mid ≡ record old { files = mid.files } → (merge : Option MergeState) → record now { merge = merge } ≡ record old { files = now.files; merge = merge }
with_merge {F} old mid now same rest merge =
    let is : now ≡ record old { files = now.files } = subst (λ (s : ClusterState F). s ≡ record old { files = s.files }) (sym same) rest in
    ap (λ (s : ClusterState F). record s { merge = merge }) is

-- ---- beginning the next merge

-- the tablet for which a merge is due is the one of which it was begun
pub due_merge : (policy : MergePolicy) (limit next count number : ℕ) (merge : MergeState) (ts : List Tablet) → Numbered (λ t. IsMergeCount policy t count) number ts → Numbered (IsMergeOf count limit next number merge) number ts
    → Numbered (IsDueMerge policy limit next merge.tablet merge) merge.tablet ts
due_merge policy limit next count number merge ts due begun =
    let is = begun.such.numbered in
    subst (λ (n : ℕ). Numbered (IsDueMerge policy limit next n merge) n ts) (sym is) (record {
      tablet = begun.tablet;
      numbered = begun.numbered;
      such = (
        count,
        subst (λ (t : Tablet). IsMergeCount policy t count) (same_Some due.tablet begun.tablet (sym due.numbered ∙ begun.numbered)) due.such,
        begun.such,
      );
    })

module _ {F : Type 0} (contents : F → Option Contents) (old : ClusterState F) (none : old.merge ≡ None) where
  -- the next name may be used up
  module _ (new : ClusterState F) (rest : new ≡ record old { files = new.files; next_name = new.next_name }) (same : contents new.files ≡ contents old.files) (later : old.next_name ≤ new.next_name) where
    pub not_begun : (policy : MergePolicy) → StepsMerge contents policy old false new
    not_begun policy = gives_up (record {
      name = old.next_name;
      used = inl refl;
      rest = rest ∙ (λ i. record old { files = new.files; next_name = new.next_name; tablets = sym (ap (λ (s : ClusterState F). s.tablets) rest) i; merge = none i });
      tablets = ap (λ (s : ClusterState F). map parts_of s.tablets) rest;
      later = later;
      others = none_changed old.next_name (contents old.files) (contents new.files) same;
    })

    pub not_begun_shown : (faults : F → ℕ) → faults old.files ≤ faults new.files → KeepsShown contents faults old new
    not_begun_shown faults more = record {
      kept = λ holds. subst (λ (s : ClusterState F). Holds contents s × (cells_in (contents s.files) s.tablets ≡ cells_in (contents old.files) old.tablets)) (sym rest) (
        (
          subst (λ (o : Option Contents). InOrder o new.next_name old.tablets) (sym same) (later_order (contents old.files) old.next_name new.next_name old.tablets later holds.0),
          subst (λ (o : Option MergeState). HoldsMerge (contents new.files) old.file_limit new.next_name o) (sym none) tt,
        ),
        ap (λ (o : Option Contents). cells_in o old.tablets) same,
      );
      spots = ap (λ (s : ClusterState F). spots_of s) rest;
      limit = ap (λ (s : ClusterState F). s.file_limit) rest;
      later = more;
    }

module _ {F : Type 0} (contents : F → Option Contents) (old mid now : ClusterState F) (is : now ≡ mid) (rest : mid ≡ record old { files = mid.files; next_name = mid.next_name }) (same : contents mid.files ≡ contents old.files) (merge : MergeState) where
  now_rest : now ≡ record old { files = now.files; next_name = now.next_name }
  now_rest = subst (λ (s : ClusterState F). s ≡ record old { files = s.files; next_name = s.next_name }) (sym is) rest

  pub begun_steps : (policy : MergePolicy) → mid.next_name ≡ old.next_name + 1 → Numbered (IsDueMerge policy old.file_limit old.next_name merge.tablet merge) merge.tablet old.tablets → StepsMerge contents policy old true (record now { merge = Some merge })
  begun_steps policy used due = begins (record {
    merge = merge;
    due = due;
    rest = ap (λ (s : ClusterState F). record s { merge = Some merge }) now_rest
        ∙ (λ i. record old { files = now.files; next_name = (ap (λ (s : ClusterState F). s.next_name) is ∙ used) i; merge = Some merge });
    files = ap (λ (s : ClusterState F). contents s.files) is ∙ same;
  })

  pub begun_shown : (faults : F → ℕ) → faults old.files ≤ faults mid.files → (Holds contents old → Holds contents (record mid { merge = Some merge })) → KeepsShown contents faults old (record now { merge = Some merge })
  begun_shown faults more can = record {
    kept = λ holds. (
      subst (λ (s : ClusterState F). Holds contents (record s { merge = Some merge })) (sym is) (can holds),
      ap (λ (s : ClusterState F). cells_in (contents s.files) s.tablets) is ∙ ap (λ (s : ClusterState F). cells_in (contents mid.files) s.tablets) rest ∙ ap (λ (o : Option Contents). cells_in o old.tablets) same,
    );
    spots = ap (λ (s : ClusterState F). spots_of s) now_rest;
    limit = ap (λ (s : ClusterState F). s.file_limit) now_rest;
    later = subst (λ (s : ClusterState F). faults old.files ≤ faults s.files) (sym is) more;
  }
