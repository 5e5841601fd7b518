-- After a checkpoint the files keep the cells that the cluster shows.
use Rattle.std.proofs.Common.{IfSome, ◌≡◌, ◌≤◌, ◌<◌, ◌==◌, ◌⊎◌, ◌++◌, ◌^◌, length, inl, inr, ℕ, Bool, true, false, cond, nat_eq, List, [], ◌∷◌, Option, Some, None, Result, Ok, Err, refl, sym, ap, ◌∙◌, subst, arith}
use Rattle.std.proofs.lemmas.Option.{same_Some}
use Rattle.std.specs.Prelude.{IsSomeAnd, OnErr, OnOk}
use Rattle.std.specs.FinMap as finite
use Rattle.std.specs.Result.{IsErrAnd}
use Rattle.std.specs.Cmp.{nat_cmp_total, unsigned_tied}
use Rattle.std.specs.FinMap.{get, get-insert}
use Rattle.std.specs.List.{AllByRecursion}
use borrow.Author.Tests.{eqb-true, eqb-false}
use Rattle.cell_key.specs.Cells.{Cells}
use Rattle.cell_key.specs.declared.refusals.Refusal.{Refusal}
use Rattle.file_store.specs.Store.{Contents, KeepsOthers, with_file}
use Rattle.metadata_table.specs.Places.{PlaceView}
use Rattle.metadata_table.specs.Roots.{AreFiles, IsRoot, IsRootIn, IsSoundRoot, RootView, file_names, root_bytes}
use Rattle.metadata_table.specs.declared.root.format.RootFormat.TheVariants.{Two}
use Rattle.metadata_table.specs.Table.{IsTable}
use Rattle.tablet.specs.Laws.{UnnamedMayGo}
use Rattle.tablet.specs.Views.{Holds as HoldsAt, cells_at, names_of}
use Rattle.tablet.specs.declared.tablet.Tablet.{Tablet}
use Rattle.row_atomic.specs.Changes.{Holds, IsEmptied, Numbered}
use Rattle.row_atomic.specs.Clusters.{ArePlaced, ClusterState, InOrder, IsMatched, cells_in, joined, spots_of, storage_of, tablet_numbered}
use Rattle.row_atomic.specs.Commands.{IsOutcome, cells_shown}
use Rattle.row_atomic.specs.Flushes.{numbers_of}
use Rattle.row_atomic.specs.Roots.{AreMeasured, AreFlushed, AreOpened, FlushesEach, KeepsCells, KeepsRoot, PutsRootOrNone, Rests, RootIsStored, RootOutlastsFlushes, StaysOrRests, root_at, root_name}
use Rattle.row_atomic.specs.declared.commands.Command.TheVariants as command
use Rattle.row_atomic.specs.declared.commands.Outcome.TheVariants as outcome
use Rattle.row_atomic.proofs.Flushes.{same_numbers}
use Rattle.row_atomic.proofs.Lengths.{of_places, still_measured}
use Rattle.row_atomic.proofs.Owners.{each_placed}
use Rattle.row_atomic.proofs.Shares.{each_at, each_map}
use Rattle.row_atomic.proofs.Sweeps.{each_of, maps_alike}

-- ---- flushed tablets

module _ {F : Type 0} (contents : F → Option Contents) (faults : F → ℕ) where
  -- effects of one compaction
  pub record FlushKeeps (old new : ClusterState F) : Type 0 where
    pub emptied : (n : ℕ) → Numbered IsEmptied n old.tablets → Numbered IsEmptied n new.tablets
    pub spots : spots_of new ≡ spots_of old
    pub still : Holds contents old → Holds contents new
    pub same : Holds contents old → cells_shown contents new ≡ cells_shown contents old

  one_keeps : (old new : ClusterState F) (k : ℕ) → IsOutcome contents faults (command.Minor k) outcome.Done old new → FlushKeeps old new
  one_keeps old new k is = record {
    emptied = λ n such. by (nat_eq n k) n such refl;
    spots = is.files.1;
    still = is.still;
    same = is.answers;
  }
    where
      by : (b : Bool) (n : ℕ) → Numbered IsEmptied n old.tablets → nat_eq n k ≡ b → Numbered IsEmptied n new.tablets
      by true n such e = record { tablet = is.upholds.made.is; numbered = ap (λ (m : ℕ). tablet_numbered m new.tablets) (eqb-true n k e) ∙ is.upholds.made.is_numbered; such = is.upholds.made.made.memory }
      by false n such e = record { tablet = such.tablet; numbered = is.upholds.made.others n (eqb-false n k e) ∙ such.numbered; such = such.such }

  one_emptied : (old new : ClusterState F) (k : ℕ) → IsOutcome contents faults (command.Minor k) outcome.Done old new → Numbered IsEmptied k new.tablets
  one_emptied old new k is = record { tablet = is.upholds.made.is; numbered = is.upholds.made.is_numbered; such = is.upholds.made.made.memory }

  both_keep : (old mid new : ClusterState F) → FlushKeeps old mid → FlushKeeps mid new → FlushKeeps old new
  both_keep old mid new a b = record {
    emptied = λ n such. b.emptied n (a.emptied n such);
    spots = b.spots ∙ a.spots;
    still = λ holds. b.still (a.still holds);
    same = λ holds. b.same (a.still holds) ∙ a.same holds;
  }

  pub all_keep : (old new : ClusterState F) (ns : List ℕ) → FlushesEach contents faults old ns outcome.Done new → FlushKeeps old new
  all_keep old new [] FlushesEach.flushes_none = record { emptied = λ n such. such; spots = refl; still = λ holds. holds; same = λ holds. refl }
  all_keep old new (n ∷ ns) (FlushesEach.flushes_one {now = now} is rest) = both_keep old now new (one_keeps old now n is) (all_keep now new ns rest)

  pub all_emptied : (old new : ClusterState F) (ns : List ℕ) → FlushesEach contents faults old ns outcome.Done new → AllByRecursion (λ n. Numbered IsEmptied n new.tablets) ns
  all_emptied old new [] FlushesEach.flushes_none = tt
  all_emptied old new (n ∷ ns) (FlushesEach.flushes_one {now = now} is rest) = ((all_keep now new ns rest).emptied n (one_emptied old now n is), all_emptied now new ns rest)

  pub are_flushed : (old new : ClusterState F) → FlushesEach contents faults old (numbers_of old.places) outcome.Done new → AreFlushed new
  are_flushed old new flushes =
      subst (λ (ns : List ℕ). AllByRecursion (λ n. Numbered IsEmptied n new.tablets) ns) (sym (same_numbers old.places new.places (all_keep old new (numbers_of old.places) flushes).spots))
      (all_emptied old new (numbers_of old.places) flushes)

-- ---- the root file

-- bytes appended to an empty buffer are the bytes of the root
pub new_root : (root : RootView) (lengths out image : List ℕ) → IsSoundRoot root → length lengths ≡ length (file_names root.places) → AllByRecursion (λ n. n < 2 ^ 64) lengths
    → out ≡ [] → image ≡ out ++ root_bytes Two root lengths → IsRootIn Two root lengths image
new_root root lengths out image sound measured fit none whole =
    record { sound = sound; measured = measured; fit = fit; whole = whole ∙ ap (λ (bytes : List ℕ). bytes ++ root_bytes Two root lengths) none }

module _ (m : Contents) (image : List ℕ) where
  abbrev with_root : Contents
  with_root = finite.insert m root_name image

  elsewhere : (name : ℕ) → 1 ≤ name → get with_root name ≡ get m name
  elsewhere name from = get-insert nat_cmp_total m root_name image name ∙ ap (λ (b : Bool). cond b (Some image) (get m name)) (unsigned_tied name root_name) ∙ by (name == root_name) refl
    where
      by : (b : Bool) → (name == root_name) ≡ b → cond b (Some image) (get m name) ≡ get m name
      by true e = let none = eqb-true name root_name e in absurd (omega arith)
      by false e = refl

-- a put of the root changes no other file
pub put_keeps : (old : Option Contents) (image : List ℕ) → KeepsOthers root_name old (with_file root_name image old)
put_keeps None image = refl
put_keeps (Some m) image = λ name other. elsewhere m image name (omega (arith, other))

module _ (places : List PlaceView) (ts : List Tablet) (limit next : ℕ) (table : IsTable places) (matched : IsMatched limit next places ts) where
  -- a property of each place's tablet
  abbrev Says : (Tablet → Type 0) → PlaceView → Type 0
  Says P p = (t : Tablet) → tablet_numbered p.tablet ts ≡ Some t → P t

  each_says : (P : Tablet → Type 0) → AllByRecursion (Says P) places → AllByRecursion P ts
  each_says P says = each_of P ts (λ j t e.
      let found = each_placed (Says P) ts places table matched.as_many says j t e in
      found.1.0 t (ap (λ (n : ℕ). tablet_numbered n ts) found.1.1 ∙ e))

  emptied_says : (ps : List PlaceView) → AllByRecursion (λ n. Numbered IsEmptied n ts) (numbers_of ps) → AllByRecursion (Says IsEmptied) ps
  emptied_says [] all = tt
  emptied_says (p ∷ ps) all = ((λ t e. subst IsEmptied (sym (same_Some t all.0.tablet (sym e ∙ all.0.numbered))) all.0.such), emptied_says ps all.1)

  named_says : (before : Option (List ℕ)) (ps : List PlaceView) → ArePlaced ts before ps → AllByRecursion (λ p. AreFiles next p.files) ps → AllByRecursion (Says (λ t. AreFiles next (names_of t))) ps
  named_says before [] placed files = tt
  named_says before (p ∷ ps) placed files = (
    λ t e. subst (AreFiles next) (sym (ap names_of (same_Some t placed.0.tablet (sym e ∙ placed.0.numbered)) ∙ placed.0.names)) files.0,
    named_says p.end ps placed.1 files.1,
  )

  -- the files of tablets are unchanged
  module _ (law : UnnamedMayGo) (m n : Contents) (same_at : (name : ℕ) → 1 ≤ name → get n name ≡ get m name) where
    each_still : AllByRecursion (HoldsAt m) ts → AllByRecursion (λ t. HoldsAt n t × (cells_at n t ≡ cells_at m t)) ts
    each_still holds = each_of (λ t. HoldsAt n t × (cells_at n t ≡ cells_at m t)) ts (λ j t e.
        law m n t (each_at (HoldsAt m) ts holds j t e)
        (each_map (λ name. (1 ≤ name) × (name < next)) (λ name. get n name ≡ get m name) (λ name is. same_at name is.0) (names_of t)
        (each_at (λ u. AreFiles next (names_of u)) ts (each_says (λ u. AreFiles next (names_of u)) (named_says None places matched.placed matched.files)) j t e).named))

    open_still : AllByRecursion (HoldsAt m) ts → AllByRecursion (HoldsAt n) ts
    open_still holds = each_map (λ t. HoldsAt n t × (cells_at n t ≡ cells_at m t)) (HoldsAt n) (λ t h. h.0) ts (each_still holds)

    cells_still : AllByRecursion (HoldsAt m) ts → cells_in (Some n) ts ≡ cells_in (Some m) ts
    cells_still holds = ap joined (maps_alike (cells_at n) (cells_at m) ts (each_map (λ t. HoldsAt n t × (cells_at n t ≡ cells_at m t)) (λ t. cells_at n t ≡ cells_at m t) (λ t h. h.1) ts (each_still holds)))

  others_still : UnnamedMayGo → (old new : Option Contents) → KeepsOthers root_name old new → InOrder old next ts → InOrder new next ts × (cells_in new ts ≡ cells_in old ts)
  others_still law None new others order = let none = order.on_disk in cc
  others_still law (Some m) None others order = absurd others
  others_still law (Some m) (Some n) others order =
      let same : m ≡ order.contents = same_Some m order.contents order.on_disk in
      let holds : AllByRecursion (HoldsAt m) ts = subst (λ (o : Contents). AllByRecursion (HoldsAt o) ts) (sym same) order.each_open in
      let same_at : (name : ℕ) → 1 ≤ name → get n name ≡ get m name = λ name from. others name (λ is. absurd (omega (arith, is, from))) in
      (record { contents = n; on_disk = refl; each_open = open_still law m n same_at holds; each_below = order.each_below }, cells_still law m n same_at holds)

  -- the root file's bytes change nothing for tablets
  pub still_told : UnnamedMayGo → (old new : Option Contents) → (new ≡ old) ⊎ KeepsOthers root_name old new → InOrder old next ts → InOrder new next ts × (cells_in new ts ≡ cells_in old ts)
  still_told law old new may order = elim may [
    | inl same ↦ (subst (λ (o : Option Contents). InOrder o next ts) (sym same) order, ap (λ (o : Option Contents). cells_in o ts) same)
    | inr others ↦ others_still law old new others order
  ]

  module _ (law : UnnamedMayGo) (m : Contents) (image : List ℕ) where
    abbrev n : Contents
    n = with_root m image

    names_stay : AllByRecursion (λ name. get n name ≡ get m name) (file_names places)
    names_stay =
        of_places (λ name. get n name ≡ get m name) places
        (each_map (λ p. AreFiles next p.files) (λ p. AllByRecursion (λ name. get n name ≡ get m name) p.files)
        (λ p is. each_map (λ name. (1 ≤ name) × (name < next)) (λ name. get n name ≡ get m name) (λ name h. elsewhere m image name h.0) p.files is.named) places matched.files)

    keeps : AllByRecursion (HoldsAt m) ts → AllByRecursion (λ k. Numbered IsEmptied k ts) (numbers_of places) → (root : RootView) → root.places ≡ places → (form : IsRoot root image) → AreMeasured m (file_names root.places) form.lengths → KeepsCells n root (cells_in (Some m) ts)
    keeps holds flushed root same form measured =
        record {
          image = image;
          there = get-insert nat_cmp_total m root_name image root_name;
          form = form;
          measured = still_measured m n (file_names root.places) form.lengths (subst (λ (ps : List PlaceView). AllByRecursion (λ name. get n name ≡ get m name) (file_names ps)) (sym same) names_stay) measured;
          tablets = ts;
          opened = subst (λ (ps : List PlaceView). AreOpened n ps ts) (sym same) (record {
            placed = matched.placed;
            as_many = matched.as_many;
            emptied = each_says IsEmptied (emptied_says places flushed);
            each_open = open_still law m n (elsewhere m image) holds;
          });
          shows = cells_still law m n (elsewhere m image) holds;
        }

  pub keeps_told : UnnamedMayGo → (old new : Option Contents) (image : List ℕ) (root : RootView) → new ≡ with_file root_name image old → root.places ≡ places → (form : IsRoot root image) → IfSome old (λ m. AreMeasured m (file_names root.places) form.lengths) → AllByRecursion (λ k. Numbered IsEmptied k ts) (numbers_of places)
      → InOrder old next ts → IsSomeAnd new (λ k. KeepsCells k root (cells_in old ts))
  keeps_told law old new image root put same form measured flushed order =
      subst (λ (o : Option Contents). IsSomeAnd o (λ k. KeepsCells k root (cells_in old ts))) (sym put)
      (subst (λ (o : Option Contents). IsSomeAnd (with_file root_name image o) (λ k. KeepsCells k root (cells_in o ts))) (sym order.on_disk)
      (keeps law order.contents image order.each_open flushed root same form (subst (λ (o : Option Contents). IfSome o (λ m. AreMeasured m (file_names root.places) form.lengths)) order.on_disk measured)))

-- a state's root has the state's numbers and places
pub rooted : {F : Type 0} (contents : F → Option Contents) (top floor : ℕ) (state : ClusterState F) (cells : Cells) → IsSomeAnd (contents state.files) (λ m. KeepsCells m (root_at top floor state) cells) → KeepsRoot contents (root_at top floor state) cells state
rooted contents top floor state cells keeps = go (contents state.files) refl keeps
  where
    go : (told : Option Contents) → contents state.files ≡ told → IsSomeAnd told (λ m. KeepsCells m (root_at top floor state) cells) → KeepsRoot contents (root_at top floor state) cells state
    go None e keeps = absurd keeps
    go (Some m) e keeps = record { has = record { kept = m; on_disk = e; keeps = keeps; below = omega arith }; lists = λ name l. l }

-- a root that was put keeps the cells of the flushed state
pub put_rests : {F : Type 0} (contents : F → Option Contents) (top floor : ℕ) (old : ClusterState F) (files : F) → IsTable old.places → IsMatched old.file_limit old.next_name old.places old.tablets → UnnamedMayGo
    → (image lengths : List ℕ) → IsRootIn Two (root_at top floor old) lengths image → contents files ≡ with_file root_name image (contents old.files)
    → IfSome (contents old.files) (λ m. AreMeasured m (file_names old.places) lengths) → AreFlushed old → Rests contents top floor old (record old { files = files })
put_rests contents top floor old files table matched law image lengths written put measured flushed holds =
    rooted contents top floor (record old { files = files }) (cells_in (contents old.files) old.tablets)
    (keeps_told old.places old.tablets old.file_limit old.next_name table matched law (contents old.files) (contents files) image (root_at top floor old) put refl
    (record { lengths = lengths; measured = record { format = Two; form = written } }) measured flushed holds.0)

-- ---- the checkpoint

module _ {F : Type 0} (contents : F → Option Contents) (faults : F → ℕ) (top floor : ℕ) where
  pub rests_after : (old mid new : ClusterState F) → FlushesEach contents faults old (numbers_of old.places) outcome.Done mid → Rests contents top floor mid new → Rests contents top floor old new
  rests_after old mid new flushes rests holds =
      let kept = all_keep contents faults old mid (numbers_of old.places) flushes in
      subst (λ (cells : Cells). KeepsRoot contents (root_at top floor new) cells new) (kept.same holds) (rests (kept.still holds))

  pub flushed_then : (mid new : ClusterState F) → new ≡ record mid { files = new.files } → AreFlushed mid → AreFlushed new
  flushed_then mid new rest flushed = subst AreFlushed (sym rest) flushed

pub when_done : {P Q : Type 0} (r : Result (Unit {0}) Refusal) → (P → Q) → OnOk r P → OnOk r Q
when_done (Ok x) f h = f h
when_done (Err e) f h = tt

pub when_refused : {P Q : Type 0} (r : Result (Unit {0}) Refusal) → (P → Q) → OnErr r P → OnErr r Q
when_refused (Ok x) f h = tt
when_refused (Err e) f h = f h

pub when_true : {P : Type 0} (r : Result (Unit {0}) Refusal) → P → OnOk r P
when_true (Ok x) h = h
when_true (Err e) h = tt

module _ {F : Type 0} (contents : F → Option Contents) (faults : F → ℕ) (stored : RootIsStored contents) (outlasts : RootOutlastsFlushes contents faults) (top floor : ℕ) where
  same_storage : (mid new : ClusterState F) → new ≡ record mid { files = new.files } → contents new.files ≡ contents mid.files → storage_of contents new ≡ storage_of contents mid
  same_storage mid new rest same =
      ap (storage_of contents) rest
      ∙ ap (λ (disk : Option Contents). record { disk = disk; file_limit = mid.file_limit; next_name = mid.next_name; places = mid.places; logged = [] }) same

  -- the tablets are flushed, and then the root is put or not
  pub stays_or_rests : (old mid new : ClusterState F) → FlushesEach contents faults old (numbers_of old.places) outcome.Done mid → new ≡ record mid { files = new.files } → PutsRootOrNone contents top floor mid new
      → StaysOrRests contents top floor old new
  stays_or_rests old mid new flushes rest puts = elim puts [
    | inl same ↦ inl (λ root cells.
        let first = (outlasts root cells old mid).1 (numbers_of old.places) outcome.Done flushes in
        let then = stored root cells mid new (same_storage mid new rest same) in
        ((λ has. then.0 (first.0 has)), (λ keeps. then.1 (first.1 keeps))))
    | inr rests ↦ inr (rests_after contents faults top floor old mid new flushes (rests (are_flushed contents faults old mid flushes)))
  ]

pub on_refused : {P : Type 0} (r : Result (Unit {0}) Refusal) → (e : Refusal) → IsErrAnd r (λ f. f ≡ e) → P → OnErr r P
on_refused (Ok x) e by h = absurd by
on_refused (Err f) e by h = h
