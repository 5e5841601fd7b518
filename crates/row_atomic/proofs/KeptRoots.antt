-- Commands leave a root and its cells in the files.
use Rattle.std.proofs.Common.{◌≡◌, ◌≢◌, ◌≤◌, ◌<◌, ◌==◌, ◌||◌, ◌⊎◌, inl, inr, ℕ, suc, Bool, true, false, cond, List, [], ◌∷◌, map, Option, Some, None, Result, IfSome, IsErrOf, option_map, refl, sym, ap, ◌∙◌, subst, arith}
use Rattle.std.proofs.lemmas.Option.{same_Some}
use Rattle.std.specs.FinMap.{get, get-retain_keys, nat_cmp-IsAntisymmetric}
use Rattle.std.specs.List.{AllByRecursion, Contains, list_any}
use Rattle.cell_key.specs.Cells.{Cells}
use Rattle.cell_key.specs.declared.refusals.Refusal.{Refusal}
use Rattle.cell_key.specs.declared.refusals.Refusal.TheVariants.{Damaged}
use Rattle.file_store.specs.Store.{Contents, KeepsOthers}
use Rattle.metadata_table.specs.Places.{PlaceView}
use Rattle.metadata_table.specs.Roots.{AreFiles, IsRoot, IsSoundRoot, RootView, file_names}
use Rattle.metadata_table.specs.Table.{IsListed, IsTable}
use Rattle.tablet.specs.Laws.{UnnamedMayGo}
use Rattle.tablet.specs.Views.{Holds as HoldsAt, UsesName, cells_at, names_of}
use Rattle.tablet.specs.declared.tablet.Tablet.{Tablet}
use Rattle.row_atomic.specs.Changes.{ListsAll}
use Rattle.row_atomic.specs.Clusters.{ArePlaced, ClusterState, joined, storage_of, tablet_numbered}
use Rattle.row_atomic.specs.Commands.{AnswersAll, IsOutcome, TakesFiles}
use Rattle.row_atomic.specs.Flushes.{MergesEach, MergesNewest}
use Rattle.tablet.specs.declared.merge_policy.MergePolicy.{MergePolicy}
use Rattle.row_atomic.specs.Roots.{AreOpened, FlushesEach, HasRoot, KeepsCells, KeepsRoot, StayRooted, flushes_none, flushes_one, refuses_one, root_name}
use Rattle.row_atomic.specs.Open.{HasBadRoot}
use Rattle.row_atomic.specs.RootSweeps.{AreNamedIn, AreRootPlaces, SweepsBesideRoot}
use Rattle.row_atomic.specs.Sweeps.{IsSwept, IsSweptInPart, MayLackUnkept, is_kept, is_kept_beside, swept}
use Rattle.row_atomic.specs.declared.commands.Command.{Command}
use Rattle.row_atomic.specs.declared.commands.Command.TheVariants as command
use Rattle.row_atomic.specs.declared.commands.Outcome.{Outcome}
use Rattle.row_atomic.specs.declared.commands.Outcome.TheVariants as outcome
use Rattle.row_atomic.proofs.ChangedTablets.{contained}
use Rattle.row_atomic.proofs.Lengths.{of_places, still_measured}
use Rattle.row_atomic.proofs.Owners.{each_placed}
use Rattle.row_atomic.proofs.Shares.{each_at, each_map}
use Rattle.row_atomic.proofs.Sweeps.{beside_named, each_of, lacks_fewer, listed_true, maps_alike}
use Rattle.row_atomic.proofs.EmptiedCaches.{uncached_stored}

-- ---- listed files

all_contained : (P : ℕ → Type 0) (names : List ℕ) → ((name : ℕ) → Contains names name → P name) → AllByRecursion P names
all_contained P [] h = tt
all_contained P (name ∷ names) h = (h name (0, omega arith, refl), all_contained P names (λ n c. h n (suc c.0, omega (arith, c.1), c.2)))

all_listed : (P : ℕ → Type 0) (ps : List PlaceView) → ((name : ℕ) → IsListed name ps → P name) → AllByRecursion (λ p. AllByRecursion P p.files) ps
all_listed P [] h = tt
all_listed P (p ∷ ps) h = (
  all_contained P p.files (λ name c. h name (p, (0, omega arith, refl), c)),
  all_listed P ps (λ name l. h name (l.0, (suc l.1.0, omega (arith, l.1.1), l.1.2), l.2)),
)

-- listed names are from 1 on and below the next name
listed_below : (next : ℕ) (ps : List PlaceView) → AllByRecursion (λ p. AreFiles next p.files) ps → (name : ℕ) → IsListed name ps → (1 ≤ name) × (name < next)
listed_below next ps files name l = contained (λ n. (1 ≤ n) × (n < next)) l.0.files name (contained (λ p. AreFiles next p.files) ps l.0 files l.1).named l.2

-- ---- unchanged files

-- The root file is unchanged, and so is each file that the places list.
pub record SameFiles (places : List PlaceView) (m n : Contents) : Type 0 where
  pub root : get n root_name ≡ get m root_name
  pub listed : (name : ℕ) → IsListed name places → get n name ≡ get m name

module _ (law : UnnamedMayGo) (m n : Contents) (places : List PlaceView) (ts : List Tablet) (same : SameFiles places m n) where
  -- the files of a place's tablet are unchanged
  abbrev Says : PlaceView → Type 0
  Says p = (t : Tablet) → tablet_numbered p.tablet ts ≡ Some t → AllByRecursion (λ name. get n name ≡ get m name) (names_of t)

  all_say : (before : Option (List ℕ)) (ps : List PlaceView) → ArePlaced ts before ps → AllByRecursion (λ p. AllByRecursion (λ name. get n name ≡ get m name) p.files) ps → AllByRecursion Says ps
  all_say before [] placed files = tt
  all_say before (p ∷ ps) placed files = (
    λ t e. subst (λ (names : List ℕ). AllByRecursion (λ name. get n name ≡ get m name) names) (sym (ap names_of (same_Some t placed.0.tablet (sym e ∙ placed.0.numbered)) ∙ placed.0.names)) files.0,
    all_say p.end ps placed.1 files.1,
  )

  each_still : IsTable places → AreOpened m places ts → AllByRecursion (λ t. HoldsAt n t × (cells_at n t ≡ cells_at m t)) ts
  each_still table opened = each_of (λ t. HoldsAt n t × (cells_at n t ≡ cells_at m t)) ts (λ j t e.
      let found = each_placed Says ts places table opened.as_many (all_say None places opened.placed (all_listed (λ name. get n name ≡ get m name) places same.listed)) j t e in
      law m n t (each_at (HoldsAt m) ts opened.each_open j t e) (found.1.0 t (ap (λ (k : ℕ). tablet_numbered k ts) found.1.1 ∙ e)))

pub cells_stay : UnnamedMayGo → (m n : Contents) (root : RootView) (cells : Cells) → SameFiles root.places m n → KeepsCells m root cells → KeepsCells n root cells
cells_stay law m n root cells same keeps =
    let each = each_still law m n root.places keeps.tablets same keeps.form.measured.form.sound.table keeps.opened in
    record {
      image = keeps.image;
      there = same.root ∙ keeps.there;
      form = keeps.form;
      measured = still_measured m n (file_names root.places) keeps.form.lengths (of_places (λ name. get n name ≡ get m name) root.places (all_listed (λ name. get n name ≡ get m name) root.places same.listed)) keeps.measured;
      tablets = keeps.tablets;
      opened = record {
        placed = keeps.opened.placed;
        as_many = keeps.opened.as_many;
        emptied = keeps.opened.emptied;
        each_open = each_map (λ t. HoldsAt n t × (cells_at n t ≡ cells_at m t)) (HoldsAt n) (λ t h. h.0) keeps.tablets each;
      };
      shows = ap joined (maps_alike (cells_at n) (cells_at m) keeps.tablets (each_map (λ t. HoldsAt n t × (cells_at n t ≡ cells_at m t)) (λ t. cells_at n t ≡ cells_at m t) (λ t h. h.1) keeps.tablets each)) ∙ keeps.shows;
    }

-- the contents are known, and these files are unchanged
abbrev StillTells : List PlaceView → Contents → Option Contents → Type 0
StillTells places m told = (n : Contents) × (told ≡ Some n) × SameFiles places m n

same_told : (places : List PlaceView) (m : Contents) (told : Option Contents) → told ≡ Some m → StillTells places m told
same_told places m told e = (m, e, record { root = refl; listed = λ name l. refl })

-- a file with another name was written
others_told : (places : List PlaceView) (m : Contents) (next : ℕ) (told : Option Contents) → KeepsOthers next (Some m) told → 1 ≤ next → ((name : ℕ) → IsListed name places → name < next) → StillTells places m told
others_told places m next None others from below = absurd others
others_told places m next (Some n) others from below = (
  n,
  refl,
  record {
    root = others root_name (other_root next from);
    listed = λ name l. others name (other_name name next (below name l));
  },
)
  where
    other_root : (k : ℕ) → 1 ≤ k → root_name ≢ k
    other_root k h e = absurd (omega arith)

    other_name : (name k : ℕ) → name < k → name ≢ k
    other_name name k h e = absurd (omega arith)

used_told : (root : RootView) (m : Contents) (next after : ℕ) (told : Option Contents) → IsSoundRoot root → root.next_name ≤ next → UsesName (Some m) next told after → StillTells root.places m told × (root.next_name ≤ after)
used_told root m next after told sound below (inl same) = (same_told root.places m told same.1, (let stays = same.0 in omega arith))
used_told root m next after told sound below (inr used) = (
  others_told root.places m next told used.1 (let from = sound.naming.from in omega arith) (λ name l. let is = (listed_below root.next_name root.places sound.naming.files name l).1 in omega arith),
  (let more = used.0 in omega arith),
)

-- files that must stay do, whatever a sweep removes
root_kept : (places : List PlaceView) → is_kept places root_name ≡ true
root_kept places = refl

pub listed_kept : (places : List PlaceView) (name : ℕ) → IsListed name places → is_kept places name ≡ true
listed_kept places name l = go (name == 0)
  where
    go : (b : Bool) → (b || list_any (λ p. list_any (λ file. file == name) p.files) places) ≡ true
    go true = refl
    go false = listed_true places name l

pub not_gone : (places : List PlaceView) (m n : Contents) (name : ℕ) → is_kept places name ≡ true → (get n name ≡ get m name) ⊎ ((is_kept places name ≡ false) × (get n name ≡ None)) → get n name ≡ get m name
not_gone places m n name kept (inl same) = same
not_gone places m n name kept (inr gone) = let not = gone.0 in cc

lacking_told : (root places : List PlaceView) (m : Contents) (told : Option Contents) → MayLackUnkept (is_kept places) (Some m) told → ListsAll root places → StillTells root m told
lacking_told root places m None lacks lists = absurd lacks
lacking_told root places m (Some n) lacks lists = (
  n,
  refl,
  record {
    root = not_gone places m n root_name (root_kept places) (lacks root_name);
    listed = λ name l. not_gone places m n name (listed_kept places name (lists name l)) (lacks name);
  },
)

swept_get : (places : List PlaceView) (m : Contents) (name : ℕ) → is_kept places name ≡ true → get (swept (is_kept places) m) name ≡ get m name
swept_get places m name kept =
    get-retain_keys m (is_kept places) name (λ x e. ap (is_kept places) (sym (nat_cmp-IsAntisymmetric name x e)))
    ∙ ap (λ (b : Bool). cond b (get m name) None) kept

swept_told : (root places : List PlaceView) (m : Contents) (told : Option Contents) → told ≡ Some (swept (is_kept places) m) → ListsAll root places → StillTells root m told
swept_told root places m told is lists = (
  swept (is_kept places) m,
  is,
  record {
    root = swept_get places m root_name (root_kept places);
    listed = λ name l. swept_get places m name (listed_kept places name (lists name l));
  },
)

-- ---- commands

module _ {F : Type 0} (contents : F → Option Contents) (root : RootView) (cells : Cells) where
  pub has_stored : (old new : ClusterState F) → storage_of contents new ≡ storage_of contents old → HasRoot contents root cells old → HasRoot contents root cells new
  has_stored old new same has = record {
    kept = has.kept;
    on_disk = ap (λ s. s.disk) same ∙ has.on_disk;
    keeps = has.keeps;
    below = subst (λ (k : ℕ). root.next_name ≤ k) (sym (ap (λ s. s.next_name) same)) has.below;
  }

  pub keeps_stored : (old new : ClusterState F) → storage_of contents new ≡ storage_of contents old → KeepsRoot contents root cells old → KeepsRoot contents root cells new
  keeps_stored old new same keeps = record {
    has = has_stored old new same keeps.has;
    lists = subst (λ (ps : List PlaceView). ListsAll root.places ps) (sym (ap (λ s. s.places) same)) keeps.lists;
  }

  pub both_stay : (old mid new : ClusterState F) → StayRooted contents root cells old mid → StayRooted contents root cells mid new → StayRooted contents root cells old new
  both_stay old mid new first second = ((λ has. second.0 (first.0 has)), λ keeps. second.1 (first.1 keeps))

  pub stored_stay : (old new : ClusterState F) → storage_of contents new ≡ storage_of contents old → StayRooted contents root cells old new
  stored_stay old new same = (has_stored old new same, keeps_stored old new same)

  none_stay : (old new : ClusterState F) → new ≡ old → StayRooted contents root cells old new
  none_stay old new same = (subst (HasRoot contents root cells) (sym same), subst (KeepsRoot contents root cells) (sym same))

module _ {F : Type 0} (contents : F → Option Contents) (root : RootView) (cells : Cells) where
  -- the root's places are those that the root file names
  named_by_root : (old : ClusterState F) → HasRoot contents root cells old → AreNamedIn (contents old.files) (Some root.places)
  named_by_root old has = subst (λ (o : Option Contents). AreNamedIn o (Some root.places)) (sym has.on_disk)
      (subst (λ (found : Option (List ℕ)). AreRootPlaces found (Some root.places)) (sym has.keeps.there) (root, has.keeps.form, refl))

  -- the root file is a root
  pub beside_whole : (faults : F → ℕ) (result : Result ℕ Refusal) (old new : ClusterState F) → SweepsBesideRoot contents faults result old new → HasRoot contents root cells old → ¬ IsErrOf result Damaged
  beside_whole faults result old new is has damaged =
      let bad : HasBadRoot has.kept = subst (λ (o : Option Contents). IfSome o HasBadRoot) has.on_disk (is.damaged damaged) in
      bad.2 root (subst (λ (image : List ℕ). IsRoot root image) (same_Some has.keeps.image bad.0 (sym has.keeps.there ∙ bad.1)) has.keeps.form)

module _ {F : Type 0} (contents : F → Option Contents) (law : UnnamedMayGo) (root : RootView) (cells : Cells) where
  has_told : (old new : ClusterState F) (has : HasRoot contents root cells old) → StillTells root.places has.kept (contents new.files) → root.next_name ≤ new.next_name → HasRoot contents root cells new
  has_told old new has still below = record {
    kept = still.0;
    on_disk = still.1;
    keeps = cells_stay law has.kept still.0 root cells still.2 has.keeps;
    below = below;
  }

  has_used : (old new : ClusterState F) → UsesName (contents old.files) old.next_name (contents new.files) new.next_name → HasRoot contents root cells old → HasRoot contents root cells new
  has_used old new name has =
      let used = used_told root has.kept old.next_name new.next_name (contents new.files) has.keeps.form.measured.form.sound has.below (subst (λ (o : Option Contents). UsesName o old.next_name (contents new.files) new.next_name) has.on_disk name) in
      has_told old new has used.0 used.1

  -- a sweep leaves the files that the tablets list
  has_lacking : (old new : ClusterState F) → IsSweptInPart (is_kept old.places) contents old new → ListsAll root.places old.places → HasRoot contents root cells old → HasRoot contents root cells new
  has_lacking old new is lists has = has_told old new has
      (lacking_told root.places old.places has.kept (contents new.files) (subst (λ (o : Option Contents). MayLackUnkept (is_kept old.places) o (contents new.files)) has.on_disk is.files) lists)
      (subst (λ (state : ClusterState F). root.next_name ≤ state.next_name) (sym is.rest) has.below)

  has_swept : (old new : ClusterState F) (count : ℕ) → IsSwept (is_kept old.places) contents count old new → ListsAll root.places old.places → HasRoot contents root cells old → HasRoot contents root cells new
  has_swept old new count is lists has = has_told old new has
      (swept_told root.places old.places has.kept (contents new.files) (is.files ∙ ap (option_map (swept (is_kept old.places))) has.on_disk) lists)
      (subst (λ (state : ClusterState F). root.next_name ≤ state.next_name) (sym is.rest) has.below)

  -- a sweep beside the root leaves the files that the root has
  pub has_beside : (faults : F → ℕ) (result : Result ℕ Refusal) (old new : ClusterState F) → SweepsBesideRoot contents faults result old new → HasRoot contents root cells old → HasRoot contents root cells new
  has_beside faults result old new is has = has_told old new has
      (lacking_told root.places root.places has.kept (contents new.files)
      (subst (λ (o : Option Contents). MayLackUnkept (is_kept root.places) o (contents new.files)) has.on_disk
      (lacks_fewer (is_kept_beside (Some root.places) old.places) (is_kept root.places) (beside_named root.places old.places) (contents old.files) (contents new.files) (is.part (Some root.places) (named_by_root contents root cells old has)).files))
      (λ name l. l))
      (subst (λ (state : ClusterState F). root.next_name ≤ state.next_name) (sym is.rest) has.below)

  module _ (faults : F → ℕ) (old new : ClusterState F) where
    pub one_has : (request : Command) (result : Outcome) → IsOutcome contents faults request result old new → (request ≡ command.Sweep → ListsAll root.places old.places) → HasRoot contents root cells old → HasRoot contents root cells new
    one_has (command.Minor tablet) result is lists = has_used old new is.files.0.name
    one_has (command.Merge tablet count) result is lists = has_used old new is.files.0.name
    one_has (command.Major tablet) result is lists = has_used old new is.files.0.name
    one_has (command.Split row) result is lists = has_used old new is.files.name
    one_has (command.Move tablet server) result is lists = has_used old new is.files.name
    one_has command.Sweep (outcome.Swept count) is lists = has_swept old new count is.upholds (lists refl)
    one_has command.Sweep (outcome.Refused refusal) is lists = has_lacking old new is.upholds.1 (lists refl)
    one_has command.Sweep _ is lists = has_stored contents root cells old new is.upholds
    one_has command.DropCaches outcome.Done is lists = has_stored contents root cells old new (uncached_stored contents old new is.upholds)
    one_has _ (outcome.Refused refusal) is lists = has_stored contents root cells old new is.upholds.1
    one_has _ _ is lists = has_stored contents root cells old new is.upholds

    pub one_keeps : (request : Command) (result : Outcome) → IsOutcome contents faults request result old new → ¬ TakesFiles request result → KeepsRoot contents root cells old → KeepsRoot contents root cells new
    one_keeps request result is none keeps = record {
      has = one_has request result is (λ sweep. keeps.lists) keeps.has;
      lists = λ name l. is.lists none name (keeps.lists name l);
    }

  -- ---- automatic compactions between two commands

  module _ (faults : F → ℕ) where
    minor_stay : (old new : ClusterState F) (n : ℕ) (result : Outcome) → IsOutcome contents faults (command.Minor n) result old new → StayRooted contents root cells old new
    minor_stay old new n result is = (one_has faults old new (command.Minor n) result is (λ sweep. cc), one_keeps faults old new (command.Minor n) result is (λ takes. absurd takes.0))

    pub minors_stay : (ns : List ℕ) (outcomes : List Outcome) (old new : ClusterState F) → AnswersAll contents faults old (map command.Minor ns) outcomes new → StayRooted contents root cells old new
    minors_stay [] [] old new is = none_stay contents root cells old new is
    minors_stay [] (o ∷ os) old new is = absurd is
    minors_stay (n ∷ ns) [] old new is = absurd is
    minors_stay (n ∷ ns) (o ∷ os) old new is = both_stay contents root cells old is.0 new (minor_stay old is.0 n o is.1) (minors_stay ns os is.0 new is.2)

    pub flushes_stay : (ns : List ℕ) (result : Outcome) (old new : ClusterState F) → FlushesEach contents faults old ns result new → StayRooted contents root cells old new
    flushes_stay [] result old new flushes_none = none_stay contents root cells old old refl
    flushes_stay (n ∷ ns) result old new (flushes_one {now = now} is rest) = both_stay contents root cells old now new (minor_stay old now n outcome.Done is) (flushes_stay ns result now new rest)
    flushes_stay (n ∷ ns) result old new (refuses_one refusal is) = minor_stay old new n (outcome.Refused refusal) is

    merge_has : (n count : ℕ) (old new : ClusterState F) → MergesNewest contents faults n count old new → HasRoot contents root cells old → HasRoot contents root cells new
    merge_has n count old new (inl none) has = subst (HasRoot contents root cells) (sym none.1) has
    merge_has n count old new (inr some) has = one_has faults old new (command.Merge n count) some.1.0 some.1.1 (λ sweep. cc) has

    pub merges_have : (policy : MergePolicy) (ns : List ℕ) (old new : ClusterState F) → MergesEach contents faults policy old ns new → HasRoot contents root cells old → HasRoot contents root cells new
    merges_have policy [] old new is has = subst (HasRoot contents root cells) (sym is) has
    merges_have policy (n ∷ ns) old new is has = merges_have policy ns is.0 new is.4 (merge_has n is.1 old is.0 is.3 has)
