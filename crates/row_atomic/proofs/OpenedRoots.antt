-- A store is opened as its root file says, and is refused as damaged only if it is.
use Rattle.std.proofs.Common.{◌≡◌, ◌≤◌, ◌<◌, ◌⊎◌, inl, inr, ℕ, zero, suc, List, [], ◌∷◌, length, map, Option, Some, None, IfSome, slice_get, refl, sym, ap, ◌∙◌, subst, arith}
use Rattle.std.proofs.lemmas.Option.{same_Some}
use Rattle.std.specs.FinMap.{get}
use Rattle.std.specs.List.{AllByRecursion}
use Rattle.cell_key.specs.Cells.{Cells}
use Rattle.file_store.specs.Store.{Contents}
use Rattle.metadata_table.specs.Places.{PlaceView}
use Rattle.metadata_table.specs.Roots.{AreFiles, IsNoRoot, IsRoot, IsRootWith, IsSoundRoot, OneMeasure, OneRoot, RootView, file_names}
use Rattle.metadata_table.specs.Table.{IsTable}
use Rattle.sorted_file.specs.File.{HasFile}
use Rattle.tablet.specs.Laws.{FilesAreThere, SameCells}
use Rattle.tablet.specs.Views.{Holds as HoldsAt, IsBelow, cells_at}
use Rattle.tablet.specs.declared.tablet.Tablet.{Tablet}
use Rattle.row_atomic.specs.Changes.{Holds, IsEmptied}
use Rattle.row_atomic.specs.Clusters.{ArePlaced, ClusterState, cells_in, joined, tablet_numbered}
use Rattle.row_atomic.specs.Roots.{AreMeasured, AreOpened, KeepsCells, root_at, root_name}
use Rattle.row_atomic.specs.MergeStates.{HoldsMerge, MergeState}
use Rattle.row_atomic.specs.Open.{AreLoaded, FindsRoot, HasBadRoot, IsDamaged, IsStore, LacksFile, Reopens, no_file, no_length, no_root}
use Rattle.row_atomic.proofs.ListedFiles.{same_lists}
use Rattle.row_atomic.proofs.Owners.{each_placed}
use Rattle.row_atomic.proofs.Shares.{each_at, each_map}
use Rattle.row_atomic.proofs.Sweeps.{each_of}

-- ---- damage

pub no_root_told : (told : Option Contents) (image : List ℕ) → IfSome told (λ m. Some image ≡ get m root_name) → IsNoRoot image → IfSome told HasBadRoot
no_root_told None image there none = tt
no_root_told (Some m) image there none = (image, sym there, none)

pub bad_is_damaged : (told : Option Contents) → IfSome told HasBadRoot → IfSome told IsDamaged
bad_is_damaged None bad = tt
bad_is_damaged (Some m) bad = no_root bad.0 bad.1 bad.2

pub lacks_told : (told : Option Contents) (root : RootView) (lengths : List ℕ) → IfSome told (λ m. FindsRoot (get m root_name) (Some (root, lengths))) → IfSome told (λ m. LacksFile m root.places ⊎ (¬ AreMeasured m (file_names root.places) lengths)) → IfSome told (λ m. IsDamaged m)
lacks_told None root lengths finds lacks = tt
lacks_told (Some m) root lengths finds lacks = go (get m root_name) refl finds
  where
    go : (found : Option (List ℕ)) → get m root_name ≡ found → FindsRoot found (Some (root, lengths)) → IsDamaged m
    go None e finds = absurd finds
    go (Some image) e finds = elim lacks [
      | inl lacking ↦ no_file image root e (record { lengths = lengths; measured = finds }) lacking
      | inr wrong ↦ no_length image root lengths e finds wrong
    ]

-- the files of open tablets exist
there_all : FilesAreThere → (m : Contents) (ts : List Tablet) (before : Option (List ℕ)) (ps : List PlaceView) → AllByRecursion (HoldsAt m) ts → ArePlaced ts before ps → AllByRecursion (λ p. AllByRecursion (HasFile m) p.files) ps
there_all law m ts before [] each placed = tt
there_all law m ts before (p ∷ ps) each placed = (
  subst (λ (names : List ℕ). AllByRecursion (HasFile m) names) placed.0.names (law m placed.0.tablet (of_number p.tablet placed.0.numbered)),
  there_all law m ts p.end ps each placed.1,
)
  where
    of_number : (n : ℕ) → tablet_numbered n ts ≡ Some placed.0.tablet → HoldsAt m placed.0.tablet
    of_number zero e = cc
    of_number (suc j) e = each_at (HoldsAt m) ts each j placed.0.tablet e

pub there_told : FilesAreThere → (told : Option Contents) (ts : List Tablet) (ps : List PlaceView) → AreLoaded ps ts → IfSome told (λ m. AllByRecursion (HoldsAt m) ts) → IfSome told (λ m. AllByRecursion (λ p. AllByRecursion (HasFile m) p.files) ps)
there_told law None ts ps loaded each = tt
there_told law (Some m) ts ps loaded each = there_all law m ts None ps each loaded.placed

-- if the root file's store was opened, nothing is damaged
whole_of : OneRoot → OneMeasure → FilesAreThere → (m : Contents) (image : List ℕ) (root : RootView) (ts : List Tablet) → get m root_name ≡ Some image → (form : IsRoot root image) → AreMeasured m (file_names root.places) form.lengths → AreOpened m root.places ts → ¬ IsDamaged m
whole_of one measure law m image root ts there form measured opened (no_root bytes e none) = none root (subst (λ (b : List ℕ). IsRoot root b) (same_Some image bytes (sym there ∙ e)) form)
whole_of one measure law m image root ts there form measured opened (no_file bytes other e is lacks) =
    let same : root ≡ other = one root other bytes (subst (λ (b : List ℕ). IsRoot root b) (same_Some image bytes (sym there ∙ e)) form) is in
    subst (λ (r : RootView). LacksFile m r.places) (sym same) lacks (there_all law m ts None root.places opened.each_open opened.placed)
whole_of one measure law m image root ts there form measured opened (no_length bytes other lengths e is wrong) =
    let here : IsRootWith other lengths image = subst (λ (b : List ℕ). IsRootWith other lengths b) (sym (same_Some image bytes (sym there ∙ e))) is in
    let same : root ≡ other = one root other image form (record { lengths = lengths; measured = here }) in
    let alike : form.lengths ≡ lengths = measure root other form.lengths lengths image form.measured here in
    wrong (subst (λ (r : RootView). AreMeasured m (file_names r.places) lengths) same (subst (λ (l : List ℕ). AreMeasured m (file_names root.places) l) alike measured))

none_whole : (m : Contents) → get m root_name ≡ None → ¬ IsDamaged m
none_whole m none (no_root bytes e is) = let other : None ≡ Some bytes = sym none ∙ e in cc
none_whole m none (no_file bytes root e is lacks) = let other : None ≡ Some bytes = sym none ∙ e in cc
none_whole m none (no_length bytes root lengths e is wrong) = let other : None ≡ Some bytes = sym none ∙ e in cc

module _ {F : Type 0} (one : OneRoot) (measure : OneMeasure) (law : FilesAreThere) where
  pub store_whole : (m : Contents) (top floor : ℕ) (state : ClusterState F) → IsStore m (get m root_name) top floor state → ¬ IsDamaged m
  store_whole m top floor state is = go (get m root_name) refl is
    where
      go : (found : Option (List ℕ)) → get m root_name ≡ found → IsStore m found top floor state → ¬ IsDamaged m
      go None e new = none_whole m e
      go (Some image) e opened = whole_of one measure law m image (root_at top floor state) state.tablets e opened.form opened.measured opened.opened

  pub stores_whole : (told : Option Contents) (top floor : ℕ) (state : ClusterState F) → IfSome told (λ m. IsStore m (get m root_name) top floor state) → IfSome told (λ m. ¬ IsDamaged m)
  stores_whole None top floor state is = tt
  stores_whole (Some m) top floor state is = store_whole m top floor state is

pub kept_whole : OneRoot → OneMeasure → FilesAreThere → (m : Contents) (root : RootView) (cells : Cells) → KeepsCells m root cells → ¬ IsDamaged m
kept_whole one measure law m root cells keeps = whole_of one measure law m keeps.image root keeps.tablets keeps.there keeps.form keeps.measured keeps.opened

-- ---- two openings of one root

-- Two tablets of each place have the same cells.
record AreAlike (m : Contents) (ts us : List Tablet) (p : PlaceView) : Type 0 where
  t : Tablet
  u : Tablet
  in_ts : tablet_numbered p.tablet ts ≡ Some t
  in_us : tablet_numbered p.tablet us ≡ Some u
  same : cells_at m t ≡ cells_at m u

module _ (law : SameCells) (m : Contents) (ts us : List Tablet) (places : List PlaceView) (table : IsTable places) (a : AreOpened m places ts) (b : AreOpened m places us) where
  such : (P : Tablet → Type 0) (vs : List Tablet) → AllByRecursion P vs → (n : ℕ) (v : Tablet) → tablet_numbered n vs ≡ Some v → P v
  such P vs all zero v e = cc
  such P vs all (suc j) v e = each_at P vs all j v e

  all_alike : (before : Option (List ℕ)) (ps : List PlaceView) → ArePlaced ts before ps → ArePlaced us before ps → AllByRecursion (AreAlike m ts us) ps
  all_alike before [] p q = tt
  all_alike before (x ∷ ps) p q = (
    record {
      t = p.0.tablet;
      u = q.0.tablet;
      in_ts = p.0.numbered;
      in_us = q.0.numbered;
      same = law m p.0.tablet q.0.tablet (such (HoldsAt m) ts a.each_open x.tablet p.0.tablet p.0.numbered) (such (HoldsAt m) us b.each_open x.tablet q.0.tablet q.0.numbered)
          (p.0.range ∙ sym q.0.range)
          (such IsEmptied ts a.emptied x.tablet p.0.tablet p.0.numbered ∙ sym (such IsEmptied us b.emptied x.tablet q.0.tablet q.0.numbered))
          (p.0.names ∙ sym q.0.names);
    },
    all_alike x.end ps p.1 q.1,
  )

  same_at : (j : ℕ) (t u : Tablet) → slice_get ts j ≡ Some t → slice_get us j ≡ Some u → cells_at m t ≡ cells_at m u
  same_at j t u e f =
      let found = each_placed (AreAlike m ts us) ts places table a.as_many (all_alike None places a.placed b.placed) j t e in
      let alike = found.1.0 in
      let first : alike.t ≡ t = same_Some alike.t t (sym alike.in_ts ∙ ap (λ (n : ℕ). tablet_numbered n ts) found.1.1 ∙ e) in
      let second : alike.u ≡ u = same_Some alike.u u (sym alike.in_us ∙ ap (λ (n : ℕ). tablet_numbered n us) found.1.1 ∙ f) in
      ap (cells_at m) (sym first) ∙ alike.same ∙ ap (cells_at m) second

  pub same_shown : cells_in (Some m) ts ≡ cells_in (Some m) us
  same_shown = ap joined (go ts us (a.as_many ∙ sym b.as_many) same_at)
    where
      go : (vs ws : List Tablet) → length vs ≡ length ws → ((j : ℕ) (t u : Tablet) → slice_get vs j ≡ Some t → slice_get ws j ≡ Some u → cells_at m t ≡ cells_at m u) → map (cells_at m) vs ≡ map (cells_at m) ws
      go [] [] many same = refl
      go [] (w ∷ ws) many same = absurd (omega arith)
      go (v ∷ vs) [] many same = absurd (omega arith)
      go (v ∷ vs) (w ∷ ws) many same = ap (λ (c : Cells). c ∷ map (cells_at m) vs) (same 0 v w refl refl) ∙ ap (λ (cs : List Cells). cells_at m w ∷ cs) (go vs ws (omega arith) (λ j t u e f. same (suc j) t u e f))

-- ---- a cluster of the opened tablets

below_all : (next : ℕ) (ts : List Tablet) (before : Option (List ℕ)) (ps : List PlaceView) → ArePlaced ts before ps → AllByRecursion (λ p. AreFiles next p.files) ps → AllByRecursion (λ p. (t : Tablet) × ((tablet_numbered p.tablet ts ≡ Some t) × IsBelow next t)) ps
below_all next ts before [] placed files = tt
below_all next ts before (p ∷ ps) placed files = (
  (placed.0.tablet, (placed.0.numbered, subst (λ (names : List ℕ). AllByRecursion (λ (name : ℕ). name < next) names) (sym placed.0.names) (each_map (λ (name : ℕ). (1 ≤ name) × (name < next)) (λ (name : ℕ). name < next) (λ name h. h.1) p.files files.0.named))),
  below_all next ts p.end ps placed.1 files.1,
)

module _ {F : Type 0} (contents : F → Option Contents) (top floor : ℕ) (state : ClusterState F) (sound : IsSoundRoot (root_at top floor state)) (loaded : AreLoaded state.places state.tablets) where
  each_below : AllByRecursion (IsBelow state.next_name) state.tablets
  each_below = each_of (IsBelow state.next_name) state.tablets (λ j t e.
      let found = each_placed (λ p. (u : Tablet) × ((tablet_numbered p.tablet state.tablets ≡ Some u) × IsBelow state.next_name u)) state.tablets state.places sound.table loaded.as_many (below_all state.next_name state.tablets None state.places loaded.placed sound.naming.files) j t e in
      let same : found.1.0.0 ≡ t = same_Some found.1.0.0 t (sym found.1.0.1.0 ∙ ap (λ (n : ℕ). tablet_numbered n state.tablets) found.1.1 ∙ e) in
      subst (IsBelow state.next_name) same found.1.0.1.1)

  pub holds_of : state.merge ≡ None → (told : Option Contents) → contents state.files ≡ told → IfSome told (λ m. AllByRecursion (HoldsAt m) state.tablets) → IfSome told (λ _. Holds contents state)
  holds_of none None e each = tt
  holds_of none (Some m) e each = (
    record { contents = m; on_disk = e; each_open = each; each_below = each_below },
    subst (λ (merge : Option MergeState). HoldsMerge (contents state.files) state.file_limit state.next_name merge) (sym none) tt,
  )

  pub store_of : (told : Option Contents) (lengths : List ℕ) → IfSome told (λ m. FindsRoot (get m root_name) (Some (root_at top floor state, lengths))) → IfSome told (λ m. AreMeasured m (file_names state.places) lengths) → IfSome told (λ m. AllByRecursion (HoldsAt m) state.tablets) → IfSome told (λ m. IsStore m (get m root_name) top floor state)
  store_of None lengths finds measured each = tt
  store_of (Some m) lengths finds measured each = go (get m root_name) finds
    where
      go : (found : Option (List ℕ)) → FindsRoot found (Some (root_at top floor state, lengths)) → IsStore m found top floor state
      go None finds = absurd finds
      go (Some image) finds = record { form = record { lengths = lengths; measured = finds }; measured = measured; opened = record { placed = loaded.placed; as_many = loaded.as_many; emptied = loaded.emptied; each_open = each } }

-- ---- files that keep cells

module _ {F : Type 0} (contents : F → Option Contents) (one : OneRoot) (measure : OneMeasure) (law : SameCells) where
  pub reopens : (told : Option Contents) (top floor : ℕ) (state : ClusterState F) → contents state.files ≡ told → IfSome told (λ m. IsStore m (get m root_name) top floor state) → IfSome told (λ _. Holds contents state)
      → (m : Contents) (root : RootView) (cells : Cells) → told ≡ Some m → KeepsCells m root cells → Reopens contents root cells top floor state
  reopens None top floor state told is holds m root cells e keeps = cc
  reopens (Some n) top floor state told is holds m root cells e keeps =
      go (subst (λ (found : Option (List ℕ)). IsStore m found top floor state) keeps.there (subst (λ (k : Contents). IsStore k (get k root_name) top floor state) n_m is))
    where
      n_m : n ≡ m
      n_m = same_Some n m e

      ends : state.next_name ≡ root.next_name → root.next_name ≤ state.next_name
      ends e = omega arith

      go : IsStore m (Some keeps.image) top floor state → Reopens contents root cells top floor state
      go opened =
          let same : root_at top floor state ≡ root = one (root_at top floor state) root keeps.image opened.form keeps.form in
          record {
            tells = same;
            holds = holds;
            shows = ap (λ (o : Option Contents). cells_in o state.tablets) (told ∙ e)
                ∙ same_shown law m state.tablets keeps.tablets root.places keeps.form.measured.form.sound.table (subst (λ (r : RootView). AreOpened m r.places state.tablets) same opened.opened) keeps.opened ∙ keeps.shows;
            emptied = opened.opened.emptied;
            keeps = record {
              has = record { kept = m; on_disk = told ∙ e; keeps = keeps; below = ends (ap (λ r. r.next_name) same) };
              lists = same_lists root.places state.places (ap (λ r. r.places) same);
            };
          }

  -- files that keep cells are not damaged
  pub not_damaged : FilesAreThere → (told : Option Contents) (P : Type 0) → (P → IfSome told (λ m. IsDamaged m)) → (m : Contents) (root : RootView) (cells : Cells) → told ≡ Some m → KeepsCells m root cells → ¬ P
  not_damaged there None P damaged m root cells e keeps p = cc
  not_damaged there (Some n) P damaged m root cells e keeps p = kept_whole one measure there m root cells keeps (subst IsDamaged (same_Some n m e) (damaged p))

  -- ---- a cluster that is opened

  module _ (there : FilesAreThere) (first mid last : F) (read : contents mid ≡ contents first) (loads : contents last ≡ contents mid) (top floor limit next : ℕ) (places : List PlaceView) (tablets : List Tablet) where
    abbrev view : RootView
    view = record { top = top; floor = floor; next_name = next; places = places }

    abbrev state : ClusterState F
    state = record { files = last; file_limit = limit; next_name = next; places = places; tablets = tablets; merge = None }

    module _ (sound : IsSoundRoot view) (loaded : AreLoaded places tablets) (lengths : List ℕ) (finds : IfSome (contents first) (λ m. FindsRoot (get m root_name) (Some (view, lengths)))) (measured : IfSome (contents mid) (λ m. AreMeasured m (file_names places) lengths)) (each : IfSome (contents mid) (λ m. AllByRecursion (HoldsAt m) tablets)) where
      each_first : IfSome (contents first) (λ m. AllByRecursion (HoldsAt m) tablets)
      each_first = subst (λ (told : Option Contents). IfSome told (λ m. AllByRecursion (HoldsAt m) tablets)) read each

      measured_first : IfSome (contents first) (λ m. AreMeasured m (file_names places) lengths)
      measured_first = subst (λ (told : Option Contents). IfSome told (λ m. AreMeasured m (file_names places) lengths)) read measured

      pub opened_store : IfSome (contents first) (λ m. IsStore m (get m root_name) top floor state)
      opened_store = store_of contents top floor state sound loaded (contents first) lengths finds measured_first each_first

      pub opened_holds : IfSome (contents first) (λ _. Holds contents state)
      opened_holds = holds_of contents top floor state sound loaded refl (contents first) (loads ∙ read) each_first

      pub opened_whole : IfSome (contents first) (λ m. ¬ IsDamaged m)
      opened_whole = stores_whole one measure there (contents first) top floor state opened_store

      pub opened_kept : (m : Contents) (root : RootView) (cells : Cells) → contents first ≡ Some m → KeepsCells m root cells → Reopens contents root cells top floor state
      opened_kept = reopens (contents first) top floor state (loads ∙ read) opened_store opened_holds
