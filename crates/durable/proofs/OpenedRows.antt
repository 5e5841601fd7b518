-- The rows that an opening makes of files and a log's edits.
use Rattle.std.proofs.Common.{◌≡◌, ◌⊎◌, ℕ, Bool, true, false, not, List, [], ◌∷◌, map, Option, None, Some, inl, inr, refl, sym, ap, ◌∙◌, subst}
use Rattle.std.specs.Prelude.{◌↔◌, IfSome, IsTrue, is_some}
use Rattle.std.specs.List.{AllByRecursion}
use Rattle.std.specs.FinMap.{get}
use Rattle.cell_key.specs.Cells.{Cells}
use Rattle.cell_key.specs.declared.edits.Edit.{Edit}
use Rattle.commit_log.specs.Edits.{HoldEdits, IsStoredEdit, LogsEdits}
use Rattle.commit_log.specs.Records.{HasRecord, any_root}
use Rattle.cell_key.specs.declared.refusals.Refusal.{Refusal}
use Rattle.cell_key.specs.declared.refusals.Refusal.TheVariants.{Damaged, MemtableFull, NoMemory}
use Rattle.file_store.specs.Store.{Contents}
use Rattle.metadata_table.specs.Places.{PlaceView}
use Rattle.metadata_table.specs.Roots.{OneRoot, RootView}
use Rattle.row_atomic.specs.Clusters.{ClusterState, Spot, cells_in, spots_of}
use Rattle.row_atomic.specs.Commands.{cells_shown}
use Rattle.row_atomic.specs.Open.{IsDamaged, IsNewStore, IsStore, Reopens}
use Rattle.rows.specs.Refusals.{IsReadRefusal}
use Rattle.row_atomic.specs.Roots.{KeepsCells, root_at, root_name}
use Rattle.row_atomic.specs.declared.recorded.Recorded.{Recorded}
use Rattle.row_atomic.proofs.Fresh.{new_cells as none_in}
use Rattle.durable.specs.Devices.{IsOver}
use Rattle.durable.specs.Recovery.{HasRootFile, LacksBase, NamesTop, OpensNew, no_root, other_root}
use Rattle.server_loop.specs.Opening.{LacksRoot}
use Rattle.durable.specs.Replay.{FollowsLog, ShowsRoot}
use Rattle.server_loop.specs.Server.{machine_place, machine_places}
use Rattle.durable.proofs.Logged.{AsManyEdits, true_not_false}
use Rattle.durable.proofs.OpensLogs.{holds_none}

pub never_full_here : (refusal : Refusal) → (refusal ≡ Damaged) ⊎ (refusal ≡ NoMemory) → refusal ≡ MemtableFull → {A : Type 0} → A
never_full_here refusal which is = elim which [ inl e ↦ let f = sym e ∙ is in cc | inr e ↦ let f = sym e ∙ is in cc ]

pub never_full : (refusal : Refusal) → IsReadRefusal refusal → refusal ≡ MemtableFull → {A : Type 0} → A
never_full refusal read is {A} = absurd (subst IsReadRefusal is read)

-- files with a root aren't new
pub not_new : (told : Option Contents) (is_there : Bool) (m : Contents) (root : RootView) (base : Cells) → IfSome told (λ m. is_there ≡ is_some (get m root_name)) → told ≡ Some m → KeepsCells m root base → not is_there ≡ false
not_new told is_there m root base found disk keeps =
    let at : is_there ≡ is_some (get m root_name) = subst (λ (o : Option Contents). IfSome o (λ m. is_there ≡ is_some (get m root_name))) disk found in
    ap not (at ∙ ap is_some keeps.there)

pub lacks_new : (told : Option Contents) (is_there : Bool) → IfSome told (λ m. is_there ≡ is_some (get m root_name)) → LacksRoot told → not is_there ≡ true
lacks_new None is_there found lacks = absurd lacks
lacks_new (Some m) is_there found lacks = ap not (found ∙ ap is_some lacks)

pub damage_or : (old new : Option Contents) (records : List (List ℕ)) → new ≡ old → IfSome new IsDamaged → IfSome old (λ m. IsDamaged m ⊎ LacksBase m records)
damage_or old new records same is = by old (subst (λ (o : Option Contents). IfSome o IsDamaged) same is)
  where
    by : (old : Option Contents) → IfSome old IsDamaged → IfSome old (λ m. IsDamaged m ⊎ LacksBase m records)
    by None is = tt
    by (Some m) is = inl is

module _ {F : Type 0} (contents : F → Option Contents) where
  pub shows_root : (root : RootView) (base : Cells) (top floor : ℕ) (state : ClusterState F) → Reopens contents root base top floor state → ShowsRoot contents root base state
  shows_root root base top floor state o = record {
    holds = o.holds;
    has = o.keeps.has;
    placed = ap (λ (r : RootView). machine_places r.places) (sym o.tells);
    shows = o.shows;
  }

  pub opens_new : {W : Type 0} (old : ClusterState F) (rows : Recorded F W) (top floor : ℕ) (edits : List Edit) → IsNewStore top floor old → edits ≡ [] → spots_of rows.cluster ≡ spots_of old → FollowsLog contents (root_at 0 0 rows.cluster) (cells_shown contents old) edits rows → OpensNew contents top edits rows
  opens_new old rows top floor edits s no_edits spots follows =
      let none = ap (cells_in (contents old.files)) s.tablet.alone ∙ none_in s.tablet.tablet s.tablet.memory s.tablet.files (contents old.files) in
      record {
        root = root_at 0 0 rows.cluster;
        follows = subst (λ (cells : Cells). FollowsLog contents (root_at 0 0 rows.cluster) cells edits rows) none follows;
        places = ap (λ (spots : List Spot). map machine_place spots) spots ∙ ap (λ (places : List PlaceView). machine_places places) s.places;
        no_top = sym s.no_top;
        none = s.no_top;
        no_edits = no_edits;
      }

-- the log of a store without a root file that isn't of a new one
pub not_of_new : LogsEdits → AsManyEdits → (records : List (List ℕ)) (edits : List Edit) (b : Bool) → HoldEdits records edits → AllByRecursion IsStoredEdit edits → (IsTrue b ↔ (edits ≡ []) × HasRecord records any_root) → b ≡ false → (¬ HoldEdits records []) ⊎ ¬ HasRecord records any_root
not_of_new laws as_many records [] b held stored told is = inr (λ any. true_not_false b (told.1 (refl, any)) is)
not_of_new laws as_many records (e ∷ edits) b held stored told is = inl (λ none. some_edit (holds_none laws as_many records (e ∷ edits) held stored none))
  where
    some_edit : e ∷ edits ≡ [] → ⊥
    some_edit same = cc

-- damage of a store without a root file
pub lacks_root : (disk : Option Contents) (is_there : Bool) (records : List (List ℕ)) → IfSome disk (λ m. is_there ≡ is_some (get m root_name)) → not is_there ≡ true → (¬ HoldEdits records []) ⊎ ¬ HasRecord records any_root → IfSome disk (λ m. IsDamaged m ⊎ LacksBase m records)
lacks_root None is_there records found none why = tt
lacks_root (Some m) is_there records found none why = inr (no_root (none_at (get m root_name) is_there found none) why)
  where
    none_at : (o : Option (List ℕ)) (b : Bool) → b ≡ is_some o → not b ≡ true → o ≡ None
    none_at None b is lacks = refl
    none_at (Some image) b is lacks = cc

-- and of one over whose root the log isn't
pub other_root_there : {F : Type 0} (contents : F → Option Contents) (old now : Option Contents) (is_there : Bool) (records : List (List ℕ)) (top floor : ℕ) (state : ClusterState F) → now ≡ old → IfSome old (λ m. is_there ≡ is_some (get m root_name)) → not is_there ≡ false
    → IfSome now (λ m. IsStore m (get m root_name) top floor state) → ¬ IsOver records (root_at top floor state) → IfSome old (λ m. IsDamaged m ⊎ LacksBase m records)
other_root_there contents None now is_there records top floor state same found there store other = tt
other_root_there contents (Some m) now is_there records top floor state same found there store other =
    inr (at (get m root_name) refl (subst (λ (o : Option Contents). IfSome o (λ m. IsStore m (get m root_name) top floor state)) same store))
  where
    at : (o : Option (List ℕ)) → get m root_name ≡ o → IsStore m o top floor state → LacksBase m records
    at None is s = none_here (found ∙ ap is_some is) there
      where
        none_here : {A : Type 0} → is_there ≡ false → not is_there ≡ false → A
        none_here lacks has = cc
    at (Some image) is s = other_root image (root_at top floor state) is s.form other

-- an opened root with its log has no damage
pub whole_rows : OneRoot → {F : Type 0} (old now : Option Contents) (is_there : Bool) (records : List (List ℕ)) (top floor : ℕ) (state : ClusterState F) → now ≡ old → IfSome old (λ m. is_there ≡ is_some (get m root_name)) → IfSome now (λ m. ¬ IsDamaged m) → IfSome now (λ m. IsStore m (get m root_name) top floor state)
    → (not is_there ≡ true → HoldEdits records [] × HasRecord records any_root) → (not is_there ≡ true) ⊎ IsOver records (root_at top floor state) → IfSome old (λ m. ¬ IsDamaged m × ¬ LacksBase m records)
whole_rows one None now is_there records top floor state same found whole store new over = tt
whole_rows one (Some m) now is_there records top floor state same found whole store new over =
    (subst (λ (o : Option Contents). IfSome o (λ m. ¬ IsDamaged m)) same whole, lacks)
  where
    is_new : (o : Option (List ℕ)) → is_there ≡ is_some o → o ≡ None → not is_there ≡ true
    is_new None is none = ap not is
    is_new (Some image) is none = cc

    not_new_here : (o : Option (List ℕ)) (image : List ℕ) → is_there ≡ is_some o → o ≡ Some image → not is_there ≡ true → ⊥
    not_new_here None image is some none = cc
    not_new_here (Some other) image is some none = let there = ap not is in cc

    opened : IsStore m (get m root_name) top floor state
    opened = subst (λ (o : Option Contents). IfSome o (λ m. IsStore m (get m root_name) top floor state)) same store

    lacks : LacksBase m records → ⊥
    lacks (no_root none why) = let begun = new (is_new (get m root_name) found none) in elim why [ inl held ↦ held begun.0 | inr any ↦ any begun.1 ]
    lacks (other_root image root there is other) = elim over [
      | inl none ↦ not_new_here (get m root_name) image found there none
      | inr is_over ↦ other (subst (IsOver records) (one (root_at top floor state) root image (subst (λ (o : Option (List ℕ)). IsStore m o top floor state) there opened).form is) is_over)
    ]

-- the greatest stamp of the root that was opened
pub names_top : {F : Type 0} (told now : Option Contents) (top floor : ℕ) (state : ClusterState F) → now ≡ told → IfSome now (λ m. IsStore m (get m root_name) top floor state) → IfSome told (λ m. NamesTop (get m root_name) top)
names_top {F} told now top floor state same store = by told (subst (λ (o : Option Contents). IfSome o (λ m. IsStore m (get m root_name) top floor state)) same store)
  where
    at : (m : Contents) (o : Option (List ℕ)) → IsStore m o top floor state → NamesTop o top
    at m None s = s.no_top
    at m (Some image) s = (root_at top floor state, s.form, refl)

    by : (told : Option Contents) → IfSome told (λ m. IsStore m (get m root_name) top floor state) → IfSome told (λ m. NamesTop (get m root_name) top)
    by None s = tt
    by (Some m) s = at m (get m root_name) s

-- files with a root file aren't new
pub rooted_not_new : (told : Option Contents) (is_there : Bool) → IfSome told (λ m. is_there ≡ is_some (get m root_name)) → HasRootFile told → not is_there ≡ false
rooted_not_new None is_there found there = absurd there
rooted_not_new (Some m) is_there found there = at (get m root_name) is_there found there
  where
    at : (o : Option (List ℕ)) (b : Bool) → b ≡ is_some o → (o ≡ None → ⊥) → not b ≡ false
    at None b is some = absurd (some refl)
    at (Some image) b is some = ap not is

-- the log of a new store
pub new_begun : (edits lent : List Edit) (records : List (List ℕ)) (b : Bool) → lent ≡ edits → (IsTrue b ↔ (lent ≡ []) × HasRecord records any_root) → b ≡ true → (edits ≡ []) × HasRecord records any_root
new_begun edits lent records b same told is = let h = told.0 is in (sym same ∙ h.0, h.1)

pub never_new : (b : Bool) → not b ≡ true → b ≡ true → {A : Type 0} → A
never_new true lacks there = cc
never_new false lacks there = cc
