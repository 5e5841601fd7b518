-- The next cells of a cluster with their newest versions come from one tablet after the other.
use Rattle.std.proofs.Common.{◌≡◌, ◌+◌, ◌-◌, ℕ, Bool, true, List, [], ◌∷◌, ◌++◌, length, Option, Some, None, Result, Ok, Err, IfErr, IfOk, IsErrOf, refl, sym, ap, ◌∙◌, subst}
use Rattle.std.specs.List.{AllByRecursion}
use Rattle.std.proofs.lemmas.List.{length-append, length-map, map-append}
use Rattle.cell_key.specs.Cells.{Cells}
use Rattle.cell_key.specs.Places.{AreNextCells, IsNextCell, Place, last_or}
use Rattle.cell_key.specs.declared.refusals.Refusal.{Refusal}
use Rattle.cell_key.specs.declared.refusals.Refusal.TheVariants.{Damaged}
use Rattle.file_store.specs.Store.{Contents}
use Rattle.metadata_table.specs.Places.{PlaceView}
use Rattle.metadata_table.specs.Table.{IsTable}
use Rattle.sorted_file.specs.Source as sources
use Rattle.rows.specs.Batches.{AreNextVersions, HasNewest, of_column, place_in, places_in}
use Rattle.tablet.specs.Views.{cells_at}
use Rattle.rows.specs.declared.batches.CellVersions.{CellVersions}
use Rattle.rows.specs.declared.batches.VersionBatch.{VersionBatch}
use Rattle.tablet.specs.declared.tablet.Tablet.{Tablet}
use Rattle.row_atomic.specs.Clusters.{AreOpenFrom, ArePlaced, cells_in, tablet_numbered}
use Rattle.rows.specs.Refusals.{IsRefusalOfRead}
use Rattle.row_atomic.proofs.ManyNexts.{BeginBehind, begin_fewer, behind_last, goes_on, later_none, tablet_begins, tablet_next}
use Rattle.rows.proofs.NextLists.{last_more, next_append}
use Rattle.row_atomic.proofs.Nexts.{NoneAfter, in_range}
use Rattle.row_atomic.proofs.Owners.{index_of, numbered_at}
use Rattle.row_atomic.proofs.Parts.{owns_if_has}
use Rattle.row_atomic.proofs.Readable.{IsFrom, open_from, refused_read, told_from}
use Rattle.row_atomic.proofs.Shares.{each_map, newest_of_row}

-- the cells that a scan for versions has found when it reaches these places
pub record HasFound (m : Contents) (ts : List Tablet) (start : Option Place) (hi : ℕ) (found : List CellVersions) (is_last : Bool) (before rest : List PlaceView) : Type 0 where
  pub next : AreNextCells (cells_in (Some m) ts) start (length found) (places_in found)
  pub newest : AllByRecursion (HasNewest (cells_in (Some m) ts) hi) found
  pub begins : BeginBehind ts (last_or None (places_in found)) rest
  pub passed : is_last ≡ true → AllByRecursion (NoneAfter m ts (last_or start (places_in found))) before

each-join : {A : Type 0} (P : A → Type 0) (xs ys : List A) → AllByRecursion P xs → AllByRecursion P ys → AllByRecursion P (xs ++ ys)
each-join P [] ys p q = q
each-join P (x ∷ xs) ys p q = (p.0, each-join P xs ys p.1 q)

module _ (m : Contents) (ts : List Tablet) (pre : List PlaceView) (p : PlaceView) (post : List PlaceView) (t : Tablet) (table : IsTable (pre ++ p ∷ post)) (as_many : length ts ≡ length (pre ++ p ∷ post)) (placed : ArePlaced ts None (pre ++ p ∷ post)) (numbered : tablet_numbered p.tablet ts ≡ Some t) where
  abbrev whole : Cells
  whole = cells_in (Some m) ts

  -- the newest versions in the tablet are the cluster's
  newest_whole : (hi k : ℕ) (start : Option Place) (cells : List CellVersions) → AreNextCells (cells_at m t) start k (places_in cells) → AllByRecursion (HasNewest (cells_at m t) hi) cells → AllByRecursion (HasNewest whole hi) cells
  newest_whole hi k start [] next all = tt
  newest_whole hi k start (one ∷ cells) next all =
      let there = numbered_at ts p.tablet t numbered in
      let owns = owns_if_has (pre ++ p ∷ post) ts one.row (index_of p.tablet) t table placed as_many there (in_range m ts (index_of p.tablet) t (place_in one) there next.1.1) in (
        λ q. newest_of_row m ts one.row one.family q 0 hi (of_column one q) (index_of p.tablet) t owns (all.0 q),
        newest_whole hi (k - 1) (Some (place_in one)) cells next.2 all.1,
      )

  module _ (start : Option Place) (hi : ℕ) (found : List CellVersions) (more : VersionBatch) (has : HasFound m ts start hi found true pre (p ∷ post)) (next : AreNextVersions (cells_at m t) start hi more) where
    abbrev before : List Place
    before = places_in found

    abbrev after : List Place
    after = places_in more.cells.items

    joined : places_in (found ++ more.cells.items) ≡ before ++ after
    joined = map-append place_in found more.cells.items

    passed : AllByRecursion (NoneAfter m ts (last_or start before)) pre
    passed = has.passed refl

    then : AreNextCells (cells_at m t) (last_or start before) (length more.cells.items) after
    then = goes_on m ts pre p post t table as_many placed numbered start (length found) (length more.cells.items) before after has.next has.begins next.next

    then_whole : AreNextCells whole (last_or start before) (length after) after
    then_whole = tablet_next m ts pre p post t table as_many placed numbered (length more.cells.items) (last_or start before) after passed then

    pub more_next : AreNextCells whole start (length (found ++ more.cells.items)) (places_in (found ++ more.cells.items))
    more_next =
        subst (λ (ps : List Place). AreNextCells whole start (length (found ++ more.cells.items)) ps) (sym joined)
        (next_append (IsNextCell whole) (length found) (length after) (length (found ++ more.cells.items)) start before after (length-map found place_in)
        (length-append found more.cells.items ∙ ap (λ (n : ℕ). length found + n) (sym (length-map more.cells.items place_in))) has.next then_whole)

    pub more_newest : AllByRecursion (HasNewest whole hi) (found ++ more.cells.items)
    more_newest = each-join (HasNewest whole hi) found more.cells.items has.newest (newest_whole hi (length more.cells.items) start more.cells.items next.next next.newest)

    pub more_begins : BeginBehind ts (last_or None (places_in (found ++ more.cells.items))) post
    more_begins =
        subst (λ (ps : List Place). BeginBehind ts (last_or None ps) post) (sym joined)
        (subst (λ (o : Option Place). BeginBehind ts o post) (sym (last_more None before after))
        (tablet_begins m ts pre p post t table as_many placed numbered (length more.cells.items) (last_or start before) (last_or None before) after passed then (begin_fewer ts (last_or None before) p post has.begins)))

    pub more_passed : AllByRecursion (NoneAfter m ts (last_or start (places_in (found ++ more.cells.items)))) pre
    more_passed =
        subst (λ (ps : List Place). AllByRecursion (NoneAfter m ts (last_or start ps)) pre) (sym joined)
        (subst (λ (o : Option Place). AllByRecursion (NoneAfter m ts o) pre) (sym (last_more start before after))
        (each_map (NoneAfter m ts (last_or start before)) (NoneAfter m ts (last_or (last_or start before) after)) (λ q none. later_none m ts whole (length after) (last_or start before) after then_whole q none) pre passed))

    ended : (ps : List Place) → IsNextCell (cells_at m t) (last_or start ps) None → IsNextCell (cells_at m t) (last_or (last_or start before) ps) None
    ended [] none = λ place behind. none place (behind_last whole (length found) start before has.next place behind)
    ended (f ∷ ps) none = none

    pub more_ended : more.is_last ≡ true → IsNextCell (cells_at m t) (last_or start (places_in (found ++ more.cells.items))) None
    more_ended last =
        subst (λ (ps : List Place). IsNextCell (cells_at m t) (last_or start ps) None) (sym joined)
        (subst (λ (o : Option Place). IsNextCell (cells_at m t) o None) (sym (last_more start before after)) (ended after (next.last last)))

-- ---- answers of a cluster

module _ (disk : Option Contents) (places : List PlaceView) (ts : List Tablet) (table : IsTable places) (after : Option Place) (spots : List PlaceView) (us : List Tablet) (same_spots : spots ≡ places) (same : us ≡ ts) (placed : ArePlaced ts None places) where
  open_now : IsFrom disk places ts table after → (m : Contents) → disk ≡ Some m → AreOpenFrom m us after spots
  open_now readable m told =
      subst (λ (ps : List PlaceView). AreOpenFrom m us after ps) (sym same_spots)
      (subst (λ (vs : List Tablet). AreOpenFrom m vs after places) (sym same) (open_from disk places ts table after readable m told))

  pub read_found : IsFrom disk places ts table after → {A : Type 0} (P : Cells → A → Type 0) (r : Result A Refusal) → IfOk r (λ x. (m : Contents) → disk ≡ Some m → AreOpenFrom m us after spots → P (cells_in (Some m) us) x) → IfOk r (λ x. P (cells_in disk ts) x)
  read_found readable P (Err e) h = tt
  read_found readable P (Ok x) h =
      let told = told_from disk places ts table after placed readable in
      subst (λ (o : Option Contents). P (cells_in o ts) x) (sym told.1)
      (subst (λ (vs : List Tablet). P (cells_in (Some told.0) vs) x) same (h told.0 told.1 (open_now readable told.0 told.1)))

  pub read_refused : {A : Type 0} (r : Result A Refusal) → (IsErrOf r Damaged → (m : Contents) → disk ≡ Some m → ¬ AreOpenFrom m us after spots) → IfErr r sources.IsReadRefusal → IfErr r (IsRefusalOfRead (IsFrom disk places ts table after))
  read_refused r closed refusal =
      refused_read (IsFrom disk places ts table after) r
      (λ readable is. let told = told_from disk places ts table after placed readable in closed is told.0 told.1 (open_now readable told.0 told.1)) refusal
