-- The next cells of a cluster come from one tablet after the other.
use Rattle.std.proofs.Common.{◌≡◌, ◌<◌, ◌+◌, ◌-◌, ℕ, zero, add-one, slice_index_or, Bool, true, false, List, [], ◌∷◌, ◌++◌, length, drop, suc, inl, inr, Option, Some, None, refl, sym, ap, ◌∙◌, subst, arith, ◌&&◌}
use Rattle.std.specs.List.{AllByRecursion, Contains}
use Rattle.std.specs.Prelude.{IfSome}
use Rattle.std.proofs.lemmas.List.{length-append}
use Rattle.std.proofs.lemmas.List.Elements.{Contains-append_left, Contains-append_right}
use Rattle.std.specs.Ordering.{is_lt, ordering_reverse, ordering_then}
use Rattle.std.specs.declared.cmp.Ordering.{Ordering}
use Rattle.std.specs.declared.cmp.Ordering.TheVariants.{Less, Equal, Greater}
use Rattle.std.specs.Cmp.Lexicographic.{nat_list_cmp_total}
use Rattle.cell_key.specs.Cells.{Cells}
use Rattle.cell_key.specs.Keys.{byte_cmp}
use Rattle.cell_key.specs.Places.{AreNextCells, HasCell, IsAfter, IsNextCell, Place, last_or, place_cmp}
use Rattle.file_store.specs.Store.{Contents}
use Rattle.tablet.specs.Ranges.{has_row, is_after, is_up_to}
use Rattle.tablet.specs.declared.ranges.RowRange.{RowRange}
use Rattle.tablet.specs.declared.tablet.Tablet.{Tablet}
use Rattle.metadata_table.specs.Places.{PlaceView, view_of, views}
use Rattle.metadata_table.specs.Table.{IsTable}
use Rattle.metadata_table.specs.declared.places.Place.{Place as Spot}
use Rattle.tablet.specs.Views.{Holds, cells_at, range_of}
use Rattle.row_atomic.specs.Changes.{HasNoMore, Passes}
use Rattle.row_atomic.specs.Clusters.{ArePlaced, cells_in, tablet_numbered}
use Rattle.rows.proofs.NextLists.{last_more, next_append, next_ended}
use Rattle.row_atomic.proofs.Nexts.{NoneAfter, begin_past, found_next, in_range}
use Rattle.row_atomic.proofs.Owners.{BeginsPast, OfTablet, index_of, numbered_at}
use Rattle.row_atomic.proofs.Shares.{each_map}
use Rattle.rows.proofs.Places.{exact_places, place_cmp_total}

pub after_after : (start : Option Place) (p q : Place) → IsAfter start p → IsAfter (Some p) q → IsAfter start q
after_after None p q h k = tt
after_after (Some start) p q h k = place_cmp_total.trans start p q h k

module _ (cells : Cells) where
  -- places after the last next cell are after the start
  pub behind_last : (most : ℕ) (start : Option Place) (places : List Place) → AreNextCells cells start most places → (place : Place) → IsAfter (last_or start places) place → IsAfter start place
  behind_last most start [] some place behind = behind
  behind_last most start (p ∷ places) some place behind = after_after start p place some.1.0 (behind_last (most - 1) (Some p) places some.2 place behind)

  -- next cells after a place are also those after any later place up to which there is no cell
  pub begin_later : (start later : Option Place) → ((place : Place) → IsAfter later place → IsAfter start place) → ((place : Place) → HasCell cells place → IsAfter later place) → (most : ℕ) (places : List Place) → AreNextCells cells start most places → AreNextCells cells later most places
  begin_later start later back far most [] some = λ wanted place behind. some wanted place (back place behind)
  begin_later start later back far most (p ∷ places) some = (
    some.0,
    (far p some.1.1, some.1.1, λ place behind less. some.1.2 place (back place behind) less),
    some.2,
  )

  -- if fewer were found, they are all
  pub all_found : (most : ℕ) (start : Option Place) (places : List Place) → AreNextCells cells start most places → length places < most → (place : Place) → IsAfter start place → HasCell cells place → Contains places place
  all_found most start [] some few place behind cell = absurd (some (omega (arith, few)) place behind cell)
  all_found most start (p ∷ places) some few place behind cell = go (λ far. all_found (most - 1) (Some p) places some.2 (omega (arith, few)) place far cell) (place_cmp place p) refl
    where
      go : (IsAfter (Some p) place → Contains places place) → (o : Ordering) → place_cmp place p ≡ o → Contains (p ∷ places) place
      go later Less e = absurd (some.1.2 place behind e cell)
      go later Equal e = (0, omega arith, sym (exact_places place p e))
      go later Greater e =
          let rest = later (place_cmp_total.antisymm p place ∙ ap ordering_reverse e) in
          (suc rest.0, omega (arith, rest.1), rest.2)

module _ (m : Contents) (ts : List Tablet) where
  pub later_none : (cells : Cells) (most : ℕ) (start : Option Place) (places : List Place) → AreNextCells cells start most places → (q : PlaceView) → NoneAfter m ts start q → NoneAfter m ts (last_or start places) q
  later_none cells most start places some q none place behind = none place (behind_last cells most start places some place behind)

-- ---- ranges

less_first : (r s : Ordering) → r ≡ Less → ordering_then r s ≡ Less
less_first Less s e = refl
less_first Equal s e = cc
less_first Greater s e = cc

less_is : (o : Ordering) → is_lt o ≡ true → o ≡ Less
less_is Less e = refl
less_is Equal e = cc
less_is Greater e = cc

below_begin : (low end high : List ℕ) → (byte_cmp end low ≡ Less → ⊥) → byte_cmp end high ≡ Less → byte_cmp low high ≡ Less
below_begin low end high above up = go (byte_cmp end low) refl
  where
    go : (o : Ordering) → byte_cmp end low ≡ o → byte_cmp low high ≡ Less
    go Less e = absurd (above e)
    go Equal e = sym (nat_list_cmp_total.congr end low high e) ∙ up
    go Greater e = nat_list_cmp_total.trans low end high (nat_list_cmp_total.antisymm low end ∙ ap ordering_reverse e) up

first_of : (a b : Bool) → (a && b) ≡ true → a ≡ true
first_of true b e = refl
first_of false b e = cc

-- places in a range that begins past a row are after the places of the row
pub past_row : (low place : Place) (range : RowRange) → BeginsPast low.0 range → has_row range place.0 ≡ true → IsAfter (Some low) place
past_row low place range begins has =
    let after = first_of (is_after range.after place.0) (is_up_to range.end place.0) has in
    let up = less_is _ (subst (λ (o : Option (List ℕ)). is_after o place.0 ≡ true) begins.after after) in
    less_first (byte_cmp low.0 place.0) (byte_cmp low.1 place.1) (below_begin low.0 begins.end place.0 begins.past up)

-- ---- one more tablet

-- the tablets of these places begin past the row of a place, if there is one
abbrev pub BeginBehind : List Tablet → Option Place → List PlaceView → Type 0
BeginBehind ts None rest = Unit {0}
BeginBehind ts (Some place) rest = AllByRecursion (OfTablet ts (BeginsPast place.0)) rest

pub begin_fewer : (ts : List Tablet) (o : Option Place) (p : PlaceView) (rest : List PlaceView) → BeginBehind ts o (p ∷ rest) → BeginBehind ts o rest
begin_fewer ts None p rest h = tt
begin_fewer ts (Some place) p rest h = h.1

-- the places from an index on
pub dropped_at : (places : List Spot) (i : ℕ) (p : Spot) → i < length places → p ≡ slice_index_or places i p → views (drop i places) ≡ view_of p ∷ views (drop (i + 1) places)
dropped_at places i p h e = rw add-one (dropped places i p h ∙ ap (λ (q : Spot). view_of q ∷ views (drop (suc i) places)) (sym e))
  where
    dropped : (places : List Spot) (i : ℕ) (d : Spot) → i < length places → views (drop i places) ≡ view_of (slice_index_or places i d) ∷ views (drop (suc i) places)
    dropped [] i d h = absurd (omega (arith, h))
    dropped (p ∷ places) zero d h = refl
    dropped (p ∷ places) (suc i) d h = dropped places i d (omega (arith, h))

-- the cells that a scan has found when it reaches these places
pub record HasScanned (m : Contents) (ts : List Tablet) (start : Option Place) (most : ℕ) (found : List Place) (before rest : List PlaceView) : Type 0 where
  pub next : AreNextCells (cells_in (Some m) ts) start (length found) found
  pub begins : BeginBehind ts (last_or None found) rest
  pub passed : length found < most → AllByRecursion (NoneAfter m ts (last_or start found)) before

module _ (m : Contents) (ts : List Tablet) (pre : List PlaceView) (p : PlaceView) (post : List PlaceView) (t : Tablet) (table : IsTable (pre ++ p ∷ post)) (as_many : length ts ≡ length (pre ++ p ∷ post)) (placed : ArePlaced ts None (pre ++ p ∷ post)) (numbered : tablet_numbered p.tablet ts ≡ Some t) where
  abbrev whole : Cells
  whole = cells_in (Some m) ts

  passed_on : (start : Option Place) (f : Place) → IsAfter start f → AllByRecursion (NoneAfter m ts start) pre → AllByRecursion (NoneAfter m ts (Some f)) pre
  passed_on start f far passed = each_map (NoneAfter m ts start) (NoneAfter m ts (Some f)) (λ q none place behind. none place (after_after start f place far behind)) pre passed

  -- the tablet's next cells are the cluster's
  pub tablet_next : (most : ℕ) (start : Option Place) (more : List Place) → AllByRecursion (NoneAfter m ts start) pre → AreNextCells (cells_at m t) start most more → AreNextCells whole start (length more) more
  tablet_next most start [] passed next = λ wanted. absurd (omega (arith, wanted))
  tablet_next most start (f ∷ more) passed next =
      let fewer : length more ≡ length (f ∷ more) - 1 = omega arith in (
        omega arith,
        found_next m ts pre p post start f t table as_many placed passed numbered next.1,
        subst (λ n. AreNextCells whole (Some f) n more) fewer (tablet_next (most - 1) (Some f) more (passed_on start f next.1.0 passed) next.2),
      )

  pub tablet_begins : (most : ℕ) (start last : Option Place) (more : List Place) → AllByRecursion (NoneAfter m ts start) pre → AreNextCells (cells_at m t) start most more → BeginBehind ts last post → BeginBehind ts (last_or last more) post
  tablet_begins most start last [] passed next begins = begins
  tablet_begins most start last (f ∷ more) passed next begins =
      tablet_begins (most - 1) (Some f) (Some f) more (passed_on start f next.1.0 passed) next.2
      (begin_past m ts pre p post start f t table as_many placed passed numbered next.1)

  far_behind : (last : Option Place) → BeginBehind ts last (p ∷ post) → (place : Place) → HasCell (cells_at m t) place → IsAfter last place
  far_behind None begins place cell = tt
  far_behind (Some low) begins place cell = past_row low place (range_of t) (begins.0 t numbered) (in_range m ts (index_of p.tablet) t place (numbered_at ts p.tablet t numbered) cell)

  pub goes_on : (start : Option Place) (n k : ℕ) (found more : List Place) → AreNextCells whole start n found → BeginBehind ts (last_or None found) (p ∷ post) → AreNextCells (cells_at m t) start k more → AreNextCells (cells_at m t) (last_or start found) k more
  goes_on start n k [] more some begins next = next
  goes_on start n k (f ∷ found) more some begins next =
      begin_later (cells_at m t) start (last_or (Some f) found) (behind_last whole n start (f ∷ found) some) (far_behind (last_or (Some f) found) begins) k more next

  module _ (start : Option Place) (most : ℕ) (found more : List Place) (wanted : length found < most) (has : HasScanned m ts start most found pre (p ∷ post)) (next : AreNextCells (cells_at m t) start (most - length found) more) where
    then : AreNextCells (cells_at m t) (last_or start found) (most - length found) more
    then = goes_on start (length found) (most - length found) found more has.next has.begins next

    then_whole : AreNextCells whole (last_or start found) (length more) more
    then_whole = tablet_next (most - length found) (last_or start found) more (has.passed wanted) then

    pub asked_next : AreNextCells whole start (length (found ++ more)) (found ++ more)
    asked_next = next_append (IsNextCell whole) (length found) (length more) (length (found ++ more)) start found more refl (length-append found more) has.next then_whole

    pub asked_begins : BeginBehind ts (last_or None (found ++ more)) post
    asked_begins = subst (λ (o : Option Place). BeginBehind ts o post) (sym (last_more None found more)) (tablet_begins (most - length found) (last_or start found) (last_or None found) more (has.passed wanted) then (begin_fewer ts (last_or None found) p post has.begins))

    pub asked_passed : AllByRecursion (NoneAfter m ts (last_or start (found ++ more))) pre
    asked_passed =
        subst (λ (o : Option Place). AllByRecursion (NoneAfter m ts o) pre) (sym (last_more start found more))
        (each_map (NoneAfter m ts (last_or start found)) (NoneAfter m ts (last_or (last_or start found) more)) (λ q none. later_none m ts whole (length more) (last_or start found) more then_whole q none) pre (has.passed wanted))

    pub asked_ended : length (found ++ more) < most → IsNextCell (cells_at m t) (last_or start (found ++ more)) None
    asked_ended few =
        subst (λ (o : Option Place). IsNextCell (cells_at m t) o None) (sym (last_more start found more))
        (next_ended (IsNextCell (cells_at m t)) (most - length found) (last_or start found) more then (omega (arith, few, length-append found more)))

-- ---- passed places

pub passes_more : (disk : Option Contents) (ts : List Tablet) (after : Option Place) (found more : List Place) (q : PlaceView) → Passes disk ts after found q → Passes disk ts after (found ++ more) q
passes_more disk ts after found more q (inl low) = inl low
passes_more disk ts after found more q (inr one) = inr (record { tablet = one.tablet; numbered = one.numbered; such = such disk one.such })
  where
    such : (disk : Option Contents) → HasNoMore disk after found one.tablet → HasNoMore disk after (found ++ more) one.tablet
    such None h = tt
    such (Some m) h = λ held place behind cell. Contains-append_left found more place (h held place behind cell)

pub asked_passes : (disk : Option Contents) (after : Option Place) (found more : List Place) (t : Tablet) (k : ℕ) → IfSome disk (λ m. Holds m t → AreNextCells (cells_at m t) after k more) → length more < k → HasNoMore disk after (found ++ more) t
asked_passes None after found more t k h few = tt
asked_passes (Some m) after found more t k h few = λ held place behind cell. Contains-append_right found more place (all_found (cells_at m t) k after more (h held) few place behind cell)
