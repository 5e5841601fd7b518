-- Clusters after edits of several rows.
use Rattle.std.proofs.Common.{◌≡◌, ◌≢◌, ◌⊎◌, inl, inr, ℕ, zero, suc, Bool, true, false, cond, List, [], ◌∷◌, ◌++◌, map, filter, length, Option, Some, None, Result, Ok, Err, OnOk, OnErr, slice_get, refl, sym, ap, ◌∙◌, subst}
use Rattle.std.proofs.lemmas.Option.{same_Some, slice_get-map}
use Rattle.std.proofs.lemmas.List.{length-map}
use Rattle.std.specs.Prelude.{Contains, IsSomeAnd, option_map}
use Rattle.std.specs.FinMap.{get, same_map, empty}
use Rattle.std.specs.List.{AllByRecursion}
use Rattle.cell_key.specs.Cells.{Cells, after_edit, after_edits, edited_key}
use Rattle.cell_key.specs.Keys.{key_cmp_total}
use Rattle.cell_key.specs.declared.edits.Edit.{Edit}
use Rattle.cell_key.specs.declared.keys.CellKey.{CellKey}
use Rattle.cell_key.specs.declared.refusals.Refusal.{Refusal}
use Rattle.cell_key.proofs.KeyLaws.{exact_keys}
use Rattle.file_store.specs.Store.{Contents}
use Rattle.memtable.specs.Edits.{HasStoredKey, IsLimited, IsWithinLimits, with_edits}
use Rattle.metadata_table.specs.Places.{PlaceView}
use Rattle.metadata_table.specs.Table.{IsHolder, IsTable}
use Rattle.rows.specs.Calls.{AppliesAll, OnlyReads}
use Rattle.rows.specs.Room.{OverfillsOne}
use Rattle.rows.specs.RowEdits.{AreOfTheirRow, all_edits}
use Rattle.rows.specs.declared.row_edits.RowEdits.{RowEdits}
use Rattle.tablet.specs.Laws.{EditsShow}
use Rattle.tablet.specs.Ranges.{has_row}
use Rattle.tablet.specs.Views.{Holds, IsBelow, cells_at, memory_of, range_of, with_memory}
use Rattle.tablet.specs.declared.ranges.RowRange.{RowRange}
use Rattle.tablet.specs.declared.tablet.Tablet.{Tablet}
use Rattle.row_atomic.specs.Clusters.{ArePlaced, ClusterState, InOrder, IsMatched, IsReadable, Overfills, cells_in, edits_in, tablet_numbered}
use Rattle.row_atomic.specs.ManyRows.{OverfillsOwner, with_changes}
use Rattle.row_atomic.specs.Seen.{seen_of}
use Rattle.rows.proofs.Calls.{reads_none}
use Rattle.row_atomic.proofs.CompactionRoom.{with_both}
use Rattle.row_atomic.proofs.Joined.{edits_agree, edits_elsewhere}
use Rattle.row_atomic.proofs.ManyRows.{all_limited, each_kept, in_both, none_kept}
use Rattle.row_atomic.proofs.Owners.{OwnsRow, holder_owns, index_of}
use Rattle.row_atomic.proofs.Parts.{IsNumbered, at_parts, has_holder, is_owner}
use Rattle.row_atomic.proofs.PlacedTablets.{is_placed}
use Rattle.row_atomic.proofs.Readable.{over_any}
use Rattle.row_atomic.proofs.Shares.{cells_of_row}

clash : (b : Bool) → b ≡ true → b ≡ false → ⊥
clash b e h = cc

-- ---- filtered edits

each_passes : (p : Edit → Bool) (xs : List Edit) → AllByRecursion (λ x. p x ≡ true) (filter p xs)
each_passes p [] = tt
each_passes p (x ∷ xs) = go (each_passes p xs) (p x) refl
  where
    go : AllByRecursion (λ y. p y ≡ true) (filter p xs) → (b : Bool) → p x ≡ b → AllByRecursion (λ y. p y ≡ true) (cond b (x ∷ filter p xs) (filter p xs))
    go rest true e = (e, rest)
    go rest false e = rest

-- for a key of a range only the edits in the range count
kept_agree : (c d : Cells) (range : RowRange) (edits : List Edit) (q : CellKey) → AllByRecursion IsLimited edits → has_row range q.row ≡ true → get c q ≡ get d q → get (after_edits c (edits_in range edits)) q ≡ get (after_edits d edits) q
kept_agree c d range [] q limited has h = h
kept_agree c d range (e ∷ es) q limited has h = go (λ a b. kept_agree a b range es q limited.1 has) (has_row range (edited_key e).row) refl
  where
    other : has_row range (edited_key e).row ≡ false → q.row ≢ (edited_key e).row
    other lacks same = clash (has_row range q.row) has (ap (λ (row : List ℕ). has_row range row) same ∙ lacks)

    go : ((a b : Cells) → get a q ≡ get b q → get (after_edits a (edits_in range es)) q ≡ get (after_edits b es) q) → (b : Bool) → has_row range (edited_key e).row ≡ b → get (after_edits c (cond b (e ∷ edits_in range es) (edits_in range es))) q ≡ get (after_edits (after_edit d e) es) q
    go rest true is = rest (after_edit c e) (after_edit d e) (edits_agree c d (e ∷ []) q h)
    go rest false is = rest c (after_edit d e) (h ∙ sym (edits_elsewhere (edited_key e).row d (e ∷ []) q (limited.0, tt) (other is)))

-- ---- each tablet is mapped

module _ (f : Tablet → Tablet) where
  record IsFrom (o : Option Tablet) (v : Tablet) : Type 0 where
    tablet : Tablet
    there : o ≡ Some tablet
    is : v ≡ f tablet

  from_map : (ts : List Tablet) (j : ℕ) (v : Tablet) → slice_get (map f ts) j ≡ Some v → IsFrom (slice_get ts j) v
  from_map [] j v e = cc
  from_map (t ∷ ts) zero v e = record { tablet = t; there = refl; is = sym (same_Some (f t) v e) }
  from_map (t ∷ ts) (suc j) v e = from_map ts j v e

  from_number : (ts : List Tablet) (n : ℕ) (v : Tablet) → tablet_numbered n (map f ts) ≡ Some v → IsFrom (tablet_numbered n ts) v
  from_number ts zero v e = cc
  from_number ts (suc j) v e = from_map ts j v e

  to_map : (ts : List Tablet) (j : ℕ) (t : Tablet) → slice_get ts j ≡ Some t → slice_get (map f ts) j ≡ Some (f t)
  to_map ts j t e = slice_get-map f ts j ∙ ap (option_map f) e

  to_number : (ts : List Tablet) (n : ℕ) (t : Tablet) → tablet_numbered n ts ≡ Some t → tablet_numbered n (map f ts) ≡ Some (f t)
  to_number ts zero t e = cc
  to_number ts (suc j) t e = to_map ts j t e

  each_mapped : (P : Tablet → Type 0) → ((t : Tablet) → P t → P (f t)) → (ts : List Tablet) → AllByRecursion P ts → AllByRecursion P (map f ts)
  each_mapped P so [] all = tt
  each_mapped P so (t ∷ ts) all = (so t all.0, each_mapped P so ts all.1)

-- ---- the tablet of a row

record HolderOf (places : List PlaceView) (ts : List Tablet) (row : List ℕ) : Type 0 where
  place : PlaceView
  holder : IsHolder row places place
  tablet : Tablet
  numbered : tablet_numbered place.tablet ts ≡ Some tablet
  owns : OwnsRow ts row (index_of place.tablet) tablet

module _ (places : List PlaceView) (ts : List Tablet) (table : IsTable places) (placed : ArePlaced ts None places) (as_many : length ts ≡ length places) where
  holder_of : (row : List ℕ) → HolderOf places ts row
  holder_of row =
      let one = has_holder row places table.rising in
      let all : AllByRecursion (λ p. IsNumbered ts p.tablet) places = is_placed (λ p. IsNumbered ts p.tablet) ts (λ before p h. record { tablet = h.tablet; numbered = h.numbered }) None places placed in
      let numbered = at_parts (λ p. IsNumbered ts p.tablet) one.holder.before one.place one.holder.after (subst (λ (ps : List PlaceView). AllByRecursion (λ p. IsNumbered ts p.tablet) ps) one.holder.parts all) in
      record {
        place = one.place;
        holder = one.holder;
        tablet = numbered.tablet;
        numbered = numbered.numbered;
        owns = holder_owns ts places row one.place numbered.tablet table placed as_many one.holder numbered.numbered;
      }

  -- a tablet that has a row is the one that holds it
  the_holder : (row : List ℕ) (k : ℕ) (v : Tablet) → slice_get ts k ≡ Some v → has_row (range_of v) row ≡ true → (h : HolderOf places ts row) → h.tablet ≡ v
  the_holder row k v there has h =
      let index = is_owner ts row (index_of h.place.tablet) h.tablet h.owns k v there has in
      same_Some h.tablet v (sym h.owns.there ∙ ap (slice_get ts) (sym index) ∙ there)

  -- either none of the edits are in a tablet's range, or its files are open
  touched : (o : Option Contents) (k : ℕ) (v : Tablet) → slice_get ts k ≡ Some v → (cs : List RowEdits) → AllByRecursion AreOfTheirRow cs → AllByRecursion (λ c. IsReadable o places ts c.row) cs → (edits_in (range_of v) (all_edits cs) ≡ []) ⊎ IsSomeAnd o (λ m. Holds m v)
  touched o k v there [] own readable = inl refl
  touched o k v there (c ∷ cs) own readable = go (touched o k v there cs own.1 readable.1) (has_row (range_of v) c.row) refl
    where
      go : (edits_in (range_of v) (all_edits cs) ≡ []) ⊎ IsSomeAnd o (λ m. Holds m v) → (b : Bool) → has_row (range_of v) c.row ≡ b → (edits_in (range_of v) (c.edits.items ++ all_edits cs) ≡ []) ⊎ IsSomeAnd o (λ m. Holds m v)
      go rest true e =
          let h = holder_of c.row in
          inr (subst (λ (t : Tablet). IsSomeAnd o (λ m. Holds m t)) (the_holder c.row k v there e h) (readable.0 h.place h.tablet h.holder h.numbered))
      go rest false e = elim rest [
        | inl none ↦ inl (in_both (range_of v) c.edits.items (all_edits cs) ∙ ap (λ es. es ++ edits_in (range_of v) (all_edits cs)) (none_kept (range_of v) c.row c.edits.items e own.0) ∙ none)
        | inr held ↦ inr held
      ]

  none_read : (cs : List RowEdits) → AllByRecursion (λ c. IsReadable None places ts c.row) cs → empty ≡ after_edits empty (all_edits cs)
  none_read [] readable = refl
  none_read (c ∷ cs) readable = let h = holder_of c.row in absurd (readable.0 h.place h.tablet h.holder h.numbered)

  -- a tablet of these would exceed a limit
  pub owner_over : (changes : List RowEdits) → (full : OverfillsOwner changes ts) → Overfills places ts full.change.row (all_edits changes)
  owner_over changes full =
      let h = holder_of full.change.row in
      record {
        place = h.place;
        holder = h.holder;
        tablet = h.tablet;
        numbered = h.numbered;
        over = subst (λ (t : Tablet). ¬ IsWithinLimits (memory_of (with_changes changes t))) (sym (the_holder full.change.row full.index full.tablet full.there full.has h)) full.over;
      }

  pub over_owner : (changes : List RowEdits) (c : RowEdits) → Contains changes c → Overfills places ts c.row (all_edits changes) → OverfillsOwner changes ts
  over_owner changes c among full =
      let owns = holder_owns ts places c.row full.place full.tablet table placed as_many full.holder full.numbered in
      record { change = c; among = among; index = index_of full.place.tablet; tablet = full.tablet; there = owns.there; has = owns.has; over = full.over }

-- ---- a cluster after the edits

module _ (changes : List RowEdits) where
  abbrev edited : Tablet → Tablet
  edited = with_changes changes

  pub placed_map : (ts : List Tablet) (before : Option (List ℕ)) (ps : List PlaceView) → ArePlaced ts before ps → ArePlaced (map edited ts) before ps
  placed_map ts before [] placed = tt
  placed_map ts before (p ∷ ps) placed = (
    record { tablet = edited placed.0.tablet; numbered = to_number edited ts p.tablet placed.0.tablet placed.0.numbered; range = placed.0.range; names = placed.0.names },
    placed_map ts p.end ps placed.1,
  )

  pub matched_map : (limit next : ℕ) (places : List PlaceView) (ts : List Tablet) → IsMatched limit next places ts → IsMatched limit next places (map edited ts)
  matched_map limit next places ts matched = record {
    limit = matched.limit;
    named_from = matched.named_from;
    named_to = matched.named_to;
    placed = placed_map ts None places matched.placed;
    as_many = length-map ts edited ∙ matched.as_many;
    files = matched.files;
  }

  owns_map : (ts : List Tablet) (row : List ℕ) (k : ℕ) (v : Tablet) → OwnsRow ts row k v → OwnsRow (map edited ts) row k (edited v)
  owns_map ts row k v owns = record {
    there = to_map edited ts k v owns.there;
    has = owns.has;
    others = λ j u other there.
        let from = from_map edited ts j u there in
        ap (λ (t : Tablet). has_row (range_of t) row) from.is ∙ owns.others j from.tablet other from.there;
  }

  -- only the room of the edits is used
  pub room_map : (places : List PlaceView) (ts : List Tablet) (row : List ℕ) (later : List Edit) → Overfills places (map edited ts) row later → Overfills places ts row (all_edits changes ++ later)
  room_map places ts row later full =
      let from = from_number edited ts full.place.tablet full.tablet full.numbered in
      let t = from.tablet in
      let same : with_edits (memory_of full.tablet) (edits_in (range_of full.tablet) later) ≡ with_edits (memory_of t) (edits_in (range_of t) (all_edits changes ++ later)) =
      ap (λ (u : Tablet). with_edits (memory_of u) (edits_in (range_of u) later)) from.is
      ∙ with_both (memory_of t) (edits_in (range_of t) (all_edits changes)) (edits_in (range_of t) later)
      ∙ ap (λ (es : List Edit). with_edits (memory_of t) es) (sym (in_both (range_of t) (all_edits changes) later)) in
      record {
        place = full.place;
        holder = full.holder;
        tablet = t;
        numbered = from.there;
        over = λ within. full.over (subst (λ es. IsWithinLimits es) (sym same) within);
      }

  module _ (own : AllByRecursion AreOfTheirRow changes) (keys : AllByRecursion HasStoredKey (all_edits changes)) (law : EditsShow) where
    shows : (m : Contents) (t : Tablet) → Holds m t → Holds m (edited t) × (cells_at m (edited t) ≡ after_edits (cells_at m t) (edits_in (range_of t) (all_edits changes)))
    shows m t held =
        law m t (edits_in (range_of t) (all_edits changes)) held
        (each_kept IsLimited _ (all_edits changes) (all_limited changes own))
        (each_kept HasStoredKey _ (all_edits changes) keys)
        (each_passes (λ edit. has_row (range_of t) (edited_key edit).row) (all_edits changes))

    order_map : (o : Option Contents) (next : ℕ) (ts : List Tablet) → InOrder o next ts → InOrder o next (map edited ts)
    order_map o next ts order = record {
      contents = order.contents;
      on_disk = order.on_disk;
      each_open = each_mapped edited (Holds order.contents) (λ t held. (shows order.contents t held).0) ts order.each_open;
      each_below = each_mapped edited (IsBelow next) (λ t below. below) ts order.each_below;
    }

    readable_map : (o : Option Contents) (places : List PlaceView) (ts : List Tablet) (row : List ℕ) → IsReadable o places ts row → IsReadable o places (map edited ts) row
    readable_map o places ts row whole p v holder numbered =
        let from = from_number edited ts p.tablet v numbered in
        subst (λ (u : Tablet). IsSomeAnd o (λ m. Holds m u)) (sym from.is) (over_any o from.tablet (edited from.tablet) (λ m held. (shows m from.tablet held).0) (whole p from.tablet holder from.there))

    module _ (places : List PlaceView) (ts : List Tablet) (table : IsTable places) (placed : ArePlaced ts None places) (as_many : length ts ≡ length places) where
      made_there : (m : Contents) → AllByRecursion (λ c. IsReadable (Some m) places ts c.row) changes → cells_in (Some m) (map edited ts) ≡ after_edits (cells_in (Some m) ts) (all_edits changes)
      made_there m readable = same_map key_cmp_total exact_keys (cells_in (Some m) (map edited ts)) (after_edits (cells_in (Some m) ts) (all_edits changes)) at_key
        where
          at_tablet : (v : Tablet) (q : CellKey) → (edits_in (range_of v) (all_edits changes) ≡ []) ⊎ Holds m v → get (cells_at m (edited v)) q ≡ get (after_edits (cells_at m v) (edits_in (range_of v) (all_edits changes))) q
          at_tablet v q (inl none) =
              ap (λ (es : List Edit). get (cells_at m (with_memory v (with_edits (memory_of v) es))) q) none
              ∙ sym (ap (λ (es : List Edit). get (after_edits (cells_at m v) es) q) none)
          at_tablet v q (inr held) = ap (λ (c : Cells). get c q) (shows m v held).1

          at_key : (q : CellKey) → get (cells_in (Some m) (map edited ts)) q ≡ get (after_edits (cells_in (Some m) ts) (all_edits changes)) q
          at_key q =
              let h = holder_of places ts table placed as_many q.row in
              let k = index_of h.place.tablet in
              cells_of_row m (map edited ts) q.row k (edited h.tablet) (owns_map ts q.row k h.tablet h.owns) q refl
              ∙ at_tablet h.tablet q (touched places ts table placed as_many (Some m) k h.tablet h.owns.there changes own readable)
              ∙ kept_agree (cells_at m h.tablet) (cells_in (Some m) ts) (range_of h.tablet) (all_edits changes) q (all_limited changes own) h.owns.has (sym (cells_of_row m ts q.row k h.tablet h.owns q refl))

      made_map : (o : Option Contents) → AllByRecursion (λ c. IsReadable o places ts c.row) changes → cells_in o (map edited ts) ≡ after_edits (cells_in o ts) (all_edits changes)
      made_map None readable = none_read places ts table placed as_many changes readable
      made_map (Some m) readable = made_there m readable

    pub applied_all : {F : Type 0} (contents : F → Option Contents) (state : ClusterState F) → IsTable state.places → ArePlaced state.tablets None state.places → length state.tablets ≡ length state.places → AppliesAll (seen_of contents) changes state (record state { tablets = map edited state.tablets })
    applied_all contents state table placed as_many = record {
      still = λ held. (order_map (contents state.files) state.next_name state.tablets held.0, held.1);
      readable = λ row whole. readable_map (contents state.files) state.places state.tablets row whole;
      made = made_map state.places state.tablets table placed as_many (contents state.files);
      room = λ row later full. inr (room_map state.places state.tablets row later full);
      stays = refl;
    }

-- ---- the answers of a cluster

-- the tablets by other names
pub made_so : {A : Type 0} (r : Result A Refusal) (changes : List RowEdits) (us vs ts ds : List Tablet) → us ≡ vs → ds ≡ ts → OnOk r (vs ≡ map (with_changes changes) ds) → OnOk r (us ≡ map (with_changes changes) ts)
made_so (Ok x) changes us vs ts ds after before made = after ∙ made ∙ ap (λ (xs : List Tablet). map (with_changes changes) xs) before
made_so (Err e) changes us vs ts ds after before made = tt

pub same_so : {A : Type 0} (r : Result A Refusal) (us vs ts ds : List Tablet) → us ≡ vs → ds ≡ ts → OnErr r (vs ≡ ds) → OnErr r (us ≡ ts)
same_so (Ok x) us vs ts ds after before same = tt
same_so (Err e) us vs ts ds after before same = after ∙ same ∙ before

pub matched_either : {A : Type 0} (r : Result A Refusal) (changes : List RowEdits) (limit next : ℕ) (places : List PlaceView) (ts us : List Tablet) → OnOk r (us ≡ map (with_changes changes) ts) → OnErr r (us ≡ ts) → IsMatched limit next places ts → IsMatched limit next places us
matched_either (Ok x) changes limit next places ts us made same matched = subst (λ (vs : List Tablet). IsMatched limit next places vs) (sym made) (matched_map changes limit next places ts matched)
matched_either (Err e) changes limit next places ts us made same matched = subst (λ (vs : List Tablet). IsMatched limit next places vs) (sym same) matched

module _ {F : Type 0} (contents : F → Option Contents) (state : ClusterState F) (changes : List RowEdits) (table : IsTable state.places) (placed : ArePlaced state.tablets None state.places) (as_many : length state.tablets ≡ length state.places) where
  pub made_answer : {A : Type 0} (r : Result A Refusal) (us : List Tablet) → AllByRecursion AreOfTheirRow changes → EditsShow → OnOk r (us ≡ map (with_changes changes) state.tablets) → OnOk r (AllByRecursion HasStoredKey (all_edits changes)) → OnOk r (AppliesAll (seen_of contents) changes state (record state { tablets = us }))
  made_answer (Ok x) us own law made keys =
      subst (λ (ts : List Tablet). AppliesAll (seen_of contents) changes state (record state { tablets = ts })) (sym made) (applied_all changes own keys law contents state table placed as_many)
  made_answer (Err e) us own law made keys = tt

  pub same_answer : {A : Type 0} (r : Result A Refusal) (us : List Tablet) → OnErr r (us ≡ state.tablets) → OnErr r (OnlyReads (seen_of contents) state (record state { tablets = us }))
  same_answer (Ok x) us same = tt
  same_answer (Err e) us same = subst (λ (ts : List Tablet). OnlyReads (seen_of contents) state (record state { tablets = ts })) (sym same) reads_none

  pub full_answer : OverfillsOwner changes state.tablets → OverfillsOne (seen_of contents).overfills changes state
  full_answer full = record { change = full.change; among = full.among; over = owner_over state.places state.tablets table placed as_many changes full }

  pub within_answer : {A : Type 0} (r : Result A Refusal) → OnOk r (¬ OverfillsOwner changes state.tablets) → OnOk r (¬ OverfillsOne (seen_of contents).overfills changes state)
  within_answer (Ok x) none = λ full. none (over_owner state.places state.tablets table placed as_many changes full.change full.among full.over)
  within_answer (Err e) none = tt
