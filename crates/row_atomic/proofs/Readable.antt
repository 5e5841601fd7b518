-- Rows that can be read: after one tablet was replaced, and from a place on.
use Rattle.std.proofs.Common.{◌≡◌, ◌≢◌, ℕ, zero, suc, Bool, true, false, nat_eq, List, [], ◌∷◌, ◌++◌, set, slice_get, Option, Some, None, Result, Ok, Err, IfErr, IfOk, OnOk, IsErrOf, refl, sym, ap, ◌∙◌, subst}
use Rattle.std.specs.Prelude.{IsSomeAnd}
use Rattle.std.specs.List.{AllByRecursion}
use Rattle.std.specs.declared.cmp.Ordering.{Ordering}
use Rattle.std.specs.declared.cmp.Ordering.TheVariants.{Less, Equal, Greater}
use Rattle.std.specs.Ordering.{ordering_reverse, ordering_then}
use Rattle.std.specs.Cmp.{nat_cmp_total, tied_itself}
use Rattle.std.specs.Cmp.Lexicographic.{nat_list_cmp_total}
use borrow.Author.Tests.{eqb-true, eqb-false}
use Rattle.cell_key.specs.Keys.{byte_cmp}
use Rattle.cell_key.specs.Places.{AreNextCells, Place}
use Rattle.cell_key.specs.declared.refusals.Refusal.{Refusal}
use Rattle.cell_key.specs.declared.refusals.Refusal.TheVariants.{Damaged, Device, NoMemory}
use Rattle.file_store.specs.Store.{Contents}
use Rattle.metadata_table.specs.Places.{EndsBefore, IsLower, PlaceView}
use Rattle.metadata_table.specs.Table.{EndsRise, IsHolder, IsTable}
use Rattle.sorted_file.specs.Source as sources
use Rattle.tablet.specs.Views.{Holds, IsSameTablet}
use Rattle.tablet.specs.declared.tablet.Tablet.{Tablet}
use Rattle.rows.specs.Calls.{IsRowFrom}
use Rattle.row_atomic.specs.Changes.{MeetsDamage}
use Rattle.row_atomic.specs.Clusters.{AreOpenFrom, ArePlaced, IsReadable, PrecedesCell, cells_in, tablet_numbered}
use Rattle.rows.specs.Refusals.{IsRefusalOfRead}
use Rattle.row_atomic.proofs.Parts.{IsNumbered, at_parts, has_holder}
use Rattle.row_atomic.proofs.PlacedTablets.{is_placed}
use Rattle.row_atomic.proofs.RowAnswers.{not_damaged}
use Rattle.row_atomic.proofs.Shares.{each_map, set_elsewhere, set_there}

none_some : (t : Tablet) → None ≡ Some t → ⊥
none_some t e = cc

same_one : (o : Option Tablet) (t u : Tablet) → o ≡ Some t → o ≡ Some u → t ≡ u
same_one o t u e h = cc

-- ---- one tablet is replaced

module _ (o : Option Contents) (places : List PlaceView) (ts : List Tablet) (i : ℕ) (t u : Tablet) (there : slice_get ts i ≡ Some t) (stays : IsSomeAnd o (λ m. Holds m t) → IsSomeAnd o (λ m. Holds m u)) where
  -- a row that could be read still can
  pub readable_set : (row : List ℕ) → IsReadable o places ts row → IsReadable o places (set ts i u) row
  readable_set row readable p v holder is = by p.tablet refl
    where
      at : (j : ℕ) → p.tablet ≡ suc j → slice_get (set ts i u) j ≡ Some v → (b : Bool) → nat_eq j i ≡ b → IsSomeAnd o (λ m. Holds m v)
      at j number is true e =
          let same : j ≡ i = eqb-true j i e in
          let that : u ≡ v = same_one (slice_get (set ts i u) i) u v (set_there ts i t u there) (subst (λ (k : ℕ). slice_get (set ts i u) k ≡ Some v) same is) in
          let was : tablet_numbered p.tablet ts ≡ Some t = ap (λ (n : ℕ). tablet_numbered n ts) (number ∙ ap suc same) ∙ there in
          subst (λ (w : Tablet). IsSomeAnd o (λ m. Holds m w)) that (stays (readable p t holder was))
      at j number is false e =
          let was : tablet_numbered p.tablet ts ≡ Some v = ap (λ (n : ℕ). tablet_numbered n ts) number ∙ (sym (set_elsewhere ts i j u (eqb-false j i e)) ∙ is) in
          readable p v holder was

      by : (n : ℕ) → p.tablet ≡ n → IsSomeAnd o (λ m. Holds m v)
      by zero number = absurd (none_some v (subst (λ (n : ℕ). tablet_numbered n (set ts i u) ≡ Some v) number is))
      by (suc j) number = at j number (subst (λ (n : ℕ). tablet_numbered n (set ts i u) ≡ Some v) number is) (nat_eq j i) refl

-- a tablet that was read still holds if it did
pub read_stays : (o : Option Contents) (t u : Tablet) → IsSameTablet o t u → IsSomeAnd o (λ m. Holds m t) → IsSomeAnd o (λ m. Holds m u)
read_stays None t u same held = held
read_stays (Some m) t u same held = same.still held

-- so does a new one that holds over all files over which the old one did
pub over_any : (o : Option Contents) (t u : Tablet) → ((m : Contents) → Holds m t → Holds m u) → IsSomeAnd o (λ m. Holds m t) → IsSomeAnd o (λ m. Holds m u)
over_any None t u stays held = held
over_any (Some m) t u stays held = stays m held

-- rows that could be read still can after edits of a tablet
pub readable_in : (o : Option Contents) (places : List PlaceView) (ts : List Tablet) (i : ℕ) (t u : Tablet) → slice_get ts i ≡ Some t → {A : Type 0} (r : Result A Refusal) → OnOk r ((m : Contents) → Holds m t → Holds m u)
    → OnOk r ((row : List ℕ) → IsReadable o places ts row → IsReadable o places (set ts i u) row)
readable_in o places ts i t u there (Err e) stays = tt
readable_in o places ts i t u there (Ok x) stays = readable_set o places ts i t u there (over_any o t u stays)

-- the cluster's read is refused like the tablet's
pub refused_read : {A : Type 0} (Holds : Type 0) (r : Result A Refusal) → (Holds → ¬ IsErrOf r Damaged) → IfErr r sources.IsReadRefusal → IfErr r (IsRefusalOfRead Holds)
refused_read Holds (Ok x) undamaged h = tt
refused_read Holds (Err Damaged) undamaged h = λ held. undamaged held refl
refused_read Holds (Err Device) undamaged h = tt
refused_read Holds (Err NoMemory) undamaged h = tt
refused_read Holds (Err _) undamaged h = h

-- ---- from a place on

turned : (x y : Ordering) → x ≡ ordering_reverse y → x ≡ Less → y ≡ Less → ⊥
turned x y t e f = cc

less_not : (a b : List ℕ) → byte_cmp a b ≡ Less → byte_cmp b a ≢ Less
less_not a b e f = turned (byte_cmp a b) (byte_cmp b a) (nat_list_cmp_total.antisymm a b) e f

not_self : (a : List ℕ) → byte_cmp a a ≢ Less
not_self a e = less_not a a e e

-- a row followed by one more byte is after it
longer : (a : List ℕ) → byte_cmp a (a ++ 0 ∷ []) ≡ Less
longer [] = refl
longer (x ∷ a) = ap (λ (o : Ordering). ordering_then o (byte_cmp a (a ++ 0 ∷ []))) (tied_itself nat_cmp_total x) ∙ longer a

-- a row after one that is not below another is after the other
past_both : (low d high : List ℕ) → byte_cmp d low ≢ Less → byte_cmp d high ≡ Less → byte_cmp low high ≡ Less
past_both low d high above less = by (byte_cmp low d) refl
  where
    by : (o : Ordering) → byte_cmp low d ≡ o → byte_cmp low high ≡ Less
    by Less e = nat_list_cmp_total.trans low d high e less
    by Equal e = nat_list_cmp_total.congr low d high e ∙ less
    by Greater e = absurd (above (nat_list_cmp_total.antisymm d low ∙ ap ordering_reverse e))

-- a row that is not below `low`, and is after each of these ends
record IsAbove (low : List ℕ) (pre : List PlaceView) : Type 0 where
  row : List ℕ
  from : byte_cmp row low ≢ Less
  past : AllByRecursion (λ q. EndsBefore q.end row) pre

abbrev IsFinite : PlaceView → Type 0
IsFinite q = (end : List ℕ) × (q.end ≡ Some end)

ends_up : (row next : List ℕ) → byte_cmp row next ≡ Less → (end : Option (List ℕ)) → EndsBefore end row → EndsBefore end next
ends_up row next up None h = h
ends_up row next up (Some e) h = nat_list_cmp_total.trans e row next h up

ends_at : (end : Option (List ℕ)) (d row : List ℕ) → end ≡ Some d → byte_cmp d row ≡ Less → EndsBefore end row
ends_at end d row is less = subst (λ (o : Option (List ℕ)). EndsBefore o row) (sym is) less

not_two : (x o : Ordering) → x ≡ o → o ≢ Less → x ≢ Less
not_two x o e other f = other (sym e ∙ f)

above_more : (low d : List ℕ) (q : PlaceView) (pre : List PlaceView) → q.end ≡ Some d → IsAbove low pre → IsAbove low (q ∷ pre)
above_more low d q pre is rest = by (byte_cmp d rest.row) refl
  where
    later : byte_cmp d rest.row ≢ Less → IsAbove low (q ∷ pre)
    later high =
        let next = d ++ 0 ∷ [] in
        let up = past_both rest.row d next high (longer d) in
        record {
          row = next;
          from = λ less. rest.from (nat_list_cmp_total.trans rest.row next low up less);
          past = (
            ends_at q.end d next is (longer d),
            each_map (λ r. EndsBefore r.end rest.row) (λ r. EndsBefore r.end next) (λ r. ends_up rest.row next up r.end) pre rest.past,
          );
        }

    by : (o : Ordering) → byte_cmp d rest.row ≡ o → IsAbove low (q ∷ pre)
    by Less e = record { row = rest.row; from = rest.from; past = (ends_at q.end d rest.row is e, rest.past) }
    by Equal e = later (not_two (byte_cmp d rest.row) Equal e (λ is. cc))
    by Greater e = later (not_two (byte_cmp d rest.row) Greater e (λ is. cc))

above : (low : List ℕ) (pre : List PlaceView) → AllByRecursion IsFinite pre → IsAbove low pre
above low [] finite = record { row = low; from = not_self low; past = tt }
above low (q ∷ pre) finite = above_more low finite.0.0 q pre finite.0.1 (above low pre finite.1)

-- an end below another one is finite
lower_finite : (end other : Option (List ℕ)) → IsLower end other → (e : List ℕ) × (end ≡ Some e)
lower_finite None other low = absurd low
lower_finite (Some e) other low = (e, refl)

each_finite : (pre : List PlaceView) (p : PlaceView) (post : List PlaceView) → EndsRise (pre ++ p ∷ post) → AllByRecursion IsFinite pre
each_finite [] p post rise = tt
each_finite (q ∷ []) p post rise = (lower_finite q.end p.end rise.0, tt)
each_finite (q ∷ r ∷ pre) p post rise = (lower_finite q.end r.end rise.0, each_finite (r ∷ pre) p post rise.1)

lower_ends : (end : Option (List ℕ)) (e : List ℕ) (other : Option (List ℕ)) → other ≡ Some e → IsLower end other → EndsBefore end e
lower_ends end e None is low = cc
lower_ends None e (Some d) is low = absurd low
lower_ends (Some c) e (Some d) is low = let same : d ≡ e = cc in subst (λ (x : List ℕ). byte_cmp c x ≡ Less) same low

lower_through : (end other : Option (List ℕ)) (e : List ℕ) → IsLower end other → EndsBefore other e → EndsBefore end e
lower_through None other e low h = absurd low
lower_through (Some c) None e low h = absurd h
lower_through (Some c) (Some d) e low h = nat_list_cmp_total.trans c d e low h

-- all ends before a place's end are below it
earlier_end : (pre : List PlaceView) (p : PlaceView) (post : List PlaceView) (e : List ℕ) → p.end ≡ Some e → EndsRise (pre ++ p ∷ post) → AllByRecursion (λ q. EndsBefore q.end e) pre
earlier_end [] p post e is rise = tt
earlier_end (q ∷ []) p post e is rise = (lower_ends q.end e p.end is rise.0, tt)
earlier_end (q ∷ r ∷ pre) p post e is rise =
    let rest = earlier_end (r ∷ pre) p post e is rise.1 in
    (lower_through q.end r.end e rise.0 rest.0, rest)

-- the row of a place, or the least one
abbrev row_from : Option Place → List ℕ
row_from None = []
row_from (Some place) = place.0

is_from : (after : Option Place) (row : List ℕ) → byte_cmp row (row_from after) ≢ Less → IsRowFrom after row
is_from None row h = tt
is_from (Some place) row h = h

-- a place that isn't passed holds a row from there on
record HasRow (after : Option Place) (places : List PlaceView) (p : PlaceView) : Type 0 where
  row : List ℕ
  from : IsRowFrom after row
  holder : IsHolder row places p

not_ended : (after : Option Place) (p : PlaceView) (e : List ℕ) → p.end ≡ Some e → ¬ PrecedesCell p after → IsRowFrom after e
not_ended None p e is within = tt
not_ended (Some place) p e is within = λ less. within (ends_at p.end e place.0 is less)

no_end : (end : Option (List ℕ)) (row : List ℕ) → end ≡ None → ¬ EndsBefore end row
no_end None row e h = h
no_end (Some x) row e h = cc

own_end : (end : Option (List ℕ)) (e : List ℕ) → end ≡ Some e → ¬ EndsBefore end e
own_end None e is h = h
own_end (Some d) e is h = let same : d ≡ e = cc in not_self e (subst (λ (x : List ℕ). byte_cmp x e ≡ Less) same h)

place_row : (pre : List PlaceView) (p : PlaceView) (post : List PlaceView) → EndsRise (pre ++ p ∷ post) → (after : Option Place) → ¬ PrecedesCell p after → HasRow after (pre ++ p ∷ post) p
place_row pre p post rise after within = by p.end refl
  where
    by : (end : Option (List ℕ)) → p.end ≡ end → HasRow after (pre ++ p ∷ post) p
    by None is =
        let high = above (row_from after) pre (each_finite pre p post rise) in
        record {
          row = high.row;
          from = is_from after high.row high.from;
          holder = record { before = pre; after = post; parts = refl; past = high.past; within = no_end p.end high.row is };
        }
    by (Some e) is = record {
      row = e;
      from = not_ended after p e is within;
      holder = record { before = pre; after = post; parts = refl; past = earlier_end pre p post e is rise; within = own_end p.end e is };
    }

each_split : (P : PlaceView → Type 0) (places : List PlaceView) → ((pre : List PlaceView) (p : PlaceView) (post : List PlaceView) → places ≡ pre ++ p ∷ post → P p) → AllByRecursion P places
each_split P [] h = tt
each_split P (q ∷ qs) h = (h [] q qs refl, each_split P qs (λ pre p post e. h (q ∷ pre) p post (ap (λ (ps : List PlaceView). q ∷ ps) e)))

of_some : (o : Option Contents) (m : Contents) (P : Contents → Type 0) → o ≡ Some m → IsSomeAnd o P → P m
of_some None m P e h = absurd h
of_some (Some n) m P e h = let same : n ≡ m = cc in subst P same h

some_of : (o : Option Contents) (P : Contents → Type 0) → IsSomeAnd o P → (m : Contents) × (o ≡ Some m)
some_of None P h = absurd h
some_of (Some m) P h = (m, refl)

module _ (disk : Option Contents) (places : List PlaceView) (ts : List Tablet) (table : IsTable places) (after : Option Place) where
  abbrev pub IsFrom : Type 0
  IsFrom = (row : List ℕ) → IsRowFrom after row → IsReadable disk places ts row

  -- if the rows from a place on can be read, their tablets' files are open
  pub open_from : IsFrom → (m : Contents) → disk ≡ Some m → AreOpenFrom m ts after places
  open_from readable m told = each_split (λ p. ¬ PrecedesCell p after → (t : Tablet) → tablet_numbered p.tablet ts ≡ Some t → Holds m t) places one
    where
      one : (pre : List PlaceView) (p : PlaceView) (post : List PlaceView) → places ≡ pre ++ p ∷ post → ¬ PrecedesCell p after → (t : Tablet) → tablet_numbered p.tablet ts ≡ Some t → Holds m t
      one pre p post parts within t numbered =
          let has = place_row pre p post (subst EndsRise parts table.rising) after within in
          let holder = subst (λ (ps : List PlaceView). IsHolder has.row ps p) (sym parts) has.holder in
          of_some disk m (λ n. Holds n t) told (readable has.row has.from p t holder numbered)

  -- and the files' contents are known
  pub told_from : ArePlaced ts None places → IsFrom → (m : Contents) × (disk ≡ Some m)
  told_from placed readable =
      let row = row_from after in
      let one = has_holder row places table.rising in
      let all : AllByRecursion (λ p. IsNumbered ts p.tablet) places = is_placed (λ p. IsNumbered ts p.tablet) ts (λ before p h. record { tablet = h.tablet; numbered = h.numbered }) None places placed in
      let numbered = at_parts (λ p. IsNumbered ts p.tablet) one.holder.before one.place one.holder.after (subst (λ (ps : List PlaceView). AllByRecursion (λ p. IsNumbered ts p.tablet) ps) one.holder.parts all) in
      some_of disk (λ m. Holds m numbered.tablet) (readable row (is_from after row (not_self row)) one.place numbered.tablet one.holder numbered.numbered)

  -- and no scan from there on meets damage
  pub meets_none : (most : ℕ) → MeetsDamage disk after most places ts → ¬ IsFrom
  meets_none most meets readable =
      let has = place_row meets.before meets.place meets.rest (subst EndsRise meets.parts table.rising) after meets.within in
      let holder = subst (λ (ps : List PlaceView). IsHolder has.row ps meets.place) (sym meets.parts) has.holder in
      not_damaged disk meets.out.tablet (Unit {0}) (readable has.row has.from meets.place meets.out.tablet holder meets.out.numbered) (λ _. meets.out.such) tt

  -- the cells that a scan of the tablets finds are the next ones
  pub next_found : (spots : List PlaceView) (us : List Tablet) → spots ≡ places → us ≡ ts → ArePlaced ts None places → IsFrom → (most : ℕ) {A : Type 0} (found_in : A → List Place) (r : Result A Refusal)
      → IfOk r (λ found. (m : Contents) → disk ≡ Some m → AreOpenFrom m us after spots → AreNextCells (cells_in (Some m) us) after most (found_in found))
      → IfOk r (λ found. AreNextCells (cells_in disk ts) after most (found_in found))
  next_found spots us same_spots same placed readable most found_in (Err e) h = tt
  next_found spots us same_spots same placed readable most found_in (Ok found) h =
      let told = told_from placed readable in
      let open_there = subst (λ (ps : List PlaceView). AreOpenFrom told.0 us after ps) (sym same_spots) (subst (λ (vs : List Tablet). AreOpenFrom told.0 vs after places) (sym same) (open_from readable told.0 told.1)) in
      subst (λ (o : Option Contents). AreNextCells (cells_in o ts) after most (found_in found)) (sym told.1)
      (subst (λ (vs : List Tablet). AreNextCells (cells_in (Some told.0) vs) after most (found_in found)) same (h told.0 told.1 open_there))

  -- and it is refused as damaged only if a row from there on can't be read
  pub next_refused : (spots : List PlaceView) (us : List Tablet) → spots ≡ places → us ≡ ts → (most : ℕ) {A : Type 0} (r : Result A Refusal) → (IsErrOf r Damaged → MeetsDamage disk after most spots us) → IfErr r sources.IsReadRefusal
      → IfErr r (IsRefusalOfRead IsFrom)
  next_refused spots us same_spots same most r meets refusal =
      refused_read IsFrom r (λ readable is. meets_none most (subst (λ (vs : List Tablet). MeetsDamage disk after most places vs) same (subst (λ (ps : List PlaceView). MeetsDamage disk after most ps us) same_spots (meets is))) readable) refusal
