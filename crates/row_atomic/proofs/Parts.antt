-- Replacing one tablet by two parts of it keeps the cells.
use Rattle.std.proofs.Common.{◌≡◌, ◌≢◌, ℕ, Bool, true, false, cond, nat_eq, List, [], ◌∷◌, ◌++◌, map, set, length, Option, Some, None, ◌⊎◌, inl, inr, slice_get, refl, sym, ap, ◌∙◌, subst, ◌&&◌}
use Rattle.std.proofs.lemmas.Option.{same_Some}
use Rattle.std.specs.FinMap.{get, same_map}
use Rattle.std.specs.List.{AllByRecursion}
use Rattle.std.specs.Cmp.Lexicographic.{nat_list_cmp_total}
use Rattle.std.specs.Ordering.{is_lt, is_le, ordering_reverse}
use Rattle.std.specs.declared.cmp.Ordering.{Ordering}
use Rattle.std.specs.declared.cmp.Ordering.TheVariants.{Less, Equal, Greater}
use borrow.Author.Tests.{eqb-true, eqb-false}
use Rattle.cell_key.specs.Keys.{byte_cmp, key_cmp_total}
use Rattle.cell_key.specs.Cells.{Cells}
use Rattle.cell_key.specs.Entries.{or_else}
use Rattle.cell_key.specs.declared.keys.CellKey.{CellKey}
use Rattle.cell_key.proofs.KeyLaws.{exact_keys}
use Rattle.file_store.specs.Store.{Contents}
use Rattle.metadata_table.specs.Places.{PlaceView, EndsBefore}
use Rattle.metadata_table.specs.Table.{EndsRise, IsTable, IsHolder}
use Rattle.tablet.specs.Ranges.{is_after, is_up_to, has_row}
use Rattle.tablet.specs.Views.{Holds, IsPart, cells_at, range_of}
use Rattle.tablet.specs.Laws.{StaysInRange}
use Rattle.tablet.specs.declared.ranges.RowRange.{RowRange}
use Rattle.tablet.specs.declared.tablet.Tablet.{Tablet}
use Rattle.row_atomic.specs.Clusters.{tablet_numbered, joined, cells_in, ArePlaced}
use Rattle.row_atomic.proofs.Owners.{OwnsRow, index_of, holder_owns}
use Rattle.row_atomic.proofs.Joined.{get_joined, get_joined_none, joined_nowhere, joined_set}
use Rattle.row_atomic.proofs.Shares.{each_at, cells_of_row, set_elsewhere, set_there, map_set}
use Rattle.row_atomic.proofs.PlacedTablets.{is_placed, set_same}

-- ---- each row has a holder

pub record HasHolder (row : List ℕ) (ps : List PlaceView) : Type 0 where
  pub place : PlaceView
  pub holder : IsHolder row ps place

ends_or_not : (end : Option (List ℕ)) (row : List ℕ) → EndsBefore end row ⊎ ¬ EndsBefore end row
ends_or_not None row = inr (λ h. h)
ends_or_not (Some e) row = go (byte_cmp e row) refl
  where
    go : (o : Ordering) → byte_cmp e row ≡ o → (byte_cmp e row ≡ Less) ⊎ ¬ (byte_cmp e row ≡ Less)
    go Less h = inl h
    go Equal h = inr (λ k. cc)
    go Greater h = inr (λ k. cc)

no_end : (end : Option (List ℕ)) (row : List ℕ) → end ≡ None → ¬ EndsBefore end row
no_end None row e h = h
no_end (Some x) row e h = cc

first_holds : (row : List ℕ) (p : PlaceView) (ps : List PlaceView) → ¬ EndsBefore p.end row → HasHolder row (p ∷ ps)
first_holds row p ps h = record { place = p; holder = record { before = []; after = ps; parts = refl; past = tt; within = h } }

later_holds : (row : List ℕ) (p : PlaceView) (ps : List PlaceView) → EndsBefore p.end row → HasHolder row ps → HasHolder row (p ∷ ps)
later_holds row p ps h rest = record {
  place = rest.place;
  holder = record {
    before = p ∷ rest.holder.before;
    after = rest.holder.after;
    parts = ap (λ (qs : List PlaceView). p ∷ qs) rest.holder.parts;
    past = (h, rest.holder.past);
    within = rest.holder.within;
  };
}

pub has_holder : (row : List ℕ) (ps : List PlaceView) → EndsRise ps → HasHolder row ps
has_holder row [] rise = absurd rise
has_holder row (p ∷ []) rise = first_holds row p [] (no_end p.end row rise)
has_holder row (p ∷ q ∷ ps) rise = go (ends_or_not p.end row) (has_holder row (q ∷ ps) rise.1)
  where
    go : EndsBefore p.end row ⊎ ¬ EndsBefore p.end row → HasHolder row (q ∷ ps) → HasHolder row (p ∷ q ∷ ps)
    go (inl h) rest = later_holds row p (q ∷ ps) h rest
    go (inr h) rest = first_holds row p (q ∷ ps) h

-- ---- a tablet that has a row owns it

pub record IsNumbered (ts : List Tablet) (k : ℕ) : Type 0 where
  pub tablet : Tablet
  pub numbered : tablet_numbered k ts ≡ Some tablet

clash : (b : Bool) → b ≡ true → b ≡ false → ⊥
clash b e h = cc

pub at_parts : (P : PlaceView → Type 0) (pre : List PlaceView) (p : PlaceView) (post : List PlaceView) → AllByRecursion P (pre ++ p ∷ post) → P p
at_parts P [] p post all = all.0
at_parts P (q ∷ pre) p post all = at_parts P pre p post all.1

-- only the owner has the row
pub is_owner : (ts : List Tablet) (row : List ℕ) (k : ℕ) (v : Tablet) → OwnsRow ts row k v → (i : ℕ) (t : Tablet) → slice_get ts i ≡ Some t → has_row (range_of t) row ≡ true → i ≡ k
is_owner ts row k v owns i t there has = by (nat_eq i k) refl
  where
    by : (b : Bool) → nat_eq i k ≡ b → i ≡ k
    by true e = eqb-true i k e
    by false e = absurd (clash (has_row (range_of t) row) has (owns.others i t (eqb-false i k e) there))

record HasOwner (ts : List Tablet) (row : List ℕ) : Type 0 where
  index : ℕ
  tablet : Tablet
  owns : OwnsRow ts row index tablet

has_owner : (places : List PlaceView) (ts : List Tablet) (row : List ℕ) → IsTable places → ArePlaced ts None places → length ts ≡ length places → HasOwner ts row
has_owner places ts row table placed as_many =
    let one = has_holder row places table.rising in
    let all : AllByRecursion (λ p. IsNumbered ts p.tablet) places = is_placed (λ p. IsNumbered ts p.tablet) ts (λ before p h. record { tablet = h.tablet; numbered = h.numbered }) None places placed in
    let numbered = at_parts (λ p. IsNumbered ts p.tablet) one.holder.before one.place one.holder.after (subst (λ (ps : List PlaceView). AllByRecursion (λ p. IsNumbered ts p.tablet) ps) one.holder.parts all) in
    record {
      index = index_of one.place.tablet;
      tablet = numbered.tablet;
      owns = holder_owns ts places row one.place numbered.tablet table placed as_many one.holder numbered.numbered;
    }

-- a tablet that has a row owns it
pub owns_if_has : (places : List PlaceView) (ts : List Tablet) (row : List ℕ) (i : ℕ) (t : Tablet) → IsTable places → ArePlaced ts None places → length ts ≡ length places → slice_get ts i ≡ Some t → has_row (range_of t) row ≡ true → OwnsRow ts row i t
owns_if_has places ts row i t table placed as_many there has =
    let owner = has_owner places ts row table placed as_many in
    let same = is_owner ts row owner.index owner.tablet owner.owns i t there has in
    record {
      there = there;
      has = has;
      others = λ j u other at_j. owner.owns.others j u (subst (λ (k : ℕ). j ≢ k) same other) at_j;
    }

-- ---- the parts of a cut range

both : (a b : Bool) → (a && b) ≡ true → (a ≡ true) × (b ≡ true)
both true b e = (refl, e)
both false b e = cc

and_true : (a b : Bool) → a ≡ true → b ≡ true → (a && b) ≡ true
and_true true b e h = h
and_true false b e h = cc

and_false : (a b : Bool) → b ≡ false → (a && b) ≡ false
and_false true b e = e
and_false false b e = refl

left_false : (a b : Bool) → a ≡ false → (a && b) ≡ false
left_false true b e = cc
left_false false b e = refl

turned : (a b : List ℕ) → is_le (byte_cmp b a) ≡ is_le (ordering_reverse (byte_cmp a b))
turned a b = ap is_le (nat_list_cmp_total.antisymm b a)

-- a row of a cut range is in exactly one part
pub record InPart (range left right : RowRange) (row : List ℕ) : Type 0 where
  pub where_is : ((has_row left row ≡ true) × (has_row right row ≡ false)) ⊎ ((has_row left row ≡ false) × (has_row right row ≡ true))

pub in_part : (range left right : RowRange) (cut row : List ℕ) → left ≡ record { after = range.after; end = Some cut } → right ≡ record { after = Some cut; end = range.end } → has_row range row ≡ true → InPart range left right row
in_part range left right cut row is_left is_right has = record { where_is = by (byte_cmp cut row) refl }
  where
    parts : (is_after range.after row ≡ true) × (is_up_to range.end row ≡ true)
    parts = both (is_after range.after row) (is_up_to range.end row) has

    of_left : (b : Bool) → (is_after range.after row && is_le (byte_cmp row cut)) ≡ b → has_row left row ≡ b
    of_left b e = ap (λ (r : RowRange). has_row r row) is_left ∙ e

    of_right : (b : Bool) → (is_lt (byte_cmp cut row) && is_up_to range.end row) ≡ b → has_row right row ≡ b
    of_right b e = ap (λ (r : RowRange). has_row r row) is_right ∙ e

    by : (o : Ordering) → byte_cmp cut row ≡ o → ((has_row left row ≡ true) × (has_row right row ≡ false)) ⊎ ((has_row left row ≡ false) × (has_row right row ≡ true))
    by Less e = inr (
      of_left false (and_false (is_after range.after row) (is_le (byte_cmp row cut)) (turned cut row ∙ ap (λ (o : Ordering). is_le (ordering_reverse o)) e)),
      of_right true (and_true (is_lt (byte_cmp cut row)) (is_up_to range.end row) (ap is_lt e) parts.1),
    )
    by Equal e = inl (
      of_left true (and_true (is_after range.after row) (is_le (byte_cmp row cut)) parts.0 (turned cut row ∙ ap (λ (o : Ordering). is_le (ordering_reverse o)) e)),
      of_right false (left_false (is_lt (byte_cmp cut row)) (is_up_to range.end row) (ap is_lt e)),
    )
    by Greater e = inl (
      of_left true (and_true (is_after range.after row) (is_le (byte_cmp row cut)) parts.0 (turned cut row ∙ ap (λ (o : Ordering). is_le (ordering_reverse o)) e)),
      of_right false (left_false (is_lt (byte_cmp cut row)) (is_up_to range.end row) (ap is_lt e)),
    )

-- ---- joined maps with one more

or_assoc : {A : Type 0} (x y z : Option A) → or_else x (or_else y z) ≡ or_else (or_else x y) z
or_assoc None y z = refl
or_assoc (Some x) y z = refl

or_none : {A : Type 0} (o : Option A) → or_else o None ≡ o
or_none None = refl
or_none (Some x) = refl

module _ {A : Type 0} (f : A → Cells) (q : CellKey) where
  joined_push : (ts : List A) (u : A) → get (joined (map f (ts ++ u ∷ []))) q ≡ or_else (get (joined (map f ts)) q) (get (f u) q)
  joined_push [] u =
      get_joined (f u) [] q ∙ ap (or_else (get (f u) q)) (get_joined_none q) ∙ or_none (get (f u) q)
      ∙ sym (ap (λ (o : Option (List ℕ)). or_else o (get (f u) q)) (get_joined_none q))
  joined_push (t ∷ ts) u =
      get_joined (f t) (map f (ts ++ u ∷ [])) q
      ∙ ap (or_else (get (f t) q)) (joined_push ts u)
      ∙ or_assoc (get (f t) q) (get (joined (map f ts)) q) (get (f u) q)
      ∙ sym (ap (λ (o : Option (List ℕ)). or_else o (get (f u) q)) (get_joined (f t) (map f ts) q))

-- ---- the cells are unchanged

module _ (law : StaysInRange) (m n : Contents) (places : List PlaceView) (ts : List Tablet) (i : ℕ) (t left right : Tablet) (cut : List ℕ)
    (table : IsTable places) (placed : ArePlaced ts None places) (as_many : length ts ≡ length places) (holds : AllByRecursion (Holds m) ts)
    (there : slice_get ts i ≡ Some t) (others : AllByRecursion (λ u. cells_at n u ≡ cells_at m u) ts)
    (left_range : range_of left ≡ record { after = (range_of t).after; end = Some cut }) (right_range : range_of right ≡ record { after = Some cut; end = (range_of t).end })
    (left_part : IsPart (range_of left) (cells_at m t) (cells_at n left)) (right_part : IsPart (range_of right) (cells_at m t) (cells_at n right)) where
  same_others : map (cells_at n) ts ≡ map (cells_at m) ts
  same_others = ap (map (cells_at n)) (sym (set_same ts i t there)) ∙ map_set (cells_at n) (cells_at m) ts i t t there others (each_at (λ u. cells_at n u ≡ cells_at m u) ts others i t there)

  was : (q : CellKey) → get (joined (map (cells_at n) ts)) q ≡ get (joined (map (cells_at m) ts)) q
  was q = ap (λ cs. get (joined cs) q) same_others

  of_left : (b : Bool) (q : CellKey) → has_row (range_of left) q.row ≡ b → get (cells_at n left) q ≡ cond b (get (cells_at m t) q) None
  of_left b q e = left_part q ∙ ap (λ (c : Bool). cond c (get (cells_at m t) q) None) e

  of_right : (b : Bool) (q : CellKey) → has_row (range_of right) q.row ≡ b → get (cells_at n right) q ≡ cond b (get (cells_at m t) q) None
  of_right b q e = right_part q ∙ ap (λ (c : Bool). cond c (get (cells_at m t) q) None) e

  -- if the right part has the tablet's value, and the left part none
  stays_right : (q : CellKey) → get (cells_at n right) q ≡ get (cells_at m t) q → get (cells_at n left) q ≡ None → get (cells_in (Some n) (set ts i right ++ left ∷ [])) q ≡ get (cells_in (Some m) ts) q
  stays_right q on_right on_left =
      joined_push (cells_at n) q (set ts i right) left
      ∙ ap (or_else (get (joined (map (cells_at n) (set ts i right))) q)) on_left
      ∙ or_none (get (joined (map (cells_at n) (set ts i right))) q)
      ∙ joined_set (cells_at n) q ts i t right there (on_right ∙ ap (λ (c : Cells). get c q) (sym (each_at (λ u. cells_at n u ≡ cells_at m u) ts others i t there)))
      ∙ was q

  -- if the left part has the tablet's value, and the tablet has the row
  stays_left : (q : CellKey) → has_row (range_of t) q.row ≡ true → get (cells_at n right) q ≡ None → get (cells_at n left) q ≡ get (cells_at m t) q → get (cells_in (Some n) (set ts i right ++ left ∷ [])) q ≡ get (cells_in (Some m) ts) q
  stays_left q has on_right on_left =
      joined_push (cells_at n) q (set ts i right) left
      ∙ ap (λ (o : Option (List ℕ)). or_else o (get (cells_at n left) q)) (joined_nowhere (cells_at n) q (set ts i right) nowhere)
      ∙ on_left
      ∙ sym (cells_of_row m ts q.row i t owns q refl)
    where
      owns : OwnsRow ts q.row i t
      owns = owns_if_has places ts q.row i t table placed as_many there has

      at_other : (j : ℕ) (u : Tablet) → j ≢ i → slice_get ts j ≡ Some u → get (cells_at n u) q ≡ None
      at_other j u other at_j = ap (λ (c : Cells). get c q) (each_at (λ v. cells_at n v ≡ cells_at m v) ts others j u at_j) ∙ (law m u (each_at (Holds m) ts holds j u at_j)).1 q (owns.others j u other at_j)

      nowhere_by : (b : Bool) (j : ℕ) → nat_eq j i ≡ b → (u : Tablet) → slice_get (set ts i right) j ≡ Some u → get (cells_at n u) q ≡ None
      nowhere_by true j e u at_j = ap (λ (v : Tablet). get (cells_at n v) q) (same_Some u right (sym at_j ∙ ap (slice_get (set ts i right)) (eqb-true j i e) ∙ set_there ts i t right there)) ∙ on_right
      nowhere_by false j e u at_j = at_other j u (eqb-false j i e) (sym (set_elsewhere ts i j right (eqb-false j i e)) ∙ at_j)

      nowhere : (j : ℕ) (u : Tablet) → slice_get (set ts i right) j ≡ Some u → get (cells_at n u) q ≡ None
      nowhere j u at_j = nowhere_by (nat_eq j i) j refl u at_j

  none_of : (b : Bool) (o : Option (List ℕ)) → o ≡ None → cond b o None ≡ None
  none_of true o e = e
  none_of false o e = refl

  at_key : (q : CellKey) → get (cells_in (Some n) (set ts i right ++ left ∷ [])) q ≡ get (cells_in (Some m) ts) q
  at_key q = by (has_row (range_of t) q.row) refl
    where
      by_part : has_row (range_of t) q.row ≡ true → ((has_row (range_of left) q.row ≡ true) × (has_row (range_of right) q.row ≡ false)) ⊎ ((has_row (range_of left) q.row ≡ false) × (has_row (range_of right) q.row ≡ true)) → get (cells_in (Some n) (set ts i right ++ left ∷ [])) q ≡ get (cells_in (Some m) ts) q
      by_part has (inl e) = stays_left q has (of_right false q e.1) (of_left true q e.0)
      by_part has (inr e) = stays_right q (of_right true q e.1) (of_left false q e.0)

      by : (b : Bool) → has_row (range_of t) q.row ≡ b → get (cells_in (Some n) (set ts i right ++ left ∷ [])) q ≡ get (cells_in (Some m) ts) q
      by true has = by_part has (in_part (range_of t) (range_of left) (range_of right) cut q.row left_range right_range has).where_is
      by false lacks =
          let none = (law m t (each_at (Holds m) ts holds i t there)).1 q lacks in
          stays_right q
          (of_right (has_row (range_of right) q.row) q refl ∙ none_of (has_row (range_of right) q.row) (get (cells_at m t) q) none ∙ sym none)
          (of_left (has_row (range_of left) q.row) q refl ∙ none_of (has_row (range_of left) q.row) (get (cells_at m t) q) none)

  -- Two parts that replace a tablet show its cells.
  pub parted : cells_in (Some n) (set ts i right ++ left ∷ []) ≡ cells_in (Some m) ts
  parted = same_map key_cmp_total exact_keys (cells_in (Some n) (set ts i right ++ left ∷ [])) (cells_in (Some m) ts) at_key
