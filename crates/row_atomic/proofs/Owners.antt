-- Each row is owned by one tablet, the tablet of the place that holds the row.
use Rattle.std.proofs.Common.{◌≡◌, ◌≢◌, ◌≤◌, ℕ, zero, suc, Bool, true, false, List, [], ◌∷◌, ◌++◌, length, Option, Some, None, slice_get, refl, sym, ap, ◌∙◌, subst, arith, ◌&&◌}
use Rattle.std.specs.List.{AllByRecursion}
use Rattle.std.specs.declared.cmp.Ordering.{Ordering}
use Rattle.std.specs.declared.cmp.Ordering.TheVariants.{Less, Equal, Greater}
use Rattle.std.specs.Ordering.{is_lt, is_le, ordering_reverse}
use Rattle.std.specs.Cmp.Lexicographic.{nat_list_cmp_total}
use Rattle.cell_key.specs.Keys.{byte_cmp}
use Rattle.metadata_table.specs.Places.{PlaceView, EndsBefore, IsLower}
use Rattle.metadata_table.specs.Table.{EndsRise, IsTable, IsHolder}
use Rattle.tablet.specs.Ranges.{is_after, is_up_to, has_row}
use Rattle.tablet.specs.Views.{range_of}
use Rattle.tablet.specs.declared.ranges.RowRange.{RowRange}
use Rattle.tablet.specs.declared.tablet.Tablet.{Tablet}
use Rattle.row_atomic.specs.Clusters.{tablet_numbered, IsPlaced, ArePlaced}
use Rattle.row_atomic.proofs.Numbers.{each_number, of_number}

-- the tablet at the index has the row, and no other has it
pub record OwnsRow (tablets : List Tablet) (row : List ℕ) (i : ℕ) (t : Tablet) : Type 0 where
  pub there : slice_get tablets i ≡ Some t
  pub has : has_row (range_of t) row ≡ true
  pub others : (j : ℕ) (u : Tablet) → j ≢ i → slice_get tablets j ≡ Some u → has_row (range_of u) row ≡ false

not_less : (o : Ordering) → o ≢ Less → is_lt o ≡ false
not_less Less h = absurd (h refl)
not_less Equal h = refl
not_less Greater h = refl

turned_le : (o : Ordering) → o ≢ Less → is_le (ordering_reverse o) ≡ true
turned_le Less h = absurd (h refl)
turned_le Equal h = refl
turned_le Greater h = refl

is_le_of : (a b : List ℕ) → byte_cmp a b ≢ Less → is_le (byte_cmp b a) ≡ true
is_le_of a b h = ap is_le (nat_list_cmp_total.antisymm b a) ∙ turned_le (byte_cmp a b) h

not_le_of : (a b : List ℕ) → byte_cmp a b ≡ Less → is_le (byte_cmp b a) ≡ false
not_le_of a b e = ap is_le (nat_list_cmp_total.antisymm b a ∙ ap ordering_reverse e)

both_true : (a b : Bool) → a ≡ true → b ≡ true → (a && b) ≡ true
both_true true b e h = h
both_true false b e h = cc

first_false : (a b : Bool) → a ≡ false → (a && b) ≡ false
first_false true b e = cc
first_false false b e = refl

second_false : (a b : Bool) → b ≡ false → (a && b) ≡ false
second_false true b e = e
second_false false b e = refl

-- ---- single ranges

-- a range that ends below a row does not have the row
ends_below : (end : Option (List ℕ)) (row : List ℕ) → EndsBefore end row → is_up_to end row ≡ false
ends_below None row h = absurd h
ends_below (Some e) row h = not_le_of e row h

reaches : (end : Option (List ℕ)) (row : List ℕ) → ¬ EndsBefore end row → is_up_to end row ≡ true
reaches None row h = refl
reaches (Some e) row h = is_le_of e row h

goes_on : (end : Option (List ℕ)) (row : List ℕ) → EndsBefore end row → is_after end row ≡ true
goes_on None row h = absurd h
goes_on (Some e) row h = ap is_lt h

-- the rows of the range begin after a row that is not below this one
pub record BeginsPast (row : List ℕ) (range : RowRange) : Type 0 where
  pub end : List ℕ
  pub after : range.after ≡ Some end
  pub past : byte_cmp end row ≢ Less

pub begins_past_has : (row : List ℕ) (range : RowRange) → BeginsPast row range → has_row range row ≡ false
begins_past_has row range b = first_false (is_after range.after row) (is_up_to range.end row) (ap (λ (o : Option (List ℕ)). is_after o row) b.after ∙ not_less (byte_cmp b.end row) b.past)

-- a property of the range of a place's tablet
abbrev pub OfTablet : List Tablet → (RowRange → Type 0) → PlaceView → Type 0
OfTablet tablets P q = (u : Tablet) → tablet_numbered q.tablet tablets ≡ Some u → P (range_of u)

pub same_tablet : (o : Option Tablet) (t u : Tablet) → o ≡ Some t → o ≡ Some u → t ≡ u
same_tablet o t u e h = cc

module _ (tablets : List Tablet) (row : List ℕ) where
  abbrev Lacks : RowRange → Type 0
  Lacks range = has_row range row ≡ false

  -- the same, by the range that the place gives
  of_placed : (P : RowRange → Type 0) (before : Option (List ℕ)) (p : PlaceView) → IsPlaced tablets before p → P (record { after = before; end = p.end }) → OfTablet tablets P p
  of_placed P before p placed h u e =
      let same = same_tablet (tablet_numbered p.tablet tablets) placed.tablet u placed.numbered e in
      subst (λ (t : Tablet). P (range_of t)) same (subst P (sym placed.range) h)

  next_begins : (end : Option (List ℕ)) (next : Option (List ℕ)) → IsLower end next → ¬ EndsBefore end row → BeginsPast row (record { after = end; end = next })
  next_begins None next low h = absurd low
  next_begins (Some e) next low h = record { end = e; after = refl; past = h }

  next_reaches : (end next : Option (List ℕ)) → IsLower end next → ¬ EndsBefore end row → ¬ EndsBefore next row
  next_reaches end None low h k = k
  next_reaches None (Some e) low h k = absurd low
  next_reaches (Some d) (Some e) low h k = h (nat_list_cmp_total.trans d e row low k)

  -- the tablets after one that ends at or above a row begin past the row
  pub later_begin : (p : PlaceView) (ps : List PlaceView) → EndsRise (p ∷ ps) → ArePlaced tablets p.end ps → ¬ EndsBefore p.end row → AllByRecursion (OfTablet tablets (BeginsPast row)) ps
  later_begin p [] rise placed h = tt
  later_begin p (q ∷ qs) rise placed h = (
    of_placed (BeginsPast row) p.end q placed.0 (next_begins p.end q.end rise.0 h),
    later_begin q qs rise.1 placed.1 (next_reaches p.end q.end rise.0 h),
  )

  lack_later : (k : ℕ) (ps : List PlaceView) → AllByRecursion (OfTablet tablets (BeginsPast row)) ps → AllByRecursion (λ q. q.tablet ≢ k → OfTablet tablets Lacks q) ps
  lack_later k [] h = tt
  lack_later k (q ∷ qs) h = (λ other u e. begins_past_has row (range_of u) (h.0 u e), lack_later k qs h.1)

  rise_rest : (q : PlaceView) (pre : List PlaceView) (p : PlaceView) (post : List PlaceView) → EndsRise (q ∷ (pre ++ p ∷ post)) → EndsRise (pre ++ p ∷ post)
  rise_rest q [] p post rise = rise.1
  rise_rest q (r ∷ pre) p post rise = rise.1

  -- the place that holds a row has it, and no other place does
  pub record AtHolder (p : PlaceView) (ps : List PlaceView) : Type 0 where
    pub has : OfTablet tablets (λ range. has_row range row ≡ true) p
    pub others : AllByRecursion (λ q. q.tablet ≢ p.tablet → OfTablet tablets Lacks q) ps

  pub at_holder : (before : Option (List ℕ)) (pre : List PlaceView) (p : PlaceView) (post : List PlaceView) → ArePlaced tablets before (pre ++ p ∷ post) → EndsRise (pre ++ p ∷ post) → is_after before row ≡ true → AllByRecursion (λ q. EndsBefore q.end row) pre → ¬ EndsBefore p.end row → AtHolder p (pre ++ p ∷ post)
  at_holder before [] p post placed rise after past within = record {
    has = of_placed (λ range. has_row range row ≡ true) before p placed.0 (both_true (is_after before row) (is_up_to p.end row) after (reaches p.end row within));
    others = (λ other. absurd (other refl), lack_later p.tablet post (later_begin p post rise placed.1 within));
  }
  at_holder before (q ∷ pre) p post placed rise after past within =
      let rest = at_holder q.end pre p post placed.1 (rise_rest q pre p post rise) (goes_on q.end row past.0) past.1 within in
      record {
        has = rest.has;
        others = (λ other. of_placed Lacks before q placed.0 (second_false (is_after before row) (is_up_to q.end row) (ends_below q.end row past.0)), rest.others);
      }

below_length : {A : Type 0} (xs : List A) (j : ℕ) (x : A) → slice_get xs j ≡ Some x → suc j ≤ length xs
below_length [] j x e = cc
below_length (y ∷ xs) zero x e = omega arith
below_length (y ∷ xs) (suc j) x e = let rest = below_length xs j x e in omega arith

-- the index of a tablet's number
abbrev pub index_of : ℕ → ℕ
index_of zero = 0
index_of (suc i) = i

pub numbered_at : (tablets : List Tablet) (n : ℕ) (t : Tablet) → tablet_numbered n tablets ≡ Some t → slice_get tablets (index_of n) ≡ Some t
numbered_at tablets zero t e = cc
numbered_at tablets (suc i) t e = e

number_of : (tablets : List Tablet) (n : ℕ) (t : Tablet) → tablet_numbered n tablets ≡ Some t → suc (index_of n) ≡ n
number_of tablets zero t e = cc
number_of tablets (suc i) t e = refl

-- each tablet has a place
pub each_placed : (P : PlaceView → Type 0) (tablets : List Tablet) (places : List PlaceView) → IsTable places → length tablets ≡ length places → AllByRecursion P places → (j : ℕ) (u : Tablet) → slice_get tablets j ≡ Some u → (q : PlaceView) × (P q × (q.tablet ≡ suc j))
each_placed P tablets places table as_many each j u e =
    let below = below_length tablets j u e in
    let to : suc j ≤ length places = omega arith in
    of_number P (suc j) places each (each_number places table (suc j) (omega arith) to)

-- only the tablet of the place that holds a row has the row
pub holder_owns : (tablets : List Tablet) (places : List PlaceView) (row : List ℕ) (p : PlaceView) (t : Tablet) → IsTable places → ArePlaced tablets None places → length tablets ≡ length places → IsHolder row places p → tablet_numbered p.tablet tablets ≡ Some t → OwnsRow tablets row (index_of p.tablet) t
holder_owns tablets places row p t table placed as_many holder e =
    let placed_parts : ArePlaced tablets None (holder.before ++ p ∷ holder.after) = subst (λ (ps : List PlaceView). ArePlaced tablets None ps) holder.parts placed in
    let rising : EndsRise (holder.before ++ p ∷ holder.after) = subst EndsRise holder.parts table.rising in
    let at = at_holder tablets row None holder.before p holder.after placed_parts rising refl holder.past holder.within in
    let others : AllByRecursion (λ q. q.tablet ≢ p.tablet → OfTablet tablets (λ range. has_row range row ≡ false) q) places =
    subst (λ (ps : List PlaceView). AllByRecursion (λ q. q.tablet ≢ p.tablet → OfTablet tablets (λ range. has_row range row ≡ false) q) ps) (sym holder.parts) at.others in
    record {
      there = numbered_at tablets p.tablet t e;
      has = at.has t e;
      others = λ j u other there. lacks j u other there (each_placed (λ q. q.tablet ≢ p.tablet → OfTablet tablets (λ range. has_row range row ≡ false) q) tablets places table as_many others j u there);
    }
  where
    different : (q j p i : ℕ) → q ≡ suc j → suc i ≡ p → j ≢ i → q ≢ p
    different q j p i e h other same = other (omega arith)

    lacks : (j : ℕ) (u : Tablet) → j ≢ index_of p.tablet → slice_get tablets j ≡ Some u → (q : PlaceView) × ((q.tablet ≢ p.tablet → OfTablet tablets (λ range. has_row range row ≡ false) q) × (q.tablet ≡ suc j)) → has_row (range_of u) row ≡ false
    lacks j u other there found =
        let number : suc (index_of p.tablet) ≡ p.tablet = number_of tablets p.tablet t e in
        found.1.0 (different found.0.tablet j p.tablet (index_of p.tablet) found.1.1 number other) u (subst (λ (n : ℕ). tablet_numbered n tablets ≡ Some u) (sym found.1.1) there)
