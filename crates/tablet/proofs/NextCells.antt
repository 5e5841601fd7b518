-- The first value after a place, within a range, belongs to the next cell.
use Rattle.std.proofs.Common.{◌≡◌, ◌<◌, ◌≤◌, ℕ, Bool, true, false, cond, List, [], ◌∷◌, Option, Some, None, ◌&&◌, refl, sym, ap, subst, ◌∙◌, arith}
use Rattle.std.specs.Prelude.{IsSome}
use Rattle.std.specs.List.{AllByRecursion}
use Rattle.std.specs.declared.cmp.Ordering.{Ordering}
use Rattle.std.specs.declared.cmp.Ordering.TheVariants.{Less, Equal, Greater}
use Rattle.std.specs.Ordering.{is_le, ordering_then, ordering_reverse, nat_cmp, MatchOrdering}
use Rattle.std.specs.Cmp.{alike_right, ranks}
use Rattle.std.specs.FinMap.{get}
use Rattle.cell_key.specs.Keys.{byte_cmp, key_cmp, text, qualifier_name, IsKey, IsStored}
use Rattle.cell_key.specs.Cells.{Cells, version}
use Rattle.cell_key.specs.Entries.{Entry, IsEntryList, cells_of}
use Rattle.cell_key.specs.Places.{Place, place_of, place_cmp, IsAfter, IsNextCell}
use Rattle.cell_key.specs.declared.keys.CellKey.{CellKey}
use Rattle.cell_key.specs.declared.keys.Qualifier.{Qualifier}
use Rattle.cell_key.specs.declared.keys.Qualifier.TheVariants.{Data, Lock, Write}
use Rattle.cell_key.proofs.Order.{text_order}
use Rattle.cell_key.proofs.EntryLaws.{stored_key}
use Rattle.cell_key.proofs.EntryLists.{total}
use Rattle.tablet.specs.Ranges.{has_row, lower_fence, upper_fence}
use Rattle.tablet.specs.Reads.{later, past_place, start_of, IsStoredPlace, IsPlaceOrNone}
use Rattle.tablet.specs.declared.ranges.RowRange.{RowRange}
use Rattle.tablet.proofs.Fences.{between_fences}
use Rattle.tablet.proofs.Filters.{is_between}
use Rattle.tablet.proofs.Shown.{first_at, view, shown, shown_stored}
use Rattle.tablet.proofs.Found.{HasNone, HasFirst}

-- ---- a place and the keys after it

two_first : (r s t : Ordering) → ordering_then r s ≡ Less → is_le (ordering_then r (ordering_then s t)) ≡ true
two_first Less s t e = refl
two_first Equal Less t e = refl
two_first Equal Equal t e = cc
two_first Equal Greater t e = cc
two_first Greater s t e = cc

two_less : (r s t : Ordering) → ordering_then r s ≡ Less → ordering_then r (ordering_then s t) ≡ Less
two_less Less s t e = refl
two_less Equal Less t e = refl
two_less Equal Equal t e = cc
two_less Equal Greater t e = cc
two_less Greater s t e = cc

only_two : (r s t : Ordering) → t ≡ Greater → is_le (ordering_then r (ordering_then s t)) ≡ true → ordering_then r s ≡ Less
only_two Less s t n e = refl
only_two Equal Less t n e = refl
only_two Equal Equal Less n e = cc
only_two Equal Equal Equal n e = cc
only_two Equal Equal Greater n e = cc
only_two Equal Greater t n e = cc
only_two Greater s t n e = cc

above_zero : (s : ℕ) → 1 ≤ s → nat_cmp s 0 ≡ Greater
above_zero s h = go (nat_cmp s 0) (ranks s 0)
  where
    go : (o : Ordering) → MatchOrdering o (s < 0) (s ≡ 0) (0 < s) → o ≡ Greater
    go Less m = absurd (omega (arith, m))
    go Equal m = absurd (omega (arith, m))
    go Greater m = refl

-- no stored key of a place comes after the place's last key
last_of_place : (qualifier : Qualifier) (s : ℕ) → 1 ≤ s → ordering_then (byte_cmp (qualifier_name Write) (qualifier_name qualifier)) (nat_cmp s 0) ≡ Greater
last_of_place Data s h = refl
last_of_place Lock s h = refl
last_of_place Write s h = above_zero s h

pub less_by_place : (a b : CellKey) → place_cmp (place_of a) (place_of b) ≡ Less → key_cmp a b ≡ Less
less_by_place a b e = two_less (byte_cmp a.row b.row) (byte_cmp a.family b.family) _ e

last_key : (place : Place) → IsStoredPlace place → IsKey (version place.0 place.1 Write 0)
last_key place is = record { row = is.row; family = is.family; stamp = omega arith }

pub same_text : (x : List ℕ) → byte_cmp x x ≡ Equal
same_text x = go (byte_cmp x x) (total.antisymm x x)
  where
    go : (o : Ordering) → o ≡ ordering_reverse o → o ≡ Equal
    go Less e = cc
    go Equal e = refl
    go Greater e = cc

module _ (key : CellKey) (stored : IsStored key) where
  pub past_after : (place : Place) → IsStoredPlace place → is_le (byte_cmp (past_place (Some place)) (text key)) ≡ true → place_cmp place (place_of key) ≡ Less
  past_after place is e =
      only_two (byte_cmp place.0 key.row) (byte_cmp place.1 key.family) _ (last_of_place key.qualifier key.stamp stored.from)
      (ap is_le (sym (text_order (version place.0 place.1 Write 0) key (last_key place is) (stored_key key stored))) ∙ e)

  pub after_past : (place : Place) → IsStoredPlace place → place_cmp place (place_of key) ≡ Less → is_le (byte_cmp (past_place (Some place)) (text key)) ≡ true
  after_past place is e =
      ap is_le (text_order (version place.0 place.1 Write 0) key (last_key place is) (stored_key key stored))
      ∙ two_first (byte_cmp place.0 key.row) (byte_cmp place.1 key.family) _ e

  -- a key's text is below the bound past its place
  pub below_past : byte_cmp (text key) (past_place (Some (place_of key))) ≡ Less
  below_past =
      let over : byte_cmp (past_place (Some (place_of key))) (text key) ≡ Greater =
      text_order (version key.row key.family Write 0) key (record { row = stored.row; family = stored.family; stamp = omega arith }) (stored_key key stored)
      ∙ ap (λ o. ordering_then o (ordering_then (byte_cmp key.family key.family) (ordering_then (byte_cmp (qualifier_name Write) (qualifier_name key.qualifier)) (nat_cmp key.stamp 0)))) (same_text key.row)
      ∙ ap (λ o. ordering_then o (ordering_then (byte_cmp (qualifier_name Write) (qualifier_name key.qualifier)) (nat_cmp key.stamp 0))) (same_text key.family)
      ∙ last_of_place key.qualifier key.stamp stored.from in
      total.antisymm (text key) (past_place (Some (place_of key))) ∙ ap ordering_reverse over

pub from_none : (name : List ℕ) → is_le (byte_cmp [] name) ≡ true
from_none [] = refl
from_none (b ∷ name) = refl

-- ---- the later of two texts

not_less : (o : Ordering) → is_le o ≡ false → ordering_reverse o ≡ Less
not_less Less e = cc
not_less Equal e = cc
not_less Greater e = refl

pub le_trans : (x y z : List ℕ) → is_le (byte_cmp x y) ≡ true → is_le (byte_cmp y z) ≡ true → is_le (byte_cmp x z) ≡ true
le_trans x y z e f = go (byte_cmp x y) (byte_cmp y z) refl refl e f
  where
    go : (o p : Ordering) → byte_cmp x y ≡ o → byte_cmp y z ≡ p → is_le o ≡ true → is_le p ≡ true → is_le (byte_cmp x z) ≡ true
    go Less Less a b e f = ap is_le (total.trans x y z a b)
    go Less Equal a b e f = ap is_le (sym (alike_right total y z x b) ∙ a)
    go Less Greater a b e f = cc
    go Equal p a b e f = ap is_le (total.congr x y z a ∙ b) ∙ f
    go Greater p a b e f = cc

-- a text at or above the later of two is at or above both
pub from_both : (a b name : List ℕ) → is_le (byte_cmp (later a b) name) ≡ true → (is_le (byte_cmp a name) ≡ true) × (is_le (byte_cmp b name) ≡ true)
from_both a b name e = go (is_le (byte_cmp a b)) refl e
  where
    go : (t : Bool) → is_le (byte_cmp a b) ≡ t → is_le (byte_cmp (cond t b a) name) ≡ true → (is_le (byte_cmp a name) ≡ true) × (is_le (byte_cmp b name) ≡ true)
    go true p h = (le_trans a b name p h, h)
    go false p h = (h, le_trans b a name (ap is_le (total.antisymm b a ∙ not_less (byte_cmp a b) p)) h)

pub to_later : (a b name : List ℕ) → is_le (byte_cmp a name) ≡ true → is_le (byte_cmp b name) ≡ true → is_le (byte_cmp (later a b) name) ≡ true
to_later a b name p q = go (is_le (byte_cmp a b))
  where
    go : (t : Bool) → is_le (byte_cmp (cond t b a) name) ≡ true
    go true = q
    go false = p

pub first_so : (a b : Bool) → (a && b) ≡ true → a ≡ true
first_so true b e = refl
first_so false b e = cc

pub second_so : (a b : Bool) → (a && b) ≡ true → b ≡ true
second_so true b e = e
second_so false b e = cc

pub both_so : (a b : Bool) → a ≡ true → b ≡ true → (a && b) ≡ true
both_so true b p q = q
both_so false b p q = cc

-- ---- the next cell

module _ (range : RowRange) (after : Option Place) (is : IsPlaceOrNone after) (key : CellKey) (stored : IsStored key) where
  abbrev pub from : List ℕ
  from = start_of range after

  behind : (after : Option Place) → IsPlaceOrNone after → is_le (byte_cmp (past_place after) (text key)) ≡ true → IsAfter after (place_of key)
  behind None is e = tt
  behind (Some place) is e = past_after key stored place is e

  at_behind : (after : Option Place) → IsPlaceOrNone after → IsAfter after (place_of key) → is_le (byte_cmp (past_place after) (text key)) ≡ true
  at_behind None is h = from_none (text key)
  at_behind (Some place) is h = after_past key stored place is h

  pub inside_both : is_between from (upper_fence range) (text key) ≡ true → (has_row range key.row ≡ true) × IsAfter after (place_of key)
  inside_both e =
      let froms = from_both (lower_fence range) (past_place after) (text key) (first_so _ _ e) in
      (sym (between_fences key stored range) ∙ both_so _ _ froms.0 (second_so _ _ e), behind after is froms.1)

  pub both_inside : has_row range key.row ≡ true → IsAfter after (place_of key) → is_between from (upper_fence range) (text key) ≡ true
  both_inside has h =
      let fences = between_fences key stored range ∙ has in
      both_so _ _ (to_later (lower_fence range) (past_place after) (text key) (first_so _ _ fences) (at_behind after is h)) (second_so _ _ fences)

no_value : {X : Type 0} (o : Option X) → o ≡ None → IsSome o → ⊥
no_value None e h = cc
no_value (Some x) e h = cc

module _ (range : RowRange) (after : Option Place) (is : IsPlaceOrNone after) (lists : List (List Entry)) (each : AllByRecursion IsEntryList lists) where
  abbrev pub cells : Cells
  cells = cells_of (view range lists)

  -- a cell after the place has no value if no key between the texts has one
  none_shown : (key : CellKey) → IsStored key → IsAfter after (place_of key) → (is_between (start_of range after) (upper_fence range) (text key) ≡ true → first_at lists key ≡ None) → get cells key ≡ None
  none_shown key stored h none = shown range lists each key stored ∙ go (has_row range key.row) refl
    where
      go : (b : Bool) → has_row range key.row ≡ b → cond b (first_at lists key) None ≡ None
      go true e = none (both_inside range after is key stored e h)
      go false e = refl

  pub next_none : HasNone (start_of range after) (upper_fence range) lists → IsNextCell cells after None
  next_none first place behind cell =
      let at : IsAfter after (place_of cell.key) = subst (λ (p : Place). IsAfter after p) (sym cell.at) behind in
      no_value (get cells cell.key) (none_shown cell.key (shown_stored range lists each cell.key cell.some) at (first.none cell.key)) cell.some

  pub next_some : (key : CellKey) (value : List ℕ) → IsStored key → HasFirst (start_of range after) (upper_fence range) lists key value → IsNextCell cells after (Some (place_of key))
  next_some key value stored first =
      let inside = inside_both range after is key stored first.inside in
      let there : get cells key ≡ Some value = shown range lists each key stored ∙ ap (λ (b : Bool). cond b (first_at lists key) None) inside.0 ∙ first.has in (
        inside.1,
        record { key = key; at = refl; some = subst (λ (o : Option (List ℕ)). IsSome o) (sym there) refl },
        λ place behind before cell.
            let at : IsAfter after (place_of cell.key) = subst (λ (p : Place). IsAfter after p) (sym cell.at) behind in
            let less : place_cmp (place_of cell.key) (place_of key) ≡ Less = ap (λ (p : Place). place_cmp p (place_of key)) cell.at ∙ before in
            let is_stored = shown_stored range lists each cell.key cell.some in
            no_value (get cells cell.key) (none_shown cell.key is_stored at (λ between. first.least cell.key is_stored between (less_by_place cell.key key less))) cell.some,
      )
