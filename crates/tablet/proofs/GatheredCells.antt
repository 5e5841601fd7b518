-- Gathered cells, one entry at a time.
use Rattle.std.proofs.Common.{◌≡◌, ◌≢◌, ◌<◌, ◌≤◌, ◌+◌, ◌-◌, ℕ, Bool, true, false, cond, List, [], ◌∷◌, ◌++◌, ◌⊎◌, inl, inr, Option, Some, None, refl, sym, ap, subst, ◌∙◌, append_assoc, length, get_or, set, take, ◌^◌, arith}
use Rattle.std.specs.Prelude.{IfSome, IsSome}
use Rattle.std.specs.Bool.{OnFalse}
use Rattle.std.specs.List.{slice_get, AllByRecursion}
use Rattle.std.specs.declared.cmp.Ordering.{Ordering}
use Rattle.std.specs.declared.cmp.Ordering.TheVariants.{Less, Equal, Greater}
use Rattle.std.specs.Ordering.{is_le, ordering_then}
use Rattle.std.specs.Cmp.{alike_right}
use Rattle.std.specs.FinMap.{get}
use Rattle.std.proofs.lemmas.List.{append-nil, length-append, length-map, map-append}
use Rattle.std.proofs.lemmas.List.Elements.{filter-append}
use Rattle.std.proofs.Math.Seq.{get_or-append_seam, set-append_seam, take-append_seam}
use Rattle.cell_key.specs.Keys.{byte_cmp, text, qualifier_name, IsKeyText, IsStored}
use Rattle.cell_key.specs.Cells.{Cells, IsNewest, version}
use Rattle.cell_key.specs.Entries.{Entry, IsEntry, IsEntryList, cells_of, entries_from, entry_of_key, or_else, value_of}
use Rattle.cell_key.specs.Places.{AreNext, HasCell, Place, last_or, place_cmp, place_of}
use Rattle.cell_key.specs.Texts.{ended, escaped, place_text, stamp_text}
use Rattle.cell_key.specs.declared.keys.CellKey.{CellKey}
use Rattle.cell_key.specs.declared.keys.Qualifier.{Qualifier}
use Rattle.cell_key.specs.declared.keys.Qualifier.TheVariants.{Data, Lock, Write}
use Rattle.cell_key.proofs.EntryLaws.{get-cells_of, stored_key}
use Rattle.cell_key.proofs.EntryLists.{total}
use Rattle.cell_key.proofs.Order.{after_place, one_place, plain_family, stored_plain, text_exact, text_of_place, text_order}
use Rattle.cell_key.proofs.TextPlaces.{one_text}
use Rattle.rows.specs.Batches.{HasNewest, Keeps, of_column, place_in, places_in}
use Rattle.tablet.specs.Gathering.{before_last, last_of, AreVersionsIn, Begins, BeginsWith, Gathers, HasPlaceText, IsShown, IsShownSoFar, IsWhole}
use Rattle.tablet.specs.Reads.{IsNextIn, IsOfPlace, IsStoredPlace, first_value, past_place}
use Rattle.rows.specs.declared.batches.CellVersions.{CellVersions}
use Rattle.tablet.specs.declared.gathering.Gathering.{Gathering}
use Rattle.tablet.proofs.Filters.{find-filter}
use Rattle.tablet.proofs.FirstValues.{first_none}
use Rattle.tablet.proofs.GatheredEntries.{get_added, get_erased, get_unnamed, list_back, list_front, lower_text, newest_above, newest_beside, newest_kept, newest_same, none_behind}
use Rattle.tablet.proofs.NextCells.{after_past, below_past, from_none, past_after}
use Rattle.rows.proofs.NextLists.{last_append, next_append, next_one}
use Rattle.tablet.proofs.ReadPlaces.{left_after, none_below, none_erased, some_from}
use Rattle.tablet.proofs.Shown.{stored_or_none}

-- ---- places in a list of entries that grows

first_more : (xs ys : List Entry) → first_value (xs ++ ys) ≡ or_else (first_value xs) (first_value ys)
first_more [] ys = refl
first_more ((name, None) ∷ xs) ys = first_more xs ys
first_more ((name, Some value) ∷ xs) ys = refl

from_more : (past : List ℕ) (es more : List Entry) → first_value (entries_from past (es ++ more)) ≡ or_else (first_value (entries_from past es)) (first_value (entries_from past more))
from_more past es more = ap first_value (filter-append (λ e. is_le (byte_cmp past e.0)) es more) ∙ first_more (entries_from past es) (entries_from past more)

named_more : (past : List ℕ) (es more : List Entry) (place : Place) → IsOfPlace (first_value (entries_from past es)) place → IsOfPlace (first_value (entries_from past (es ++ more))) place
named_more past es more place found = record {
  key = found.key;
  value = found.value;
  stored = found.stored;
  at = found.at;
  is = from_more past es more ∙ ap (λ (o : Option (List ℕ × List ℕ)). or_else o (first_value (entries_from past more))) found.is;
}

next_more : (n : ℕ) (after : Option Place) (es more : List Entry) (places : List Place) → length places ≡ n → AreNext (IsNextIn es) after n places → AreNext (IsNextIn (es ++ more)) after n places
next_more n after es more [] len some = λ wanted. absurd (omega (arith, wanted, len))
next_more n after es more (place ∷ places) len some = (
  some.0,
  named_more (past_place after) es more place some.1,
  next_more (n - 1) (Some place) es more places (omega (arith, len)) some.2,
)

none_more : (past : List ℕ) (es more : List Entry) → first_value (entries_from past es) ≡ None → first_value (entries_from past more) ≡ None → first_value (entries_from past (es ++ more)) ≡ None
none_more past es more e f = from_more past es more ∙ ap (λ (o : Option (List ℕ × List ℕ)). or_else o (first_value (entries_from past more))) e ∙ f

pub cells_next : (es more : List Entry) (cells : List CellVersions) → AreNext (IsNextIn es) None (length cells) (places_in cells) → AreNext (IsNextIn (es ++ more)) None (length cells) (places_in cells)
cells_next es more cells next = next_more (length cells) None es more (places_in cells) (length-map cells place_in) next

-- ---- a cell that stays correct

pub cell_shown : (es now : List Entry) (hi : ℕ) (found : CellVersions) → ((q : CellKey) → place_of q ≡ place_in found → get (cells_of now) q ≡ get (cells_of es) q) → IsShown es hi found → IsShown now hi found
cell_shown es now hi found same h = record {
  some = record { key = h.some.key; at = h.some.at; some = subst (λ (o : Option (List ℕ)). IsSome o) (sym (same h.some.key h.some.at)) h.some.some };
  newest = λ q. newest_same (cells_of es) (cells_of now) (version found.row found.family q) hi (of_column found q) (λ s within. same (version found.row found.family q s) refl) (h.newest q);
}

whole_more : (es more : List Entry) (hi : ℕ) (cells : List CellVersions) → AllByRecursion (IsWhole es hi) cells → AllByRecursion (IsWhole (es ++ more) hi) cells
whole_more es more hi [] all = tt
whole_more es more hi (found ∷ cells) all = (
  λ rest list.
      subst (λ (xs : List Entry). IsShown xs hi found) (sym (append_assoc es more rest))
      (all.0 (more ++ rest) (subst IsEntryList (append_assoc es more rest) list)),
  whole_more es more hi cells all.1,
)

whole_now : (es more : List Entry) (hi : ℕ) (cells : List CellVersions) → IsEntryList (es ++ more) → AllByRecursion (IsWhole es hi) cells → AllByRecursion (IsShown (es ++ more) hi) cells
whole_now es more hi [] list all = tt
whole_now es more hi (found ∷ cells) list all = (all.0 more list, whole_now es more hi cells list all.1)

each-join : {A : Type 0} (P : A → Type 0) (xs ys : List A) → AllByRecursion P xs → AllByRecursion P ys → AllByRecursion P (xs ++ ys)
each-join P [] ys p q = q
each-join P (x ∷ xs) ys p q = (p.0, each-join P xs ys p.1 q)

-- ---- the place of a key

begins_place : (k : CellKey) → IsStored k → (place : Place) → IsStoredPlace place → BeginsWith (place_text place.0 place.1) (text k) → place_of k ≡ place
begins_place k stored place is begins =
    let same = one_place (text k) k.row k.family (ended (qualifier_name k.qualifier) ++ stamp_text k.stamp) place.0 place.1 begins.0
    (plain_family k.family stored.family.bytes) (plain_family place.1 is.family.bytes) refl (begins.1 ∙ append_assoc (ended (escaped place.0)) (ended place.1) begins.0) in
    λ i. (same.0 i, same.1.0 i)

place_begins : (k : CellKey) (place : Place) → place_of k ≡ place → BeginsWith (place_text place.0 place.1) (text k)
place_begins k place at = (
  ended (qualifier_name k.qualifier) ++ stamp_text k.stamp,
  text_of_place k ∙ ap (λ (p : Place). place_text p.0 p.1 ++ (ended (qualifier_name k.qualifier) ++ stamp_text k.stamp)) at,
)

then_first : (r s t : Ordering) → ordering_then r (ordering_then s t) ≡ Less → (r ≡ Equal → s ≡ Equal → ⊥) → ordering_then r s ≡ Less
then_first Less s t e other = refl
then_first Equal Less t e other = refl
then_first Equal Equal t e other = absurd (other refl refl)
then_first Equal Greater t e other = cc
then_first Greater s t e other = cc

-- a later text of another place has a later place
later_place : (j k : CellKey) → IsStored j → IsStored k → byte_cmp (text j) (text k) ≡ Less → (place_of k ≡ place_of j → ⊥) → place_cmp (place_of j) (place_of k) ≡ Less
later_place j k a b lower other =
    then_first (byte_cmp j.row k.row) (byte_cmp j.family k.family) _ (sym (text_order j k (stored_key j a) (stored_key k b)) ∙ lower)
    (λ r f. let rows = one_text j.row k.row r in let families = one_text j.family k.family f in other (λ i. (sym rows i, sym families i)))

less_le : (x y z : List ℕ) → byte_cmp x y ≡ Less → is_le (byte_cmp y z) ≡ true → byte_cmp x z ≡ Less
less_le x y z e f = go (byte_cmp y z) refl f
  where
    go : (o : Ordering) → byte_cmp y z ≡ o → is_le o ≡ true → byte_cmp x z ≡ Less
    go Less p t = total.trans x y z e p
    go Equal p t = sym (alike_right total y z x p) ∙ e
    go Greater p t = absurd (let no : false ≡ true = t in cc)

-- keys of a place are below every text past the place
below_later : (q : CellKey) → IsStored q → (place : Place) → place_of q ≡ place → (name : List ℕ) → is_le (byte_cmp (past_place (Some place)) name) ≡ true → byte_cmp (text q) name ≡ Less
below_later q stored place at name up =
    less_le (text q) (past_place (Some place)) name
    (subst (λ (p : Place). byte_cmp (text q) (past_place (Some p)) ≡ Less) at (below_past q stored)) up

-- ---- the last of some cells

last_all : (cells : List CellVersions) (found : CellVersions) → last_or None (places_in (cells ++ found ∷ [])) ≡ Some (place_in found)
last_all cells found = ap (last_or None) (map-append place_in cells (found ∷ [])) ∙ last_append None (places_in cells) (place_in found)

one_less : (front : List CellVersions) (last : CellVersions) → length (front ++ last ∷ []) - 1 ≡ length front
one_less front last = let both = length-append front (last ∷ []) in omega (arith, both)

get_last : (front : List CellVersions) (last : CellVersions) → slice_get (front ++ last ∷ []) (length front) ≡ Some last
get_last [] last = refl
get_last (found ∷ front) last = get_last front last

last_at : (front : List CellVersions) (last : CellVersions) → last_of (front ++ last ∷ []) ≡ Some last
last_at front last = ap (slice_get (front ++ last ∷ [])) (one_less front last) ∙ get_last front last

front_at : (front : List CellVersions) (last : CellVersions) → before_last (front ++ last ∷ []) ≡ front
front_at front last = ap (λ (n : ℕ). take n (front ++ last ∷ [])) (one_less front last) ∙ take-append_seam front (last ∷ [])

-- a list is empty, or it has a last item
pub record HasLast (cells : List CellVersions) : Type 0 where
  pub front : List CellVersions
  pub last : CellVersions
  pub is : cells ≡ front ++ last ∷ []

pub split_last : (cells : List CellVersions) → (cells ≡ []) ⊎ HasLast cells
split_last [] = inl refl
split_last (found ∷ cells) = go (split_last cells)
  where
    go : (cells ≡ []) ⊎ HasLast cells → (found ∷ cells ≡ []) ⊎ HasLast (found ∷ cells)
    go (inl none) = inr (record { front = []; last = found; is = ap (λ (xs : List CellVersions). found ∷ xs) none })
    go (inr s) = inr (record { front = found ∷ s.front; last = s.last; is = ap (λ (xs : List CellVersions). found ∷ xs) s.is })

pub has_last : (cells : List CellVersions) → 0 < length cells → HasLast cells
has_last cells some = go (split_last cells)
  where
    go : (cells ≡ []) ⊎ HasLast cells → HasLast cells
    go (inl none) = let empty = ap length none in absurd (omega (arith, some, empty))
    go (inr s) = s

module _ (cells : List CellVersions) (s : HasLast cells) (n : ℕ) (len : n ≡ length cells) (found : CellVersions) where
  at_front : n - 1 ≡ length s.front
  at_front = ap (λ (k : ℕ). k - 1) (len ∙ ap length s.is) ∙ one_less s.front s.last

  pub read_last : found ≡ get_or cells (n - 1) found → found ≡ s.last
  read_last is = is ∙ ap (λ (k : ℕ). get_or cells k found) at_front ∙ ap (λ (xs : List CellVersions). get_or xs (length s.front) found) s.is ∙ get_or-append_seam s.front s.last [] found

  pub write_last : set cells (n - 1) found ≡ s.front ++ found ∷ []
  write_last = ap (λ (k : ℕ). set cells k found) at_front ∙ ap (λ (xs : List CellVersions). set xs (length s.front) found) s.is ∙ set-append_seam s.front s.last [] found

if_map : {A : Type 0} {P Q : A → Type 0} (o : Option A) → ((x : A) → P x → Q x) → IfSome o P → IfSome o Q
if_map None f h = tt
if_map (Some x) f h = f x h

-- ---- one entry more

-- an erasure changes nothing
pub gathers_erased : (es : List Entry) (name : List ℕ) (g : Gathering) → IsEntryList (es ++ (name, None) ∷ []) → Gathers es g → Gathers (es ++ (name, None) ∷ []) g
gathers_erased es name g list h = record {
  next = cells_next es ((name, None) ∷ []) g.cells.items h.next;
  none = none_more _ es ((name, None) ∷ []) h.none (none_erased _ name);
  whole = whole_more es ((name, None) ∷ []) g.hi (before_last g.cells.items) h.whole;
  last = if_map (last_of g.cells.items) (λ o was. record { text = was.text; shown = cell_shown es (es ++ (name, None) ∷ []) g.hi o (λ q at. get_erased es name list q) was.shown }) h.last;
}

-- a gathering of these entries, made of complete cells and a last one whose place's text is kept
gathers_at : (es : List Entry) (hi : ℕ) (bytes : List ℕ) (front : List CellVersions) (last : CellVersions) → AreNext (IsNextIn es) None (length (front ++ last ∷ [])) (places_in (front ++ last ∷ [])) → IsNextIn es (Some (place_in last)) None
    → AllByRecursion (IsWhole es hi) front → IsShownSoFar es hi bytes last → (new : Gathering) → new.cells.items ≡ front ++ last ∷ [] → new.place.items ≡ bytes → new.hi ≡ hi → Gathers es new
gathers_at es hi bytes front last next none whole shown new cells place stamp = record {
  next = subst (λ (xs : List CellVersions). AreNext (IsNextIn es) None (length xs) (places_in xs)) (sym cells) next;
  none = subst (λ (p : Option Place). IsNextIn es p None) (sym (ap (λ (xs : List CellVersions). last_or None (places_in xs)) cells ∙ last_all front last)) none;
  whole = subst (λ (x : ℕ). AllByRecursion (IsWhole es x) (before_last new.cells.items)) (sym stamp) (subst (AllByRecursion (IsWhole es hi)) (sym (ap before_last cells ∙ front_at front last)) whole);
  last = subst (λ (x : Option CellVersions). IfSome x (IsShownSoFar es new.hi new.place.items)) (sym (ap last_of cells ∙ last_at front last))
      (subst (λ (x : ℕ). IsShownSoFar es x new.place.items last) (sym stamp) (subst (λ (start : List ℕ). IsShownSoFar es hi start last) (sym place) shown));
}

module _ (es : List Entry) (g : Gathering) (h : Gathers es g) (s : HasLast g.cells.items) where
  pub was_last : IsShownSoFar es g.hi g.place.items s.last
  was_last = subst (λ (x : Option CellVersions). IfSome x (IsShownSoFar es g.hi g.place.items)) (ap last_of s.is ∙ last_at s.front s.last) h.last

  was_whole : AllByRecursion (IsWhole es g.hi) s.front
  was_whole = subst (AllByRecursion (IsWhole es g.hi)) (ap before_last s.is ∙ front_at s.front s.last) h.whole

  last_place : last_or None (places_in g.cells.items) ≡ Some (place_in s.last)
  last_place = ap (λ (cells : List CellVersions). last_or None (places_in cells)) s.is ∙ last_all s.front s.last

module _ (es : List Entry) (k : CellKey) (stored : IsStored k) (value : List ℕ) (g : Gathering) (h : Gathers es g) where
  abbrev now : List Entry
  now = es ++ (text k, Some value) ∷ []

  -- a value of the last cell
  pub gathers_taken : IsEntryList now → (s : HasLast g.cells.items) (p : CellVersions) → place_in p ≡ place_in s.last → BeginsWith g.place.items (text k)
      → HasNewest (cells_of now) g.hi p → (new : Gathering) → new.cells.items ≡ s.front ++ p ∷ [] → new.place.items ≡ g.place.items → new.hi ≡ g.hi → Gathers now new
  gathers_taken list s p same begins newest new = gathers_at now g.hi g.place.items s.front p
      (subst (λ (ps : List Place). AreNext (IsNextIn now) None (length (s.front ++ p ∷ [])) ps) (sym places)
      (subst (λ (n : ℕ). AreNext (IsNextIn now) None n (places_in g.cells.items)) lengths (cells_next es ((text k, Some value) ∷ []) g.cells.items h.next)))
      (subst (λ (o : Option Place). IsNextIn now o None) (sym (ap (λ x. Some x) same))
      (none_more _ es ((text k, Some value) ∷ []) (subst (λ (o : Option Place). IsNextIn es o None) (last_place es g h s) h.none)
      (none_below _ (text k) (Some value) (subst (λ (at : Place). byte_cmp (text k) (past_place (Some at)) ≡ Less) at (below_past k stored)))))
      (whole_more es ((text k, Some value) ∷ []) g.hi s.front (was_whole es g h s))
      (record {
        text = record { place = subst IsStoredPlace (sym same) before.text.place; text = before.text.text ∙ sym (ap (λ (x : Place). place_text x.0 x.1) same) };
        shown = record {
          some = record { key = k; at = at ∙ sym same; some = subst (λ (x : Option (List ℕ)). IsSome x) (sym (get_added es k stored value list)) refl };
          newest = newest;
        };
      }) new
    where
      before : IsShownSoFar es g.hi g.place.items s.last
      before = was_last es g h s

      at : place_of k ≡ place_in s.last
      at = begins_place k stored (place_in s.last) before.text.place (subst (λ (start : List ℕ). BeginsWith start (text k)) before.text.text begins)

      places : places_in (s.front ++ p ∷ []) ≡ places_in g.cells.items
      places =
          map-append place_in s.front (p ∷ [])
          ∙ ap (λ (x : Place). places_in s.front ++ x ∷ []) same
          ∙ sym (map-append place_in s.front (s.last ∷ []))
          ∙ sym (ap places_in s.is)

      lengths : length g.cells.items ≡ length (s.front ++ p ∷ [])
      lengths =
          ap length s.is
          ∙ length-append s.front (s.last ∷ [])
          ∙ sym (length-append s.front (p ∷ []))

  module _ (other : IfSome (last_of g.cells.items) (λ o. ¬ BeginsWith g.place.items (text k))) where
    -- a value of another cell is past the last cell
    behind_last : IsEntryList now → (s : HasLast g.cells.items) → is_le (byte_cmp (past_place (Some (place_in s.last))) (text k)) ≡ true
    behind_last list s = go (stored_or_none es (list_front es _ list).each was.shown.some.key)
      where
        was : IsShownSoFar es g.hi g.place.items s.last
        was = was_last es g h s

        others : ¬ BeginsWith g.place.items (text k)
        others = subst (λ (x : Option CellVersions). IfSome x (λ o. ¬ BeginsWith g.place.items (text k))) (ap last_of s.is ∙ last_at s.front s.last) other

        apart : place_of k ≡ place_in s.last → ⊥
        apart same = others (subst (λ (start : List ℕ). BeginsWith start (text k)) (sym was.text.text) (place_begins k (place_in s.last) same))

        at_key : (x : Option (List ℕ)) → get (cells_of es) was.shown.some.key ≡ x → IsSome x → is_le (byte_cmp (past_place (Some (place_in s.last))) (text k)) ≡ true
        at_key None e some = absurd (let no : false ≡ true = some in cc)
        at_key (Some v) e some =
            let low = lower_text es k stored value list was.shown.some.key v e in
            after_past k stored (place_in s.last) was.text.place
            (subst (λ (p : Place). place_cmp p (place_of k) ≡ Less) was.shown.some.at
            (later_place was.shown.some.key k low.0 stored low.1 (λ same. apart (same ∙ was.shown.some.at))))

        go : IsStored was.shown.some.key ⊎ (get (cells_of es) was.shown.some.key ≡ None) → is_le (byte_cmp (past_place (Some (place_in s.last))) (text k)) ≡ true
        go either = at_key (get (cells_of es) was.shown.some.key) refl was.shown.some.some

    -- so is each key of that cell
    at_last : (q : CellKey) → IsStored q → place_of q ≡ place_of k → IsEntryList now → is_le (byte_cmp (past_place (last_or None (places_in g.cells.items))) (text q)) ≡ true
    at_last q stored_q at list = go (split_last g.cells.items)
      where
        go : (g.cells.items ≡ []) ⊎ HasLast g.cells.items → is_le (byte_cmp (past_place (last_or None (places_in g.cells.items))) (text q)) ≡ true
        go (inl none) = ap (λ (cells : List CellVersions). is_le (byte_cmp (past_place (last_or None (places_in cells))) (text q))) none ∙ from_none (text q)
        go (inr s) =
            let place = (was_last es g h s).text.place in
            ap (λ (x : Option Place). is_le (byte_cmp (past_place x) (text q))) (last_place es g h s)
            ∙ after_past q stored_q (place_in s.last) place
            (subst (λ (p : Place). place_cmp (place_in s.last) p ≡ Less) (sym at) (past_after k stored (place_in s.last) place (behind_last list s)))

    -- so the last cell is complete
    last_whole : (more : List Entry) → IsEntryList (es ++ (text k, Some value) ∷ more) → IsEntryList now → (s : HasLast g.cells.items) → IsShown (es ++ (text k, Some value) ∷ more) g.hi s.last
    last_whole more list short s =
        cell_shown es (es ++ (text k, Some value) ∷ more) g.hi s.last
        (λ q at. get_unnamed es ((text k, Some value) ∷ more) list q (λ stored_q. none_behind (text k, Some value) more (text q) (list_back es ((text k, Some value) ∷ more) list).rising (below_later q stored_q (place_in s.last) at (text k) (behind_last short s))))
        (was_last es g h s).shown

    -- all cells gathered before it are complete
    all_shown : (more : List Entry) → IsEntryList (es ++ (text k, Some value) ∷ more) → AllByRecursion (IsShown (es ++ (text k, Some value) ∷ more) g.hi) g.cells.items
    all_shown more list = go (split_last g.cells.items)
      where
        short : IsEntryList now
        short = list_front now more (subst IsEntryList (sym (append_assoc es ((text k, Some value) ∷ []) more)) list)

        go : (g.cells.items ≡ []) ⊎ HasLast g.cells.items → AllByRecursion (IsShown (es ++ (text k, Some value) ∷ more) g.hi) g.cells.items
        go (inl none) = subst (AllByRecursion (IsShown (es ++ (text k, Some value) ∷ more) g.hi)) (sym none) tt
        go (inr s) = subst (AllByRecursion (IsShown (es ++ (text k, Some value) ∷ more) g.hi)) (sym s.is)
            (each-join (IsShown (es ++ (text k, Some value) ∷ more) g.hi) s.front (s.last ∷ [])
            (whole_now es ((text k, Some value) ∷ more) g.hi s.front list (was_whole es g h s))
            (last_whole more list short s, tt))

    pub gathers_stopped : (more : List Entry) → IsEntryList (es ++ (text k, Some value) ∷ more) → AreVersionsIn (es ++ (text k, Some value) ∷ more) g.hi g.cells.items false
    gathers_stopped more list = record {
      next = cells_next es ((text k, Some value) ∷ more) g.cells.items h.next;
      shown = all_shown more list;
      last = λ e. absurd (let no : false ≡ true = e in cc);
    }

    whole_each : (cells : List CellVersions) → ((more : List Entry) → IsEntryList (now ++ more) → AllByRecursion (IsShown (now ++ more) g.hi) cells) → AllByRecursion (IsWhole now g.hi) cells
    whole_each [] f = tt
    whole_each (found ∷ cells) f = (λ more list. (f more list).0, whole_each cells (λ more list. (f more list).1))

    all_whole : AllByRecursion (IsWhole now g.hi) g.cells.items
    all_whole = whole_each g.cells.items (λ more list.
        subst (λ (xs : List Entry). AllByRecursion (IsShown xs g.hi) g.cells.items) (sym (append_assoc es ((text k, Some value) ∷ []) more))
        (all_shown more (subst IsEntryList (append_assoc es ((text k, Some value) ∷ []) more) list)))

    -- no key of its cell came before
    pub none_there : IsEntryList now → ¬ HasCell (cells_of es) (place_of k)
    none_there list cell = go (stored_or_none es (list_front es _ list).each cell.key)
      where
        past : List ℕ
        past = past_place (last_or None (places_in g.cells.items))

        hidden : (b : Bool) (x : Option (Option (List ℕ))) → b ≡ true → value_of (cond b x None) ≡ value_of x
        hidden true x e = refl
        hidden false x e = cc

        no_value : (o : Option (List ℕ)) → o ≡ None → IsSome o → ⊥
        no_value None e some = absurd (let no : false ≡ true = some in cc)
        no_value (Some v) e some = cc

        go : IsStored cell.key ⊎ (get (cells_of es) cell.key ≡ None) → ⊥
        go (inr e) = no_value _ e cell.some
        go (inl s) =
            no_value (get (cells_of es) cell.key)
            (get-cells_of es (list_front es _ list).each cell.key s
            ∙ sym (hidden (is_le (byte_cmp past (text cell.key))) (entry_of_key es (text cell.key)) (at_last cell.key s cell.at list))
            ∙ sym (ap value_of (find-filter (λ n. is_le (byte_cmp past n)) es (text cell.key)))
            ∙ first_none (entries_from past es) h.none (text cell.key))
            cell.some

    -- and it is the next cell
    pub gathers_begun : IsEntryList now → (o : CellVersions) (start : List ℕ) → HasPlaceText o start → place_of k ≡ place_in o
        → (¬ HasCell (cells_of es) (place_in o) → HasNewest (cells_of now) g.hi o)
        → (new : Gathering) → new.cells.items ≡ g.cells.items ++ o ∷ [] → new.place.items ≡ start → new.hi ≡ g.hi → Gathers now new
    gathers_begun list o start text_of at newest = gathers_at now g.hi start g.cells.items o next (subst (λ (p : Place). IsNextIn now (Some p) None) at none_left) all_whole (record {
      text = text_of;
      shown = record {
        some = record { key = k; at = at; some = subst (λ (x : Option (List ℕ)). IsSome x) (sym (get_added es k stored value list)) refl };
        newest = newest (subst (λ (p : Place). ¬ HasCell (cells_of es) p) at (none_there list));
      };
    })
      where
        past : List ℕ
        past = past_place (last_or None (places_in g.cells.items))

        first_now : first_value (entries_from past now) ≡ Some (text k, value)
        first_now =
            from_more past es ((text k, Some value) ∷ [])
            ∙ ap (λ (x : Option (List ℕ × List ℕ)). or_else x (first_value (entries_from past ((text k, Some value) ∷ [])))) h.none
            ∙ some_from past (text k) value (at_last k stored refl list)

        named : IsNextIn now (last_or None (places_in g.cells.items)) (Some (place_in o))
        named = record { key = k; value = value; stored = stored; at = at; is = first_now }

        next : AreNext (IsNextIn now) None (length (g.cells.items ++ o ∷ [])) (places_in (g.cells.items ++ o ∷ []))
        next =
            subst (λ (ps : List Place). AreNext (IsNextIn now) None (length (g.cells.items ++ o ∷ [])) ps) (sym (map-append place_in g.cells.items (o ∷ [])))
            (next_append (IsNextIn now) (length g.cells.items) 1 (length (g.cells.items ++ o ∷ [])) None (places_in g.cells.items) (place_in o ∷ [])
            (length-map g.cells.items place_in) (length-append g.cells.items (o ∷ []))
            (cells_next es ((text k, Some value) ∷ []) g.cells.items h.next)
            (next_one (IsNextIn now) (last_or None (places_in g.cells.items)) (place_in o) named))

        none_left : first_value (entries_from (past_place (Some (place_of k))) now) ≡ None
        none_left = ap first_value (sym (left_after (past_place (Some (place_of k))) es (text k, Some value) [] list.rising (below_past k stored)))

-- ---- the end

-- the gathering after the last entry
pub gathers_ended : (es : List Entry) (g : Gathering) → IsEntryList es → Gathers es g → AreVersionsIn es g.hi g.cells.items true
gathers_ended es g list h = record {
  next = h.next;
  shown = go (split_last g.cells.items);
  last = λ e. h.none;
}
  where
    now_shown : (cells : List CellVersions) → AllByRecursion (IsWhole es g.hi) cells → AllByRecursion (IsShown es g.hi) cells
    now_shown [] all = tt
    now_shown (found ∷ cells) all = (subst (λ (xs : List Entry). IsShown xs g.hi found) (append-nil es) (all.0 [] (subst IsEntryList (sym (append-nil es)) list)), now_shown cells all.1)

    go : (g.cells.items ≡ []) ⊎ HasLast g.cells.items → AllByRecursion (IsShown es g.hi) g.cells.items
    go (inl none) = subst (AllByRecursion (IsShown es g.hi)) (sym none) tt
    go (inr s) = subst (AllByRecursion (IsShown es g.hi)) (sym s.is) (each-join (IsShown es g.hi) s.front (s.last ∷ []) (now_shown s.front (was_whole es g h s)) ((was_last es g h s).shown, tt))

-- ---- entries by their texts

last_entry : (es : List Entry) (e : Entry) (more : List Entry) → IsEntryList (es ++ e ∷ more) → IsEntry e
last_entry es e more list = (list_back es (e ∷ more) list).each.0

module _ (es : List Entry) (name value : List ℕ) (g : Gathering) (h : Gathers es g) where
  pub taken_named : IsEntryList (es ++ (name, Some value) ∷ []) → (s : HasLast g.cells.items) (p : CellVersions) → place_in p ≡ place_in s.last → BeginsWith g.place.items name
      → HasNewest (cells_of (es ++ (name, Some value) ∷ [])) g.hi p → (new : Gathering) → new.cells.items ≡ s.front ++ p ∷ [] → new.place.items ≡ g.place.items → new.hi ≡ g.hi → Gathers (es ++ (name, Some value) ∷ []) new
  taken_named list s p same begins newest new cells place hi =
      let last = last_entry es (name, Some value) [] list in
      subst (λ (n : List ℕ). IsEntryList (es ++ (n, Some value) ∷ []) → BeginsWith g.place.items n → HasNewest (cells_of (es ++ (n, Some value) ∷ [])) g.hi p → Gathers (es ++ (n, Some value) ∷ []) new) (sym last.named)
      (λ list begins newest. gathers_taken es last.key last.stored value g h list s p same begins newest new cells place hi) list begins newest

  pub stopped_named : (more : List Entry) → IfSome (last_of g.cells.items) (λ o. ¬ BeginsWith g.place.items name) → IsEntryList (es ++ (name, Some value) ∷ more) → AreVersionsIn (es ++ (name, Some value) ∷ more) g.hi g.cells.items false
  stopped_named more other list =
      let last = last_entry es (name, Some value) more list in
      subst (λ (n : List ℕ). IfSome (last_of g.cells.items) (λ o. ¬ BeginsWith g.place.items n) → IsEntryList (es ++ (n, Some value) ∷ more) → AreVersionsIn (es ++ (n, Some value) ∷ more) g.hi g.cells.items false) (sym last.named)
      (λ other list. gathers_stopped es last.key last.stored value g h other more list) other list

  pub begun_named : IfSome (last_of g.cells.items) (λ o. ¬ BeginsWith g.place.items name) → IsEntryList (es ++ (name, Some value) ∷ []) → (new : Gathering) → Begins name value g new → new.hi ≡ g.hi → Gathers (es ++ (name, Some value) ∷ []) new
  begun_named other list new begun hi =
      subst (λ (n : List ℕ). IfSome (last_of g.cells.items) (λ o. ¬ BeginsWith g.place.items n) → IsEntryList (es ++ (n, Some value) ∷ [])
      → (¬ HasCell (cells_of es) (place_in begun.cell) → HasNewest (cells_of (es ++ (n, Some value) ∷ [])) g.hi begun.cell) → Gathers (es ++ (n, Some value) ∷ []) new) (sym begun.of.is)
      (λ other list newest. gathers_begun es begun.of.key begun.of.stored value g h other list begun.cell new.place.items begun.text begun.of.at newest new begun.after refl hi) other list
      (subst (λ (stamp : ℕ). ¬ HasCell (cells_of es) (place_in begun.cell) → HasNewest (cells_of (es ++ (name, Some value) ∷ [])) stamp begun.cell) hi (begun.newest es list))

-- ---- one cell

same_or_other : (p q : Qualifier) → (p ≡ q) ⊎ (p ≢ q)
same_or_other Data Data = inl refl
same_or_other Data Lock = inr (λ e. cc)
same_or_other Data Write = inr (λ e. cc)
same_or_other Lock Data = inr (λ e. cc)
same_or_other Lock Lock = inl refl
same_or_other Lock Write = inr (λ e. cc)
same_or_other Write Data = inr (λ e. cc)
same_or_other Write Lock = inr (λ e. cc)
same_or_other Write Write = inl refl

module _ (start : List ℕ) (o : CellVersions) (is : HasPlaceText o start) (name rest : List ℕ) (begins : name ≡ start ++ rest) where
  abbrev row : List ℕ
  row = o.row

  abbrev family : List ℕ
  family = o.family

  -- a text with the place's text as a prefix, and no qualifier and stamp after it, is not a key's
  pub not_key : ((q : Qualifier) (s : ℕ) → rest ≢ ended (qualifier_name q) ++ stamp_text s) → ¬ IsKeyText name
  not_key none key =
      none key.key.qualifier key.key.stamp
      (after_place name row family rest (plain_family family is.place.family.bytes) (begins ∙ ap (λ (start : List ℕ). start ++ rest) is.text) key)

  module _ (q : Qualifier) (s : ℕ) (ends : rest ≡ ended (qualifier_name q) ++ stamp_text s) (small : s < 2 ^ 64) (es : List Entry) (value : List ℕ) (hi : ℕ) where
    named : name ≡ text (version row family q s)
    named = begins ∙ ap (λ (start : List ℕ). start ++ rest) is.text ∙ ap (λ (end : List ℕ). place_text row family ++ end) ends ∙ sym (text_of_place (version row family q s))

    is_stored : IsEntryList (es ++ (name, Some value) ∷ []) → IsStored (version row family q s)
    is_stored list =
        let last = last_entry es (name, Some value) [] list in
        subst IsStored (sym (text_exact (version row family q s) last.key (record { family = plain_family family is.place.family.bytes; stamp = small }) (stored_plain last.key last.stored) (sym named ∙ last.named))) last.stored

    texts : IsEntryList (es ++ (name, Some value) ∷ []) → IsEntryList (es ++ (text (version row family q s), Some value) ∷ [])
    texts list = subst (λ (n : List ℕ). IsEntryList (es ++ (n, Some value) ∷ [])) named list

    -- a version above `hi` changes nothing
    pub above_newest : IsEntryList (es ++ (name, Some value) ∷ []) → hi < s → HasNewest (cells_of es) hi o → HasNewest (cells_of (es ++ (name, Some value) ∷ [])) hi o
    above_newest list up h = subst (λ (n : List ℕ). HasNewest (cells_of (es ++ (n, Some value) ∷ [])) hi o) (sym named)
        (λ p. newest_above es row family q s (is_stored list) value (texts list) hi up p (of_column o p) (h p))

    -- another one is kept, if it is the first of its column
    pub kept_newest : IsEntryList (es ++ (name, Some value) ∷ []) → s ≤ hi → (new : CellVersions) → Keeps q (s, value) o new → HasNewest (cells_of es) hi o → HasNewest (cells_of (es ++ (name, Some value) ∷ [])) hi new
    kept_newest list within new keeps h = subst (λ (n : List ℕ). HasNewest (cells_of (es ++ (n, Some value) ∷ [])) hi new) (sym named) (λ p. at_place p (go p (same_or_other p q)))
      where
        after : Cells
        after = cells_of (es ++ (text (version row family q s), Some value) ∷ [])

        at_place : (p : Qualifier) → IsNewest after (version row family p) 0 hi (of_column new p) → IsNewest after (version new.row new.family p) 0 hi (of_column new p)
        at_place p found = subst (λ (x : Place). IsNewest after (version x.0 x.1 p) 0 hi (of_column new p)) (sym keeps.place) found

        go : (p : Qualifier) → (p ≡ q) ⊎ (p ≢ q) → IsNewest after (version row family p) 0 hi (of_column new p)
        go p (inl same) = subst (λ (x : Qualifier). IsNewest after (version row family x) 0 hi (of_column new x)) (sym same)
            (subst (λ (found : Option (ℕ × List ℕ)). IsNewest after (version row family q) 0 hi found) (sym keeps.column)
            (newest_kept es row family q s (is_stored list) value (texts list) hi within (of_column o q) (h q)))
        go p (inr other) = subst (λ (found : Option (ℕ × List ℕ)). IsNewest after (version row family p) 0 hi found) (sym (keeps.others p other))
            (newest_beside es row family q s (is_stored list) value (texts list) hi p other (of_column o p) (h p))

-- the cell has no versions
abbrev IsEmpty : CellVersions → Type 0
IsEmpty found = (qualifier : Qualifier) → of_column found qualifier ≡ None

-- a cell without versions is right for entries that have no key of it
newest_empty : (es : List Entry) (hi : ℕ) (found : CellVersions) → IsEmpty found → ¬ HasCell (cells_of es) (place_in found) → HasNewest (cells_of es) hi found
newest_empty es hi found empty none p =
    subst (λ (x : Option (ℕ × List ℕ)). IsNewest (cells_of es) (version found.row found.family p) 0 hi x) (sym (empty p))
    (λ s low high. go (version found.row found.family p s) refl (get (cells_of es) (version found.row found.family p s)) refl)
  where
    go : (q : CellKey) → place_of q ≡ place_in found → (x : Option (List ℕ)) → get (cells_of es) q ≡ x → get (cells_of es) q ≡ None
    go q at None e = e
    go q at (Some v) e = absurd (none (record { key = q; at = at; some = subst (λ (o : Option (List ℕ)). IsSome o) (sym e) refl }))

-- a key's cell, before it gets its value
abbrev pub bare_cell : CellKey → CellVersions
bare_cell key = record { row = key.row; family = key.family; «data» = None; lock = None; write = None }

bare_empty : (key : CellKey) → IsEmpty (bare_cell key)
bare_empty key Data = refl
bare_empty key Lock = refl
bare_empty key Write = refl

-- a new cell for a key
module _ (start : List ℕ) (o : CellVersions) (key : CellKey) (stored : IsStored key) (bare : o ≡ bare_cell key) (place : start ≡ place_text key.row key.family) where
  at : place_in o ≡ place_of key
  at = ap place_in bare

  pub opened_text : HasPlaceText o start
  opened_text = record {
    place = subst IsStoredPlace (sym at) (record { row = stored.row; family = stored.family });
    text = place ∙ sym (ap (λ (x : Place). place_text x.0 x.1) at);
  }

  pub opened_kept_text : (new : CellVersions) → place_in new ≡ place_in o → HasPlaceText new start
  opened_kept_text new same = record {
    place = subst IsStoredPlace (sym same) opened_text.place;
    text = opened_text.text ∙ sym (ap (λ (x : Place). place_text x.0 x.1) same);
  }

  module _ (name : List ℕ) (named : name ≡ text key) (es : List Entry) (value : List ℕ) (hi : ℕ) (list : IsEntryList (es ++ (name, Some value) ∷ [])) where
    abbrev rest : List ℕ
    rest = ended (qualifier_name key.qualifier) ++ stamp_text key.stamp

    begins : name ≡ start ++ rest
    begins = named ∙ text_of_place key ∙ ap (λ (start : List ℕ). start ++ rest) (sym place)

    small : key.stamp < 2 ^ 64
    small = omega (arith, stored.to)

    none_before : ¬ HasCell (cells_of es) (place_in o) → HasNewest (cells_of es) hi o
    none_before = newest_empty es hi o (subst IsEmpty (sym bare) (bare_empty key))

    -- if its value is above `hi`, the cell has no versions
    pub opened_above : hi < key.stamp → ¬ HasCell (cells_of es) (place_in o) → HasNewest (cells_of (es ++ (name, Some value) ∷ [])) hi o
    opened_above up none = above_newest start o opened_text name rest begins key.qualifier key.stamp refl small es value hi list up (none_before none)

    -- otherwise the cell keeps it
    pub opened_kept : key.stamp ≤ hi → (new : CellVersions) → Keeps key.qualifier (key.stamp, value) o new → ¬ HasCell (cells_of es) (place_in new) → HasNewest (cells_of (es ++ (name, Some value) ∷ [])) hi new
    opened_kept within new keeps none = kept_newest start o opened_text name rest begins key.qualifier key.stamp refl small es value hi list within new keeps
        (none_before (subst (λ (p : Place). ¬ HasCell (cells_of es) p) keeps.place none))

-- a gathering begins a cell with its value, or without it if the value is above `hi`
module _ (bytes value : List ℕ) (old new : Gathering) (key : CellKey) (stored : IsStored key) (named : bytes ≡ text key) (place : new.place.items ≡ place_text key.row key.family) where
  pub begins_above : new.hi < key.stamp → new.cells.items ≡ old.cells.items ++ bare_cell key ∷ [] → Begins bytes value old new
  begins_above up after = record {
    cell = bare_cell key;
    after = after;
    text = opened_text new.place.items (bare_cell key) key stored refl place;
    of = record { key = key; stored = stored; at = refl; is = named };
    newest = λ es list none. opened_above new.place.items (bare_cell key) key stored refl place bytes named es value new.hi list up none;
  }

  pub begins_kept : key.stamp ≤ new.hi → (cell : CellVersions) → Keeps key.qualifier (key.stamp, value) (bare_cell key) cell → new.cells.items ≡ old.cells.items ++ cell ∷ [] → Begins bytes value old new
  begins_kept within cell keeps after = record {
    cell = cell;
    after = after;
    text = opened_kept_text new.place.items (bare_cell key) key stored refl place cell keeps.place;
    of = record { key = key; stored = stored; at = sym keeps.place; is = named };
    newest = λ es list none. opened_kept new.place.items (bare_cell key) key stored refl place bytes named es value new.hi list within cell keeps none;
  }

-- the text of a place as a prefix of a key's text
pub place_part : (bytes : List ℕ) (k : CellKey) (name : List ℕ) → bytes ≡ text k → name ≡ qualifier_name k.qualifier → take (length bytes - length name - 10) bytes ≡ place_text k.row k.family
place_part bytes k name is names =
    let whole = is ∙ text_of_place k in
    let stamp : length (stamp_text k.stamp) ≡ 8 = refl in
    let ending : length (ended (qualifier_name k.qualifier)) ≡ length (qualifier_name k.qualifier) + 2 = length-append (qualifier_name k.qualifier) (0 ∷ 0 ∷ []) in
    let tail = length-append (ended (qualifier_name k.qualifier)) (stamp_text k.stamp) in
    let all = ap length whole ∙ length-append (place_text k.row k.family) (ended (qualifier_name k.qualifier) ++ stamp_text k.stamp) in
    let lens = ap length names in
    let front : length bytes - length name - 10 ≡ length (place_text k.row k.family) = omega (arith, all, tail, ending, stamp, lens) in
    ap (λ (n : ℕ). take n bytes) front ∙ ap (take (length (place_text k.row k.family))) whole ∙ take-append_seam (place_text k.row k.family) (ended (qualifier_name k.qualifier) ++ stamp_text k.stamp)

-- ---- answers

pub on_false : {A : Type 0} (b : Bool) → b ≡ false → OnFalse b A → A
on_false true e a = cc
on_false false e a = a
