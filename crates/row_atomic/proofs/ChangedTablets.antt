-- Effects on the cluster of calls that change one tablet.
use Rattle.std.proofs.Common.{◌≡◌, ◌≢◌, ◌≤◌, ◌<◌, ◌+◌, ◌-◌, ◌^◌, inl, inr, ℕ, zero, suc, Bool, true, false, cond, nat_eq, List, [], ◌∷◌, map, set, length, get_or, Option, Some, None, IfSome, Result, Ok, Err, OnOk, OnErr, slice_get, slice_index_or, refl, sym, ap, ◌∙◌, subst, arith}
use Rattle.std.proofs.lemmas.Option.{same_Some}
use Rattle.std.proofs.lemmas.List.{length-map, length-set}
use Rattle.std.specs.List.{AllByRecursion, Contains}
use Rattle.cell_key.specs.Entries.{Entry, merged}
use Rattle.cell_key.specs.declared.refusals.Refusal.{Refusal}
use Rattle.compaction.specs.Writing.{only_written, written}
use Rattle.file_store.specs.Store.{Contents}
use Rattle.sorted_file.specs.File.{listed, name_of}
use Rattle.sorted_file.specs.declared.file.SortedFile.{SortedFile}
use Rattle.metadata_table.specs.Places.{PlaceView}
use Rattle.metadata_table.specs.Table.{HasTablet, with_files, naming}
use Rattle.tablet.specs.Ranges.{seen}
use Rattle.tablet.specs.Views.{Holds, IsBelow, IsUnchanged, Keeps, MakesLists, UsesName, range_of, memory_of, files_of, names_of}
use Rattle.tablet.specs.Laws.{OthersStay}
use Rattle.tablet.specs.declared.tablet.Tablet.{Tablet}
use Rattle.row_atomic.specs.Clusters.{ArePlaced, InOrder, IsMatched, cells_in, spot_of, tablet_numbered}
use Rattle.row_atomic.specs.Changes.{HasValue, IsAt, IsBadCount, LacksErasures, Numbered, Remakes, parts_of}
use Rattle.row_atomic.proofs.RowAnswers.{found_there, matched_set}
use Rattle.metadata_table.specs.Roots.{AreFiles}
use Rattle.row_atomic.proofs.FileNames.{later_files, listed_files, no_less}
use Rattle.row_atomic.proofs.PlacedTablets.{is_placed, placed_files}
use Rattle.row_atomic.proofs.Shares.{each_at, keeps_cells, set_there, set_elsewhere}

-- ---- numbers and indices

pub numbered_at : (ts : List Tablet) (n i : ℕ) (t : Tablet) → n ≡ i + 1 → slice_get ts i ≡ Some t → tablet_numbered n ts ≡ Some t
numbered_at ts n i t e there =
    let number : n ≡ suc i = omega arith in
    ap (λ (k : ℕ). tablet_numbered k ts) number ∙ there

-- there is a tablet with the number
pub record IsKnown (ts : List Tablet) (n : ℕ) : Type 0 where
  pub from : 1 ≤ n
  pub at : IsAt n ts (n - 1)

known_at : (ts : List Tablet) (n : ℕ) (t : Tablet) → tablet_numbered n ts ≡ Some t → IsKnown ts n
known_at ts zero t e = cc
known_at ts (suc i) t e =
    let less : suc i - 1 ≡ i = omega arith in
    record { from = omega arith; at = record { number = omega arith; tablet = t; there = subst (λ (k : ℕ). slice_get ts k ≡ Some t) (sym less) e } }

pub contained : {A : Type 0} (P : A → Type 0) (xs : List A) (x : A) → AllByRecursion P xs → Contains xs x → P x
contained {A = A} P xs x all there = at xs there.0 all there.1 there.2
  where
    at : (ys : List A) (i : ℕ) → AllByRecursion P ys → i < length ys → get_or ys i x ≡ x → P x
    at [] i all below e = absurd (omega arith)
    at (y ∷ ys) zero all below e = subst P e all.0
    at (y ∷ ys) (suc i) all below e = at ys i all.1 (omega arith) e

pub known : (places : List PlaceView) (ts : List Tablet) (n : ℕ) → ArePlaced ts None places → HasTablet n places → IsKnown ts n
known places ts n placed has =
    let all : AllByRecursion (λ q. IsKnown ts q.tablet) places = is_placed (λ q. IsKnown ts q.tablet) ts (λ before q h. known_at ts q.tablet h.tablet h.numbered) None places placed in
    subst (IsKnown ts) has.2 (contained (λ q. IsKnown ts q.tablet) places has.0 all has.1)

-- ---- one tablet is replaced

module _ (ts : List Tablet) (i : ℕ) (t u : Tablet) (there : slice_get ts i ≡ Some t) where
  pub remade : (Made : Tablet → Tablet → Type 0) (n : ℕ) → n ≡ i + 1 → Made t u → Remakes Made n ts (set ts i u)
  remade Made n e made = record {
    was = t;
    is = u;
    was_numbered = numbered_at ts n i t e there;
    is_numbered = numbered_at (set ts i u) n i u e (set_there ts i t u there);
    made = made;
    others = others;
  }
    where
      differ : (j : ℕ) → suc j ≢ n → j ≢ i
      differ j other same = other (omega arith)

      others : (other : ℕ) → other ≢ n → tablet_numbered other (set ts i u) ≡ tablet_numbered other ts
      others zero other = refl
      others (suc j) other = set_elsewhere ts i j u (differ j other)

  pub numbered_new : (P : Tablet → Type 0) (n : ℕ) → n ≡ i + 1 → P u → Numbered P n (set ts i u)
  numbered_new P n e such = record { tablet = u; numbered = numbered_at (set ts i u) n i u e (set_there ts i t u there); such = such }

  pub numbered_old : (P : Tablet → Type 0) (n : ℕ) → n ≡ i + 1 → P t → Numbered P n ts
  numbered_old P n e such = record { tablet = t; numbered = numbered_at ts n i t e there; such = such }

  -- a tablet that is unchanged
  same_parts : (range_of u ≡ range_of t) → (memory_of u ≡ memory_of t) → (files_of u ≡ files_of t) → parts_of u ≡ parts_of t
  same_parts range memory files = ap (λ r. (r, (memory_of u, files_of u))) range ∙ ap (λ m. (range_of t, (m, files_of u))) memory ∙ ap (λ f. (range_of t, (memory_of t, f))) files

  pub parts_stay : IsUnchanged t u → map parts_of (set ts i u) ≡ map parts_of ts
  parts_stay same = map_stays ts i there
    where
      map_stays : (xs : List Tablet) (j : ℕ) → slice_get xs j ≡ Some t → map parts_of (set xs j u) ≡ map parts_of xs
      map_stays [] j e = refl
      map_stays (x ∷ xs) zero e = ap (λ p. p ∷ map parts_of xs) (same_parts same.range same.memory same.files ∙ ap parts_of (sym (same_Some x t e)))
      map_stays (x ∷ xs) (suc j) e = ap (λ ps. parts_of x ∷ ps) (map_stays xs j e)

  pub stays : OthersStay → (old new : Option Contents) (before after : ℕ) → UsesName old before new after → Keeps old before t new after u → InOrder old before ts
      → InOrder new after (set ts i u) × (cells_in new (set ts i u) ≡ cells_in old ts)
  stays law old new before after uses keeps order =
      let kept = keeps_cells law old new before after ts i t u there uses keeps order in
      (kept.in_order, kept.same)

-- ---- the structure

from_next : (old new : Option Contents) (before after : ℕ) → UsesName old before new after → 1 ≤ before → 1 ≤ after
from_next old new before after (inl h) from = let e = h.0 in omega arith
from_next old new before after (inr h) from = let e = h.0 in omega arith

pub matched_next : (limit : ℕ) (old new : Option Contents) (before after : ℕ) (places : List PlaceView) (ts : List Tablet) → UsesName old before new after → (before ≤ 2 ^ 63 → after ≤ 2 ^ 63) → IsMatched limit before places ts → IsMatched limit after places ts
matched_next limit old new before after places ts uses to matched = record {
  limit = matched.limit;
  named_from = from_next old new before after uses matched.named_from;
  named_to = to matched.named_to;
  placed = matched.placed;
  as_many = matched.as_many;
  files = later_files before after (no_less old new before after uses) places matched.files;
}

-- if the call was refused
pub matched_unchanged : (limit : ℕ) (old new : Option Contents) (before after : ℕ) (places : List PlaceView) (ts : List Tablet) (i : ℕ) (t u : Tablet) → slice_get ts i ≡ Some t → UsesName old before new after → (before ≤ 2 ^ 63 → after ≤ 2 ^ 63) → IsUnchanged t u → IsMatched limit before places ts → IsMatched limit after places (set ts i u)
matched_unchanged limit old new before after places ts i t u there uses to same matched =
    matched_set limit after places ts i t u there same.range (ap (λ (files : List SortedFile). map name_of files) same.files) (matched_next limit old new before after places ts uses to matched)

-- if the place lists the new names
pub matched_listed : (limit : ℕ) (old new : Option Contents) (before after : ℕ) (places places' : List PlaceView) (ts : List Tablet) (n i : ℕ) (t u : Tablet) → n ≡ i + 1 → slice_get ts i ≡ Some t → UsesName old before new after → (before ≤ 2 ^ 63 → after ≤ 2 ^ 63) → range_of u ≡ range_of t → places' ≡ with_files n (names_of u) places → AreFiles after (names_of u) → IsMatched limit before places ts → IsMatched limit after places' (set ts i u)
matched_listed limit old new before after places places' ts n i t u e there uses to range listed names matched =
    let number : n ≡ suc i = omega arith in
    let is : places' ≡ with_files (suc i) (names_of u) places = listed ∙ ap (λ (k : ℕ). with_files k (names_of u) places) number in
    record {
      limit = matched.limit;
      named_from = from_next old new before after uses matched.named_from;
      named_to = to matched.named_to;
      placed = subst (λ (ps : List PlaceView). ArePlaced (set ts i u) None ps) (sym is) (placed_files ts i t u there range None places matched.placed);
      as_many = length-set ts i u ∙ matched.as_many ∙ sym (length-map places (naming (suc i) (names_of u))) ∙ ap (λ (ps : List PlaceView). length ps) (sym is);
      files = subst (λ (ps : List PlaceView). AllByRecursion (λ p. AreFiles after p.files) ps) (sym listed) (listed_files after n (names_of u) names places (later_files before after (no_less old new before after uses) places matched.files));
    }

-- new files don't change the spots
pub same_spots : (n : ℕ) (names : List ℕ) (places : List PlaceView) → map spot_of (with_files n names places) ≡ map spot_of places
same_spots n names [] = refl
same_spots n names (p ∷ ps) = ap (λ s. s ∷ map spot_of (with_files n names ps)) (one (nat_eq p.tablet n)) ∙ ap (λ ss. spot_of p ∷ ss) (same_spots n names ps)
  where
    one : (b : Bool) → spot_of (cond b (record p { files = names }) p) ≡ spot_of p
    one true = refl
    one false = refl

-- ---- the tablet at the index

-- it is the tablet that was put there
pub is_set : (ts : List Tablet) (i : ℕ) (t u x : Tablet) → slice_get ts i ≡ Some t → x ≡ slice_index_or (set ts i u) i x → x ≡ u
is_set ts i t u x there is =
    let put = set_there ts i t u there in
    same_Some x u (sym (found_there (set ts i u) i u x put is) ∙ put)

pub is_there : (ts : List Tablet) (i : ℕ) (t x : Tablet) → slice_get ts i ≡ Some t → x ≡ slice_index_or ts i x → x ≡ t
is_there ts i t x there is = same_Some x t (sym (found_there ts i t x there is) ∙ there)

pub has_room : (ts : List Tablet) (i : ℕ) (t u x y : Tablet) (capacity : ℕ) → slice_get ts i ≡ Some t → x ≡ slice_index_or ts i x → y ≡ slice_index_or (set ts i u) i y → length (names_of x) + 1 ≤ capacity → length (names_of u) ≤ length (names_of t) + 1 → length (names_of y) ≤ capacity
has_room ts i t u x y capacity there x_is y_is room few =
    let before = ap (λ (v : Tablet). length (names_of v)) (is_there ts i t x there x_is) in
    let after = ap (λ (v : Tablet). length (names_of v)) (is_set ts i t u y there y_is) in
    omega arith

-- ---- no erasures

kept_valued : (es : List Entry) → AllByRecursion HasValue (only_written false es)
kept_valued [] = tt
kept_valued ((text, None) ∷ es) = kept_valued es
kept_valued ((text, Some value) ∷ es) = (refl, kept_valued es)

-- a tablet has no erasures after a major compaction
pub cleaned : (old : Option Contents) (before : ℕ) (t : Tablet) (new : Option Contents) (u : Tablet) → MakesLists old before t new u (λ memory lists. [] ∷ written false (map (seen (range_of t)) (memory ∷ lists)) ∷ []) → IfSome old (λ m. Holds m t → IsBelow before t → LacksErasures new u)
cleaned None before t new u made = tt
cleaned (Some m) before t None u made = λ holds below. absurd (made holds below)
cleaned (Some m) before t (Some n) u made = λ holds below.
    subst (λ (lists : List (List Entry)). AllByRecursion (λ es. AllByRecursion HasValue es) lists) (sym (made holds below))
    (tt, (kept_valued (merged (map (seen (range_of t)) (memory_of t ∷ map (listed m) (files_of t)))), tt))

-- a call's fact about one tablet holds if the tablets are in order
pub at_order : (P : Contents → Type 0) (o : Option Contents) (next : ℕ) (ts : List Tablet) (i : ℕ) (t : Tablet) → slice_get ts i ≡ Some t → InOrder o next ts → IfSome o (λ m. Holds m t → P m) → IfSome o P
at_order P None next ts i t there order h = tt
at_order P (Some m) next ts i t there order h =
    let holds = subst (λ (o : Option Contents). IfSome o (λ n. AllByRecursion (Holds n) ts)) (sym order.on_disk) order.each_open in
    h (each_at (Holds m) ts holds i t there)

pub on_ok : {A : Type 0} (P Q : Type 0) (r : Result A Refusal) → (P → Q) → OnOk r P → OnOk r Q
on_ok P Q (Ok x) f h = f h
on_ok P Q (Err e) f h = h

pub if_ok : {A : Type 0} (P : Type 0) (r : Result A Refusal) → P → OnOk r P
if_ok P (Ok x) h = h
if_ok P (Err e) h = tt

pub if_err : {A : Type 0} (P : Type 0) (r : Result A Refusal) → P → OnErr r P
if_err P (Ok x) h = tt
if_err P (Err e) h = h

-- a fact about known contents holds if the tablets are in order
pub in_order : (P : Type 0) (o : Option Contents) (next : ℕ) (ts : List Tablet) (i : ℕ) (t : Tablet) → slice_get ts i ≡ Some t → InOrder o next ts → IfSome o (λ m. Holds m t → IsBelow next t → P) → P
in_order P None next ts i t there order h = absurd (not_told order.contents order.on_disk)
  where
    not_told : (m : Contents) → None ≡ Some m → ⊥
    not_told m e = cc
in_order P (Some m) next ts i t there order h =
    let holds = subst (λ (o : Option Contents). IfSome o (λ n. AllByRecursion (Holds n) ts)) (sym order.on_disk) order.each_open in
    h (each_at (Holds m) ts holds i t there) (each_at (IsBelow next) ts order.each_below i t there)

-- ---- counts of files

same_numbered : (ts : List Tablet) (n : ℕ) (t v : Tablet) → tablet_numbered n ts ≡ Some t → tablet_numbered n ts ≡ Some v → t ≡ v
same_numbered ts n t v e h = cc

pub too_few : (ts : List Tablet) (n i count : ℕ) (t : Tablet) → n ≡ i + 1 → slice_get ts i ≡ Some t → count < 2 → Numbered (IsBadCount count) n ts
too_few ts n i count t e there few = record { tablet = t; numbered = numbered_at ts n i t e there; such = λ within. bad within.0 }
  where
    bad : 2 ≤ count → ⊥
    bad least = omega arith

pub too_many : (ts : List Tablet) (n i count : ℕ) (t : Tablet) → n ≡ i + 1 → slice_get ts i ≡ Some t → length (names_of t) < count → Numbered (IsBadCount count) n ts
too_many ts n i count t e there many = record { tablet = t; numbered = numbered_at ts n i t e there; such = λ within. bad within.1 }
  where
    bad : count ≤ length (names_of t) → ⊥
    bad most = omega arith

pub not_bad : (ts : List Tablet) (n i count : ℕ) (t : Tablet) → n ≡ i + 1 → slice_get ts i ≡ Some t → 2 ≤ count → count ≤ length (names_of t) → ¬ Numbered (IsBadCount count) n ts
not_bad ts n i count t e there least most bad =
    let same = same_numbered ts n bad.tablet t bad.numbered (numbered_at ts n i t e there) in
    subst (IsBadCount count) same bad.such (least, most)
