-- Limits that an accepted compaction keeps, and the room in memory.
use Rattle.std.proofs.Common.{◌≡◌, ◌≢◌, ◌≤◌, ◌<◌, ◌^◌, ◌+◌, ℕ, Bool, true, cond, List, [], ◌∷◌, length, Option, Some, Result, Ok, Err, IfErr, IsErrOf, slice_get, set, ◌++◌, ◌⊎◌, inl, inr, zero, suc, refl, sym, ap, ◌∙◌, subst, arith}
use Rattle.std.specs.List.{AllByRecursion}
use Rattle.cell_key.specs.Cells.{IsEditOf}
use Rattle.cell_key.specs.Entries.{Entry}
use Rattle.cell_key.specs.declared.edits.Edit.{Edit}
use Rattle.cell_key.specs.declared.refusals.Refusal.{Refusal}
use Rattle.cell_key.specs.declared.refusals.Refusal.TheVariants.{TooManyFiles}
use Rattle.file_store.specs.Store.{Contents}
use Rattle.memtable.specs.Edits.{IsWithinLimits, with_edit, with_edits}
use Rattle.metadata_table.specs.Places.{PlaceView}
use Rattle.metadata_table.specs.Table.{IsHolder}
use Rattle.sorted_file.specs.Grammar.{FitsIn, image_of}
use Rattle.sorted_file.specs.declared.format.Format.TheVariants.{Two}
use Rattle.tablet.specs.Ranges.{has_row, seen}
use Rattle.tablet.specs.Views.{UsesName, memory_of, names_of, range_of}
use Rattle.tablet.specs.declared.ranges.RowRange.{RowRange}
use Rattle.tablet.specs.declared.tablet.Tablet.{Tablet}
use Rattle.row_atomic.specs.Clusters.{Overfills, edits_in, tablet_numbered}
use Rattle.row_atomic.specs.Changes.{ComesOfWriting, IsFullTablet, Numbered, OfHolder}
use Rattle.row_atomic.proofs.ChangedTablets.{numbered_at}
use Rattle.row_atomic.proofs.RowAnswers.{HasTabletAt}
use Rattle.row_atomic.proofs.SplitClusters.{one_holder}

-- a file of no entries is a head and a foot
empty_fits : (limit : ℕ) → 48 ≤ limit → FitsIn limit []
empty_fits limit least = record {
  image = image_of Two [] 0;
  form = record { blocks = []; grammar = tt; short = tt; whole = refl; bytes = refl; small = omega arith };
  within = least;
}

pub minor_fits : (limit : ℕ) (t : Tablet) → 48 ≤ limit → (memory_of t ≢ [] → FitsIn limit (seen (range_of t) (memory_of t))) → FitsIn limit (seen (range_of t) (memory_of t))
minor_fits limit t least fits = go (memory_of t) fits
  where
    not_empty : (e : Entry) (es : List Entry) → (e ∷ es) ≢ []
    not_empty e es same = cc

    go : (es : List Entry) → (es ≢ [] → FitsIn limit (seen (range_of t) es)) → FitsIn limit (seen (range_of t) es)
    go [] h = empty_fits limit least
    go (e ∷ es) h = h (not_empty e es)

pub has_room : (t : Tablet) → (memory_of t ≢ [] → length (names_of t) < 64) → ¬ IsFullTablet t
has_room t room full =
    let less = room full.memory in
    let many = full.files in
    absurd (omega arith)

-- a compaction of a full tablet is never refused by the writing of a file
pub not_full_written : {A : Type 0} (r : Result A Refusal) (t : Tablet) → (memory_of t ≢ [] → 64 ≤ length (names_of t) → IsErrOf r TooManyFiles) → IfErr r (λ refusal. ComesOfWriting refusal → ¬ IsFullTablet t)
not_full_written (Ok x) t told = tt
not_full_written (Err e) t told = λ of full. subst ComesOfWriting (which (told full.memory full.files)) of
  where
    which : {A : Type 0} → IsErrOf {T = A} (Err e) TooManyFiles → e ≡ TooManyFiles
    which is = cc

pub none_written : (t : Tablet) (next : ℕ) → (memory_of t ≢ [] → next < 2 ^ 63) → 2 ^ 63 ≤ next → memory_of t ≡ []
none_written t next left most = go (memory_of t) left
  where
    not_empty : (e : Entry) (es : List Entry) → (e ∷ es) ≢ []
    not_empty e es same = cc

    go : (es : List Entry) → (es ≢ [] → next < 2 ^ 63) → es ≡ []
    go [] h = refl
    go (e ∷ es) h =
        let less = h (not_empty e es) in
        absurd (omega arith)

-- a number is below a limit if and only if the limit is not at or below it
pub not_least : (limit next : ℕ) → next < limit → limit ≤ next → ⊥
not_least limit next less most = omega arith

pub is_less : (limit next : ℕ) → (limit ≤ next → ⊥) → next < limit
is_less limit next not = omega (arith, not)

module _ (ts : List Tablet) (i : ℕ) (t : Tablet) (there : slice_get ts i ≡ Some t) where
  pub numbered_not : (P : Tablet → Type 0) (n : ℕ) → n ≡ i + 1 → ¬ P t → ¬ Numbered P n ts
  numbered_not P n e not such = not (subst P (same (tablet_numbered n ts) such.tablet such.numbered (numbered_at ts n i t e there)) such.such)
    where
      same : (o : Option Tablet) (v : Tablet) → o ≡ Some v → o ≡ Some t → v ≡ t
      same o v f g = cc

  pub numbered_that : (P : Tablet → Type 0) (n : ℕ) → n ≡ i + 1 → Numbered P n ts → P t
  numbered_that P n e such = subst P (same (tablet_numbered n ts) such.tablet such.numbered (numbered_at ts n i t e there)) such.such
    where
      same : (o : Option Tablet) (v : Tablet) → o ≡ Some v → o ≡ Some t → v ≡ t
      same o v f g = cc

-- a property of the tablet that holds a row
pub holder_not : (P : Tablet → Type 0) (row : List ℕ) (places : List PlaceView) (ts : List Tablet) (p : PlaceView) → IsHolder row places p → ¬ Numbered P p.tablet ts → ¬ OfHolder P row places ts
holder_not P row places ts p holder not such = not (subst (λ (q : PlaceView). Numbered P q.tablet ts) (one_holder row places such.place p such.holder holder) such.tablet)

pub holder_that : (P : Tablet → Type 0) (row : List ℕ) (places : List PlaceView) (ts : List Tablet) (p : PlaceView) → IsHolder row places p → OfHolder P row places ts → Numbered P p.tablet ts
holder_that P row places ts p holder such = subst (λ (q : PlaceView). Numbered P q.tablet ts) (one_holder row places such.place p such.holder holder) such.tablet

-- a call that used a name, followed by one that wrote nothing
pub still_used : (old mid new : Option Contents) (before between after : ℕ) → after ≡ between → new ≡ mid → UsesName old before mid between → UsesName old before new after
still_used old mid new before between after same_name same_files used =
    subst (λ (n : ℕ). UsesName old before new n) (sym same_name) (subst (λ (o : Option Contents). UsesName old before o between) (sym same_files) used)

-- ---- room in memory

is_that : (x y : Tablet) → Some x ≡ Some y → x ≡ y
is_that x y e = cc

-- all of a row's edits are in a range that has the row
kept_first : (range : RowRange) (row : List ℕ) (e : Edit) (es : List Edit) → has_row range row ≡ true → IsEditOf row e → edits_in range (e ∷ es) ≡ e ∷ edits_in range es
kept_first range row e es has under = ap (λ (b : Bool). cond b (e ∷ edits_in range es) (edits_in range es)) (ap (λ (r : List ℕ). has_row range r) under.under ∙ has)

kept_before : (range : RowRange) (row : List ℕ) (xs ys : List Edit) → has_row range row ≡ true → AllByRecursion (IsEditOf row) xs → edits_in range (xs ++ ys) ≡ xs ++ edits_in range ys
kept_before range row [] ys has under = refl
kept_before range row (x ∷ xs) ys has under = kept_first range row x (xs ++ ys) has under.0 ∙ ap (λ (es : List Edit). x ∷ es) (kept_before range row xs ys has under.1)

pub all_kept : (range : RowRange) (row : List ℕ) (xs : List Edit) → has_row range row ≡ true → AllByRecursion (IsEditOf row) xs → edits_in range xs ≡ xs
all_kept range row [] has under = refl
all_kept range row (x ∷ xs) has under = kept_first range row x xs has under.0 ∙ ap (λ (es : List Edit). x ∷ es) (all_kept range row xs has under.1)

-- the tablet that holds the row has room for the edits
pub not_full : (places : List PlaceView) (ts : List Tablet) (row : List ℕ) (edits : List Edit) (i : ℕ) (t : Tablet) → HasTabletAt places ts row i → slice_get ts i ≡ Some t → edits_in (range_of t) edits ≡ edits → IsWithinLimits (with_edits (memory_of t) edits) → ¬ Overfills places ts row edits
not_full places ts row edits i t at there all within full =
    let number : at.place.tablet ≡ suc i = let number = at.number in omega arith in
    let same : full.place ≡ at.place = one_holder row places full.place at.place full.holder at.holder in
    let numbered : tablet_numbered full.place.tablet ts ≡ Some t = ap (λ (p : PlaceView). tablet_numbered p.tablet ts) same ∙ ap (λ (n : ℕ). tablet_numbered n ts) number ∙ there in
    let fits : IsWithinLimits (with_edits (memory_of t) (edits_in (range_of t) edits)) = subst (λ (es : List Edit). IsWithinLimits (with_edits (memory_of t) es)) (sym all) within in
    full.over (subst (λ (v : Tablet). IsWithinLimits (with_edits (memory_of v) (edits_in (range_of v) edits))) (is_that t full.tablet (sym numbered ∙ full.numbered)) fits)

-- edits after others
pub with_both : (es : List Entry) (xs ys : List Edit) → with_edits (with_edits es xs) ys ≡ with_edits es (xs ++ ys)
with_both es [] ys = refl
with_both es (x ∷ xs) ys = with_both (with_edit es x) xs ys

-- the tablets after one was replaced
where_set : (ts : List Tablet) (j i : ℕ) (t u v : Tablet) → slice_get ts i ≡ Some t → slice_get (set ts i u) j ≡ Some v → (slice_get ts j ≡ Some v) ⊎ ((slice_get ts j ≡ Some t) × (v ≡ u))
where_set [] j i t u v there e = inl e
where_set (x ∷ xs) zero zero t u v there e = inr (there, sym (is_that u v e))
where_set (x ∷ xs) zero (suc i) t u v there e = inl e
where_set (x ∷ xs) (suc j) zero t u v there e = inl e
where_set (x ∷ xs) (suc j) (suc i) t u v there e = where_set xs j i t u v there e

numbered_set : (ts : List Tablet) (n i : ℕ) (t u v : Tablet) → slice_get ts i ≡ Some t → tablet_numbered n (set ts i u) ≡ Some v → (tablet_numbered n ts ≡ Some v) ⊎ ((tablet_numbered n ts ≡ Some t) × (v ≡ u))
numbered_set ts zero i t u v there e = inl e
numbered_set ts (suc j) i t u v there e = where_set ts j i t u v there e

-- After edits of a row its tablet has the room that it had, less theirs, and all other tablets the room that they had.
pub room_after : (places : List PlaceView) (ts : List Tablet) (at : List ℕ) (i : ℕ) (t u : Tablet) (edits : List Edit) → slice_get ts i ≡ Some t → has_row (range_of t) at ≡ true → AllByRecursion (IsEditOf at) edits → range_of u ≡ range_of t → memory_of u ≡ with_edits (memory_of t) edits
    → (row : List ℕ) (later : List Edit) → Overfills places (set ts i u) row later → Overfills places ts row later ⊎ Overfills places ts row (edits ++ later)
room_after places ts at i t u edits there has under range memory row later full = go (numbered_set ts full.place.tablet i t u full.tablet there full.numbered)
  where
    go : (tablet_numbered full.place.tablet ts ≡ Some full.tablet) ⊎ ((tablet_numbered full.place.tablet ts ≡ Some t) × (full.tablet ≡ u)) → Overfills places ts row later ⊎ Overfills places ts row (edits ++ later)
    go (inl e) = inl (record { place = full.place; holder = full.holder; tablet = full.tablet; numbered = e; over = full.over })
    go (inr e) =
        let all : with_edits (memory_of full.tablet) (edits_in (range_of full.tablet) later) ≡ with_edits (memory_of t) (edits_in (range_of t) (edits ++ later)) =
        ap (λ (v : Tablet). with_edits (memory_of v) (edits_in (range_of v) later)) e.1
        ∙ ap (λ (range : RowRange). with_edits (memory_of u) (edits_in range later)) range
        ∙ ap (λ (es : List Entry). with_edits es (edits_in (range_of t) later)) memory
        ∙ with_both (memory_of t) edits (edits_in (range_of t) later)
        ∙ ap (λ (es : List Edit). with_edits (memory_of t) es) (sym (kept_before (range_of t) at edits later has under)) in
        inr (record { place = full.place; holder = full.holder; tablet = t; numbered = e.0; over = λ within. full.over (subst (λ (es : List Entry). IsWithinLimits es) (sym all) within) })

-- a tablet of the same range and the same memtable has the same room
pub room_same : (places : List PlaceView) (ts : List Tablet) (i : ℕ) (t u : Tablet) → slice_get ts i ≡ Some t → range_of u ≡ range_of t → memory_of u ≡ memory_of t → (row : List ℕ) (later : List Edit) → Overfills places (set ts i u) row later → Overfills places ts row later
room_same places ts i t u there range memory row later full = go (numbered_set ts full.place.tablet i t u full.tablet there full.numbered)
  where
    go : (tablet_numbered full.place.tablet ts ≡ Some full.tablet) ⊎ ((tablet_numbered full.place.tablet ts ≡ Some t) × (full.tablet ≡ u)) → Overfills places ts row later
    go (inl e) = record { place = full.place; holder = full.holder; tablet = full.tablet; numbered = e; over = full.over }
    go (inr e) =
        let all : with_edits (memory_of full.tablet) (edits_in (range_of full.tablet) later) ≡ with_edits (memory_of t) (edits_in (range_of t) later) =
        ap (λ (v : Tablet). with_edits (memory_of v) (edits_in (range_of v) later)) e.1
        ∙ ap (λ (range : RowRange). with_edits (memory_of u) (edits_in range later)) range
        ∙ ap (λ (es : List Entry). with_edits es (edits_in (range_of t) later)) memory in
        record { place = full.place; holder = full.holder; tablet = t; numbered = e.0; over = λ within. full.over (subst (λ (es : List Entry). IsWithinLimits es) (sym all) within) }
