-- Edits of several rows, tablet by tablet.
use Rattle.std.proofs.Common.{◌≡◌, ◌≢◌, ◌<◌, ℕ, zero, suc, Bool, true, false, cond, not, List, [], ◌∷◌, ◌++◌, map, filter, set, length, Some, None, Result, Ok, Err, OnOk, OnErr, is_ok, option_map, slice_get, slice_index_or, refl, sym, ap, ◌∙◌, subst, arith}
use Rattle.std.proofs.lemmas.List.Elements.{filter-append}
use Rattle.std.proofs.lemmas.List.{length-map, length-set}
use Rattle.std.proofs.lemmas.Option.{same_Some, slice_get-map}
use Rattle.std.specs.Prelude.{Contains}
use Rattle.std.specs.List.{AllByRecursion}
use Rattle.cell_key.specs.Cells.{IsEditOf}
use Rattle.cell_key.specs.Entries.{Entry}
use Rattle.cell_key.specs.declared.edits.Edit.{Edit}
use Rattle.cell_key.specs.declared.refusals.Refusal.{Refusal}
use Rattle.memtable.specs.Edits.{HasStoredKey, IsLimited, IsWithinLimits, with_edits}
use Rattle.metadata_table.specs.Places.{PlaceView}
use Rattle.metadata_table.specs.Table.{IsTable}
use Rattle.rows.specs.RowEdits.{AreOfTheirRow, all_edits}
use Rattle.rows.specs.declared.row_edits.RowEdits.{RowEdits}
use Rattle.tablet.specs.Ranges.{has_row}
use Rattle.tablet.specs.Views.{memory_of, names_of, range_of, with_memory}
use Rattle.tablet.specs.declared.ranges.RowRange.{RowRange}
use Rattle.tablet.specs.declared.tablet.Tablet.{Tablet}
use Rattle.row_atomic.specs.Clusters.{ArePlaced, edits_in}
use Rattle.row_atomic.specs.ManyRows.{OverfillsOwner, changes_in, changes_outside, with_changes}
use Rattle.row_atomic.specs.Memtables.{HaveAtMost}
use Rattle.row_atomic.specs.declared.fill.Fill.{Fill}
use Rattle.row_atomic.proofs.ChangedTablets.{contained}
use Rattle.row_atomic.proofs.CompactionRoom.{all_kept}
use Rattle.row_atomic.proofs.Memtables.{set_emptied}
use Rattle.row_atomic.proofs.Parts.{is_owner, owns_if_has}
use Rattle.row_atomic.proofs.PlacedTablets.{placed_set}
use Rattle.row_atomic.proofs.RowAnswers.{slice_get_at}
use Rattle.row_atomic.proofs.Shares.{each_map, set_elsewhere, set_there}

clash : (b : Bool) → b ≡ true → b ≡ false → ⊥
clash b e h = cc

-- ---- lists

module _ (f g : Tablet → Tablet) where
  map_others : (ts : List Tablet) → ((j : ℕ) (u : Tablet) → slice_get ts j ≡ Some u → g u ≡ f u) → map g ts ≡ map f ts
  map_others [] same = refl
  map_others (t ∷ ts) same = ap (λ u. u ∷ map g ts) (same zero t refl) ∙ ap (λ us. f t ∷ us) (map_others ts (λ j u there. same (suc j) u there))

  -- after a map of all elements but one, that one is set
  pub finished : (ts : List Tablet) (i : ℕ) (t a b : Tablet) → slice_get ts i ≡ Some t → f t ≡ b → ((j : ℕ) (u : Tablet) → j ≢ i → slice_get ts j ≡ Some u → g u ≡ f u) → set (map g (set ts i a)) i b ≡ map f ts
  finished [] i t a b there is same = cc
  finished (x ∷ ts) zero t a b there is same =
      ap (λ u. u ∷ map g ts) (sym is ∙ ap f (sym (same_Some x t there)))
      ∙ ap (λ us. f x ∷ us) (map_others ts (λ j u at_j. same (suc j) u (λ e. omega (arith, e)) at_j))
  finished (x ∷ ts) (suc i) t a b there is same =
      ap (λ u. u ∷ set (map g (set ts i a)) i b) (same zero x (λ e. omega (arith, e)) refl)
      ∙ ap (λ us. f x ∷ us) (finished ts i t a b there is (λ j u other at_j. same (suc j) u (λ e. other (omega (arith, e))) at_j))

-- an element is set back
pub set_back : (ts : List Tablet) (i : ℕ) (t a : Tablet) → slice_get ts i ≡ Some t → set (set ts i a) i t ≡ ts
set_back [] i t a there = cc
set_back (x ∷ ts) zero t a there = ap (λ u. u ∷ ts) (sym (same_Some x t there))
set_back (x ∷ ts) (suc i) t a there = ap (λ us. x ∷ us) (set_back ts i t a there)

-- the element at an index, whatever would stand for it past the end
pub same_at : (ts : List Tablet) (i : ℕ) (d e : Tablet) → i < length ts → slice_index_or ts i d ≡ slice_index_or ts i e
same_at ts i d e below = same_Some (slice_index_or ts i d) (slice_index_or ts i e) (sym (slice_get_at ts i d below) ∙ slice_get_at ts i e below)

-- the element that was set
pub set_at : (ts : List Tablet) (i : ℕ) (u d : Tablet) → i < length ts → slice_index_or (set ts i u) i d ≡ u
set_at [] i u d below = absurd (omega (arith, below))
set_at (t ∷ ts) zero u d below = refl
set_at (t ∷ ts) (suc i) u d below = set_at ts i u d (omega (arith, below))

has_first : {A : Type 0} (x : A) (xs : List A) → Contains (x ∷ xs) x
has_first x xs = (zero, omega arith, refl)

has_later : {A : Type 0} (y : A) (xs : List A) (x : A) → Contains xs x → Contains (y ∷ xs) x
has_later y xs x (k, less, is) = (suc k, omega (arith, less), is)

each_left : {A : Type 0} (P : A → Type 0) (xs ys : List A) → AllByRecursion P (xs ++ ys) → AllByRecursion P xs
each_left P [] ys all = tt
each_left P (x ∷ xs) ys all = (all.0, each_left P xs ys all.1)

each_right : {A : Type 0} (P : A → Type 0) (xs ys : List A) → AllByRecursion P (xs ++ ys) → AllByRecursion P ys
each_right P [] ys all = all
each_right P (x ∷ xs) ys all = each_right P xs ys all.1

pub each_both : {A : Type 0} (P : A → Type 0) (xs ys : List A) → AllByRecursion P xs → AllByRecursion P ys → AllByRecursion P (xs ++ ys)
each_both P [] ys first second = second
each_both P (x ∷ xs) ys first second = (first.0, each_both P xs ys first.1 second)

fewer : {A : Type 0} (p : A → Bool) (xs : List A) → length (filter p xs) < suc (length xs)
fewer p [] = omega arith
fewer p (x ∷ xs) = go (p x) (fewer p xs)
  where
    go : (b : Bool) → length (filter p xs) < suc (length xs) → length (cond b (x ∷ filter p xs) (filter p xs)) < suc (suc (length xs))
    go true less = omega (arith, less)
    go false less = omega (arith, less)

-- ---- the edits of a range

pub none_kept : (range : RowRange) (row : List ℕ) (xs : List Edit) → has_row range row ≡ false → AllByRecursion (IsEditOf row) xs → edits_in range xs ≡ []
none_kept range row [] lacks under = refl
none_kept range row (x ∷ xs) lacks under =
    ap (λ (b : Bool). cond b (x ∷ edits_in range xs) (edits_in range xs)) (ap (λ (r : List ℕ). has_row range r) under.0.under ∙ lacks)
    ∙ none_kept range row xs lacks under.1

pub in_both : (range : RowRange) (xs ys : List Edit) → edits_in range (xs ++ ys) ≡ edits_in range xs ++ edits_in range ys
in_both range xs ys = filter-append _ xs ys

-- the edits of the changes in a range are the edits in it
pub inside_edits : (range : RowRange) (changes : List RowEdits) → AllByRecursion AreOfTheirRow changes → all_edits (changes_in range changes) ≡ edits_in range (all_edits changes)
inside_edits range [] own = refl
inside_edits range (c ∷ cs) own = go (inside_edits range cs own.1) (has_row range c.row) refl
  where
    go : all_edits (changes_in range cs) ≡ edits_in range (all_edits cs) → (b : Bool) → has_row range c.row ≡ b → all_edits (cond b (c ∷ changes_in range cs) (changes_in range cs)) ≡ edits_in range (c.edits.items ++ all_edits cs)
    go rest true e =
        ap (λ es. c.edits.items ++ es) rest
        ∙ ap (λ es. es ++ edits_in range (all_edits cs)) (sym (all_kept range c.row c.edits.items e own.0))
        ∙ sym (in_both range c.edits.items (all_edits cs))
    go rest false e =
        rest
        ∙ ap (λ es. es ++ edits_in range (all_edits cs)) (sym (none_kept range c.row c.edits.items e own.0))
        ∙ sym (in_both range c.edits.items (all_edits cs))

-- the changes outside a range have all edits of another range without a common row
outside_edits : (range other : RowRange) → ((row : List ℕ) → has_row other row ≡ true → has_row range row ≡ false) → (changes : List RowEdits) → AllByRecursion AreOfTheirRow changes → edits_in other (all_edits (changes_outside range changes)) ≡ edits_in other (all_edits changes)
outside_edits range other apart [] own = refl
outside_edits range other apart (c ∷ cs) own = go (outside_edits range other apart cs own.1) (has_row range c.row) refl
  where
    lacks : has_row range c.row ≡ true → (b : Bool) → has_row other c.row ≡ b → has_row other c.row ≡ false
    lacks e true h = absurd (clash (has_row range c.row) e (apart c.row h))
    lacks e false h = h

    go : edits_in other (all_edits (changes_outside range cs)) ≡ edits_in other (all_edits cs) → (b : Bool) → has_row range c.row ≡ b → edits_in other (all_edits (cond (not b) (c ∷ changes_outside range cs) (changes_outside range cs))) ≡ edits_in other (c.edits.items ++ all_edits cs)
    go rest true e =
        rest
        ∙ ap (λ es. es ++ edits_in other (all_edits cs)) (sym (none_kept other c.row c.edits.items (lacks e (has_row other c.row) refl) own.0))
        ∙ sym (in_both other c.edits.items (all_edits cs))
    go rest false e =
        in_both other c.edits.items (all_edits (changes_outside range cs))
        ∙ ap (λ es. edits_in other c.edits.items ++ es) rest
        ∙ sym (in_both other c.edits.items (all_edits cs))

-- a change of the range's rows is left out, so fewer are left
pub outside_fewer : (range : RowRange) (c : RowEdits) (cs : List RowEdits) → has_row range c.row ≡ true → length (changes_outside range (c ∷ cs)) < length (c ∷ cs)
outside_fewer range c cs has =
    subst (λ (b : Bool). length (cond (not b) (c ∷ changes_outside range cs) (changes_outside range cs)) < suc (length cs)) (sym has) (fewer _ cs)

-- the changes in and outside a range are all changes
pub each_edit : (P : Edit → Type 0) (range : RowRange) (changes : List RowEdits) → AllByRecursion P (all_edits (changes_in range changes)) → AllByRecursion P (all_edits (changes_outside range changes)) → AllByRecursion P (all_edits changes)
each_edit P range [] inside outside = tt
each_edit P range (c ∷ cs) inside outside = go (each_edit P range cs) (has_row range c.row) inside outside
  where
    go : (AllByRecursion P (all_edits (changes_in range cs)) → AllByRecursion P (all_edits (changes_outside range cs)) → AllByRecursion P (all_edits cs)) → (b : Bool) → AllByRecursion P (all_edits (cond b (c ∷ changes_in range cs) (changes_in range cs))) → AllByRecursion P (all_edits (cond (not b) (c ∷ changes_outside range cs) (changes_outside range cs))) → AllByRecursion P (c.edits.items ++ all_edits cs)
    go rest true inside outside =
        each_both P c.edits.items (all_edits cs) (each_left P c.edits.items (all_edits (changes_in range cs)) inside)
        (rest (each_right P c.edits.items (all_edits (changes_in range cs)) inside) outside)
    go rest false inside outside =
        each_both P c.edits.items (all_edits cs) (each_left P c.edits.items (all_edits (changes_outside range cs)) outside)
        (rest inside (each_right P c.edits.items (all_edits (changes_outside range cs)) outside))

pub each_outside : (P : RowEdits → Type 0) (range : RowRange) (changes : List RowEdits) → AllByRecursion P changes → AllByRecursion P (changes_outside range changes)
each_outside P range [] all = tt
each_outside P range (c ∷ cs) all = go (each_outside P range cs all.1) (has_row range c.row)
  where
    go : AllByRecursion P (changes_outside range cs) → (b : Bool) → AllByRecursion P (cond (not b) (c ∷ changes_outside range cs) (changes_outside range cs))
    go rest true = rest
    go rest false = (all.0, rest)

-- the changes outside are among all, and have rows outside
from_outside : (range : RowRange) (changes : List RowEdits) → AllByRecursion (λ c. Contains changes c × (has_row range c.row ≡ false)) (changes_outside range changes)
from_outside range [] = tt
from_outside range (c ∷ cs) = go (each_map (λ d. Contains cs d × (has_row range d.row ≡ false)) (λ d. Contains (c ∷ cs) d × (has_row range d.row ≡ false)) (λ d h. (has_later c cs d h.0, h.1)) (changes_outside range cs) (from_outside range cs)) (has_row range c.row) refl
  where
    go : AllByRecursion (λ d. Contains (c ∷ cs) d × (has_row range d.row ≡ false)) (changes_outside range cs) → (b : Bool) → has_row range c.row ≡ b → AllByRecursion (λ d. Contains (c ∷ cs) d × (has_row range d.row ≡ false)) (cond (not b) (c ∷ changes_outside range cs) (changes_outside range cs))
    go later true e = later
    go later false e = ((has_first c cs, e), later)

-- a change of a row outside is among those outside
to_outside : (range : RowRange) (changes : List RowEdits) → AllByRecursion (λ c. has_row range c.row ≡ false → Contains (changes_outside range changes) c) changes
to_outside range [] = tt
to_outside range (c ∷ cs) = go (to_outside range cs) (has_row range c.row) refl
  where
    go : AllByRecursion (λ d. has_row range d.row ≡ false → Contains (changes_outside range cs) d) cs → (b : Bool) → has_row range c.row ≡ b → AllByRecursion (λ d. has_row range d.row ≡ false → Contains (cond (not b) (c ∷ changes_outside range cs) (changes_outside range cs)) d) (c ∷ cs)
    go rest true e = (λ lacks. absurd (clash (has_row range c.row) e lacks), rest)
    go rest false e = (
      λ lacks. has_first c (changes_outside range cs),
      each_map (λ d. has_row range d.row ≡ false → Contains (changes_outside range cs) d) (λ d. has_row range d.row ≡ false → Contains (c ∷ changes_outside range cs) d) (λ d h lacks. has_later c (changes_outside range cs) d (h lacks)) cs rest,
    )

-- edits of their rows are within the limits
row_limited : (row : List ℕ) (xs : List Edit) → AllByRecursion (IsEditOf row) xs → AllByRecursion IsLimited xs
row_limited row [] all = tt
row_limited row (x ∷ xs) all = (record { under = refl; from = all.0.from; to = all.0.to; value = all.0.value }, row_limited row xs all.1)

pub all_limited : (changes : List RowEdits) → AllByRecursion AreOfTheirRow changes → AllByRecursion IsLimited (all_edits changes)
all_limited [] own = tt
all_limited (c ∷ cs) own = each_both IsLimited c.edits.items (all_edits cs) (row_limited c.row c.edits.items own.0) (all_limited cs own.1)

pub each_kept : (P : Edit → Type 0) (p : Edit → Bool) (xs : List Edit) → AllByRecursion P xs → AllByRecursion P (filter p xs)
each_kept P p [] all = tt
each_kept P p (x ∷ xs) all = go (each_kept P p xs all.1) (p x)
  where
    go : AllByRecursion P (filter p xs) → (b : Bool) → AllByRecursion P (cond b (x ∷ filter p xs) (filter p xs))
    go rest true = (all.0, rest)
    go rest false = rest

-- the first of some changes
pub first_fewer : (range : RowRange) (changes : List RowEdits) (first : RowEdits) → slice_get changes 0 ≡ Some first → has_row range first.row ≡ true → length (changes_outside range changes) < length changes
first_fewer range [] first e has = cc
first_fewer range (c ∷ cs) first e has = outside_fewer range c cs (ap (λ (d : RowEdits). has_row range d.row) (same_Some c first e) ∙ has)

has_front : (changes : List RowEdits) (first : RowEdits) → slice_get changes 0 ≡ Some first → Contains changes first
has_front [] first e = cc
has_front (c ∷ cs) first e = subst (λ (d : RowEdits). Contains (c ∷ cs) d) (same_Some c first e) (has_first c cs)

pub none_first : (changes : List RowEdits) → slice_get changes 0 ≡ None → changes ≡ []
none_first [] e = refl
none_first (c ∷ cs) e = cc

-- without changes every tablet is unchanged
pub no_changes : (changes : List RowEdits) (ts : List Tablet) → changes ≡ [] → ts ≡ map (with_changes changes) ts
no_changes changes ts none = go ts ∙ ap (λ (cs : List RowEdits). map (with_changes cs) ts) (sym none)
  where
    go : (us : List Tablet) → us ≡ map (with_changes []) us
    go [] = refl
    go (u ∷ us) = ap (λ (vs : List Tablet). u ∷ vs) (go us)

-- ---- one tablet's edits are put, after those of all others

module _ (places : List PlaceView) (ts : List Tablet) (table : IsTable places) (placed : ArePlaced ts None places) (as_many : length ts ≡ length places)
    (i : ℕ) (t : Tablet) (there : slice_get ts i ≡ Some t) (changes : List RowEdits) (own : AllByRecursion AreOfTheirRow changes) where
  abbrev outside : List RowEdits
  outside = changes_outside (range_of t) changes

  -- the tablets without the memtable that was taken out
  abbrev taken : List Tablet
  taken = set ts i (with_memory t [])

  others_lack : (j : ℕ) (u : Tablet) → j ≢ i → slice_get ts j ≡ Some u → (row : List ℕ) → has_row (range_of u) row ≡ true → has_row (range_of t) row ≡ false
  others_lack j u other at_j row has = (owns_if_has places ts row j u table placed as_many at_j has).others i t (λ e. other (sym e)) there

  same_there : (j : ℕ) (u : Tablet) → j ≢ i → slice_get ts j ≡ Some u → with_changes outside u ≡ with_changes changes u
  same_there j u other at_j = ap (λ es. with_memory u (with_edits (memory_of u) es)) (outside_edits (range_of t) (range_of u) (others_lack j u other at_j) changes own)

  pub all_put : (b : Tablet) → with_changes changes t ≡ b → set (map (with_changes outside) taken) i b ≡ map (with_changes changes) ts
  all_put b is = finished (with_changes changes) (with_changes outside) ts i t (with_memory t []) b there is same_there

  -- another tablet would exceed a limit
  pub passed : OverfillsOwner outside taken → OverfillsOwner changes ts
  passed full =
      let from = contained (λ c. Contains changes c × (has_row (range_of t) c.row ≡ false)) outside full.change (from_outside (range_of t) changes) full.among in
      let here : full.index ≡ i → with_memory t [] ≡ full.tablet = λ e. same_Some (with_memory t []) full.tablet (sym (set_there ts i t (with_memory t []) there) ∙ ap (λ (k : ℕ). slice_get taken k) (sym e) ∙ full.there) in
      let other : full.index ≢ i = λ e. clash (has_row (range_of t) full.change.row) (ap (λ (u : Tablet). has_row (range_of u) full.change.row) (here e) ∙ full.has) from.1 in
      let at : slice_get ts full.index ≡ Some full.tablet = sym (set_elsewhere ts i full.index (with_memory t []) other) ∙ full.there in
      record {
        change = full.change;
        among = from.0;
        index = full.index;
        tablet = full.tablet;
        there = at;
        has = full.has;
        over = subst (λ (u : Tablet). ¬ IsWithinLimits (memory_of u)) (same_there full.index full.tablet other at) full.over;
      }

  pub none_over : IsWithinLimits (memory_of (with_changes changes t)) → ¬ OverfillsOwner outside taken → ¬ OverfillsOwner changes ts
  none_over within none full = go (has_row (range_of t) full.change.row) refl
    where
      go : (b : Bool) → has_row (range_of t) full.change.row ≡ b → ⊥
      go true e =
          let index : full.index ≡ i = is_owner ts full.change.row i t (owns_if_has places ts full.change.row i t table placed as_many there e) full.index full.tablet full.there full.has in
          let same : t ≡ full.tablet = same_Some t full.tablet (sym there ∙ ap (slice_get ts) (sym index) ∙ full.there) in
          full.over (subst (λ (u : Tablet). IsWithinLimits (memory_of (with_changes changes u))) same within)
      go false e =
          let here : full.index ≡ i → t ≡ full.tablet = λ k. same_Some t full.tablet (sym there ∙ ap (slice_get ts) (sym k) ∙ full.there) in
          let other : full.index ≢ i = λ k. clash (has_row (range_of t) full.change.row) (ap (λ (u : Tablet). has_row (range_of u) full.change.row) (here k) ∙ full.has) e in
          none (record {
            change = full.change;
            among = contained (λ c. has_row (range_of t) c.row ≡ false → Contains outside c) changes full.change (to_outside (range_of t) changes) full.among e;
            index = full.index;
            tablet = full.tablet;
            there = set_elsewhere ts i full.index (with_memory t []) other ∙ full.there;
            has = full.has;
            over = subst (λ (u : Tablet). ¬ IsWithinLimits (memory_of u)) (sym (same_there full.index full.tablet other full.there)) full.over;
          })

  -- this tablet would exceed a limit
  pub full_here : (c : RowEdits) → Contains changes c → has_row (range_of t) c.row ≡ true → ¬ IsWithinLimits (memory_of (with_changes changes t)) → OverfillsOwner changes ts
  full_here c among has over = record { change = c; among = among; index = i; tablet = t; there = there; has = has; over = over }

  -- with the values of the code
  module _ (gone : Tablet) (is_gone : gone ≡ with_memory t []) (others : List RowEdits) (are : others ≡ outside) (inside : List Edit) (ins : inside ≡ all_edits (changes_in (range_of t) changes)) where
    here : inside ≡ edits_in (range_of t) (all_edits changes)
    here = ins ∙ inside_edits (range_of t) changes own

    pub inside_limited : AllByRecursion IsLimited inside
    inside_limited = subst (λ (es : List Edit). AllByRecursion IsLimited es) (sym here) (each_kept IsLimited _ (all_edits changes) (all_limited changes own))

    pub placed_on : ArePlaced (set ts i gone) None places
    placed_on = placed_set ts i t gone there (ap range_of is_gone) (ap names_of is_gone) None places placed

    pub many_on : length (set ts i gone) ≡ length places
    many_on = length-set ts i gone ∙ as_many

    pub own_on : AllByRecursion AreOfTheirRow others
    own_on = subst (λ (cs : List RowEdits). AllByRecursion AreOfTheirRow cs) (sym are) (each_outside AreOfTheirRow (range_of t) changes own)

    pub most_on : (most : Fill) → HaveAtMost most ts → HaveAtMost most (set ts i gone)
    most_on most few = set_emptied most ts i few gone (ap memory_of is_gone)

    pub fewer_on : (first : RowEdits) → slice_get changes 0 ≡ Some first → has_row (range_of t) first.row ≡ true → length others < length changes
    fewer_on first e has = subst (λ (cs : List RowEdits). length cs < length changes) (sym are) (first_fewer (range_of t) changes first e has)

    pub long_after : (us : List Tablet) {A : Type 0} (r : Result A Refusal) → OnOk r (us ≡ map (with_changes others) (set ts i gone)) → OnErr r (us ≡ set ts i gone) → length us ≡ length ts
    long_after us (Ok y) made same = ap (λ vs. length vs) made ∙ length-map (set ts i gone) (with_changes others) ∙ length-set ts i gone
    long_after us (Err e) made same = ap (λ vs. length vs) same ∙ length-set ts i gone

    module _ (us : List Tablet) (x : Tablet) (at : slice_get us i ≡ Some x) (ready : List Entry × List Entry) (is_ready : ready ≡ (memory_of t, with_edits (memory_of t) inside)) (b : Bool) (u : Tablet) (is : u ≡ with_memory x (cond b ready.1 ready.0)) where
      pub ok_after : {A : Type 0} (r : Result A Refusal) → b ≡ is_ok r → OnOk r (us ≡ map (with_changes others) (set ts i gone)) → OnOk r (set us i u ≡ map (with_changes changes) ts)
      ok_after (Err e) is_b made = tt
      ok_after (Ok y) is_b made =
          let at_i : slice_get us i ≡ Some (with_changes others gone) = ap (λ vs. slice_get vs i) made ∙ slice_get-map (with_changes others) (set ts i gone) i ∙ ap (option_map (with_changes others)) (set_there ts i t gone there) in
          let x_is : x ≡ with_changes others gone = same_Some x (with_changes others gone) (sym at ∙ at_i) in
          let u_is : u ≡ with_changes changes t =
          is ∙ ap (λ (c : Bool). with_memory x (cond c ready.1 ready.0)) is_b
          ∙ ap (λ (v : Tablet). with_memory v ready.1) (x_is ∙ ap (λ (g : Tablet). with_changes others g) is_gone)
          ∙ ap (λ (p : List Entry × List Entry). with_memory t p.1) is_ready
          ∙ ap (λ es. with_memory t (with_edits (memory_of t) es)) here in
          ap (λ vs. set vs i u) (made ∙ ap (λ cs. map (with_changes cs) (set ts i gone)) are ∙ ap (λ (g : Tablet). map (with_changes outside) (set ts i g)) is_gone)
          ∙ all_put u (sym u_is)

      pub err_after : {A : Type 0} (r : Result A Refusal) → b ≡ is_ok r → OnErr r (us ≡ set ts i gone) → OnErr r (set us i u ≡ ts)
      err_after (Ok y) is_b same = tt
      err_after (Err e) is_b same =
          let at_i : slice_get us i ≡ Some gone = ap (λ vs. slice_get vs i) same ∙ set_there ts i t gone there in
          let x_is : x ≡ gone = same_Some x gone (sym at ∙ at_i) in
          let u_is : u ≡ t =
          is ∙ ap (λ (c : Bool). with_memory x (cond c ready.1 ready.0)) is_b
          ∙ ap (λ (v : Tablet). with_memory v ready.0) (x_is ∙ is_gone)
          ∙ ap (λ (p : List Entry × List Entry). with_memory t p.0) is_ready in
          ap (λ (v : Tablet). set us i v) u_is ∙ ap (λ vs. set vs i t) same ∙ set_back ts i t gone there

    pub full_after : OverfillsOwner others (set ts i gone) → OverfillsOwner changes ts
    full_after full = passed (subst (λ (g : Tablet). OverfillsOwner outside (set ts i g)) is_gone (subst (λ (cs : List RowEdits). OverfillsOwner cs (set ts i gone)) are full))

    pub within_after : {A : Type 0} (r : Result A Refusal) → IsWithinLimits (with_edits (memory_of t) inside) → OnOk r (¬ OverfillsOwner others (set ts i gone)) → OnOk r (¬ OverfillsOwner changes ts)
    within_after (Err e) within none = tt
    within_after (Ok y) within none =
        none_over (subst (λ (es : List Edit). IsWithinLimits (with_edits (memory_of t) es)) here within)
        (subst (λ (g : Tablet). ¬ OverfillsOwner outside (set ts i g)) is_gone (subst (λ (cs : List RowEdits). ¬ OverfillsOwner cs (set ts i gone)) are none))

    pub keys_after : {A : Type 0} (r : Result A Refusal) → AllByRecursion HasStoredKey inside → OnOk r (AllByRecursion HasStoredKey (all_edits others)) → OnOk r (AllByRecursion HasStoredKey (all_edits changes))
    keys_after (Err e) inside_keys keys = tt
    keys_after (Ok y) inside_keys keys =
        each_edit HasStoredKey (range_of t) changes (subst (λ (es : List Edit). AllByRecursion HasStoredKey es) ins inside_keys) (subst (λ (cs : List RowEdits). AllByRecursion HasStoredKey (all_edits cs)) are keys)

    pub full_first : (first : RowEdits) → slice_get changes 0 ≡ Some first → has_row (range_of t) first.row ≡ true → ¬ IsWithinLimits (with_edits (memory_of t) inside) → OverfillsOwner changes ts
    full_first first e has over = full_here first (has_front changes first e) has (subst (λ (es : List Edit). ¬ IsWithinLimits (with_edits (memory_of t) es)) here over)
