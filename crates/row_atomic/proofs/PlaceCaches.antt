-- The cache of places.
use Rattle.std.proofs.Common.{◌≡◌, ◌≤◌, ◌+◌, ◌-◌, inl, inr, ℕ, Bool, true, false, nat_eq, List, [], ◌∷◌, length, Option, Some, None, option_map, is_some, slice_get, Result, Ok, Err, OnOk, OnErr, refl, sym, ap, ◌∙◌, subst, arith, cond}
use Rattle.std.specs.Cmp.Lexicographic.{pointwise, bytes_decides}
use Rattle.std.specs.List.{AllByRecursion}
use Rattle.std.specs.Map.{lookup, lookup_entry, remove_entry}
use Rattle.std.specs.Option.{option_map_or}
use Rattle.lru.specs.LruCache.{LruCache, lru_cache, promoted, put_entries}
use Rattle.lru.proofs.CallerLemmas.{Contains-lookup, Contains-promoted, Contains-put_entries}
use Rattle.metadata_table.specs.Places.{EndsBefore, PlaceView}
use Rattle.metadata_table.specs.Table.{IsNumbered, IsTable, naming, with_files}
use Rattle.tablet.specs.declared.tablet.Tablet.{Tablet}
use Rattle.row_atomic.specs.Clusters.{ArePlaced}
use Rattle.row_atomic.specs.PlaceCaches.{AddsOnly, AreHeld, IsLocatedLast, IsHeldBy, is_key_of, number_kept}
use Rattle.row_atomic.proofs.RowAnswers.{HasTabletAt, holder_index}
use Rattle.row_atomic.proofs.Parts.{at_parts}
use Rattle.row_atomic.proofs.SplitClusters.{holder_listed, same_tablet}

-- ---- entries found

module _ {K V : Type 0} (test : K → Bool) where
  by_one : (b : Bool) (e : K × V) (x : Option V) (y : Option (K × V)) → x ≡ option_map (λ f. f.1) y → cond b (Some e.1) x ≡ option_map (λ f. f.1) (cond b (Some e) y)
  by_one true e x y rest = refl
  by_one false e x y rest = rest

  by_entry : (es : List (K × V)) → lookup test es ≡ option_map (λ e. e.1) (lookup_entry test es)
  by_entry [] = refl
  by_entry (e ∷ es) = by_one (test e.0) e (lookup test es) (lookup_entry test es) (by_entry es)

  -- an entry that is found is the first one after it was promoted
  pub first_promoted : (es : List (K × V)) → is_some (lookup test es) ≡ true → option_map (λ e. e.1) (slice_get (promoted test es) 0) ≡ lookup test es
  first_promoted es there = go (lookup_entry test es) refl
    where
      go : (o : Option (K × V)) → lookup_entry test es ≡ o → option_map (λ e. e.1) (slice_get (option_map_or (λ e. e ∷ remove_entry test es) o es) 0) ≡ lookup test es
      go None is = let none : lookup test es ≡ None = by_entry es ∙ ap (option_map (λ e. e.1)) is in cc
      go (Some e) is = sym (by_entry es ∙ ap (option_map (λ f. f.1)) is)

-- ---- the row located last

is_own_key : (row : List ℕ) → is_key_of row row ≡ true
is_own_key row = (bytes_decides row row).1 refl

pub first_number : (row : List ℕ) (kept : List (List ℕ × ℕ)) (n : ℕ) → IsLocatedLast row kept n → Some n ≡ number_kept row kept
first_number row [] n is = cc
first_number row (e ∷ es) n is =
    let same : e ≡ (row, n) = cc in
    sym (ap (λ (b : Bool). cond b (Some e.1) (lookup (is_key_of row) es)) (ap (is_key_of row) (ap (λ p. p.0) same) ∙ is_own_key row) ∙ ap (λ p. Some p.1) same)

pub first_stays : (row : List ℕ) (kept : List (List ℕ × ℕ)) (n : ℕ) → IsLocatedLast row kept n → kept ≡ promoted (is_key_of row) kept
first_stays row [] n is = cc
first_stays row (e ∷ es) n is =
    let same : e ≡ (row, n) = cc in
    let test : is_key_of row e.0 ≡ true = ap (is_key_of row) (ap (λ p. p.0) same) ∙ is_own_key row in
    sym (ap (λ (b : Bool). option_map_or (λ (f : List ℕ × ℕ). f ∷ cond b es (e ∷ remove_entry (is_key_of row) es)) (cond b (Some e) (lookup_entry (is_key_of row) es)) (e ∷ es)) test)

-- ---- the cached numbers

module _ (places : List PlaceView) where
  pub none_held : (kept : List (List ℕ × ℕ)) → kept ≡ [] → AreHeld places kept
  none_held kept none entry there =
      let less = there.1 in
      let zero : length kept ≡ 0 = ap (λ (es : List (List ℕ × ℕ)). length es) none in
      absurd (omega arith)

  pub held_promoted : (row : List ℕ) (kept : List (List ℕ × ℕ)) → AreHeld places kept → AreHeld places (promoted (is_key_of row) kept)
  held_promoted row kept held entry there = held entry (Contains-promoted (is_key_of row) kept entry there)

  pub held_added : (row : List ℕ) (n : ℕ) (old new : List (List ℕ × ℕ)) → AreHeld places old → IsHeldBy places row n → AddsOnly row n old new → AreHeld places new
  held_added row n old new held this adds entry there = elim (adds entry there) [
    | inl was ↦ held entry was
    | inr is ↦ subst (λ (e : List ℕ × ℕ). IsHeldBy places e.0 e.1) (sym is) this
  ]

  -- the number cached for a row is its tablet's
  pub found_held : (row : List ℕ) (kept : List (List ℕ × ℕ)) (n : ℕ) → AreHeld places kept → number_kept row kept ≡ Some n → IsHeldBy places row n
  found_held row kept n held is =
      let at = Contains-lookup (is_key_of row) kept n is in
      subst (λ (r : List ℕ). IsHeldBy places r n) (sym ((bytes_decides row at.0).0 at.2)) (held (at.0, n) at.1)

  -- new files of a place change no number
  pub held_listed : (n : ℕ) (names : List ℕ) (kept : List (List ℕ × ℕ)) → AreHeld places kept → AreHeld (with_files n names places) kept
  held_listed n names kept held entry there =
      let was = held entry there in
      record { place = naming n names was.place; holder = holder_listed n names entry.0 places was.place was.holder; number = same_tablet n names was.place ∙ was.number }

-- ---- adding an entry

pub added : (old : LruCache (List ℕ) ℕ) (row : List ℕ) (n : ℕ) → AddsOnly row n old.entries (put_entries (pointwise nat_eq) old row n)
added old row n entry there = elim (Contains-put_entries (pointwise nat_eq) old row n entry there) [
  | inl was ↦ inl was
  | inr is ↦
      let key : entry.0 ≡ row = elim is.1 [
        | inl same ↦ same
        | inr kept ↦ sym ((bytes_decides row entry.0).0 kept.2)
      ] in
      let value = is.0 in
      inr (λ i. (key i, value i))
]

pub added_by : {A B : Type 0} (r : Result A B) (new old : LruCache (List ℕ) ℕ) (row : List ℕ) (n : ℕ) → OnOk r (new ≡ lru_cache (put_entries (pointwise nat_eq) old row n) old.cap) → OnErr r (new ≡ old) → AddsOnly row n old.entries new.entries
added_by (Ok x) new old row n ok err = subst (λ (c : LruCache (List ℕ) ℕ). AddsOnly row n old.entries c.entries) (sym ok) (added old row n)
added_by (Err x) new old row n ok err = subst (λ (c : LruCache (List ℕ) ℕ). AddsOnly row n old.entries c.entries) (sym err) (λ entry there. inl there)

-- ---- the tablet at the index

pub held_number : (places : List PlaceView) (row : List ℕ) (n : ℕ) → IsTable places → IsHeldBy places row n → 1 ≤ n
held_number places row n table held =
    let holder = held.holder in
    let numbered = at_parts (IsNumbered (length places)) holder.before held.place holder.after (subst (λ (ps : List PlaceView). AllByRecursion (IsNumbered (length places)) ps) holder.parts table.numbered) in
    let from = numbered.from in
    let number = held.number in
    omega arith

pub at_kept : (places : List PlaceView) (ts : List Tablet) (row : List ℕ) (i : ℕ) → ArePlaced ts None places → IsHeldBy places row (i + 1) → HasTabletAt places ts row i
at_kept places ts row i placed held =
    let number = held.number in
    let index : held.place.tablet - 1 ≡ i = omega arith in
    subst (HasTabletAt places ts row) index (holder_index places ts row held.place placed held.holder).at

-- the only tablet has the number 1 and holds every row
pub only_held : (places : List PlaceView) (row : List ℕ) → IsTable places → length places ≡ 1 → IsHeldBy places row 1
only_held [] row table one = absurd (omega (arith, one))
only_held (p ∷ []) row table one =
    let numbered = table.numbered.0 in
    let from = numbered.from in
    let to = numbered.to in
    record {
      place = p;
      holder = record {
        before = [];
        after = [];
        parts = refl;
        past = tt;
        within = subst (λ (end : Option (List ℕ)). ¬ EndsBefore end row) (sym table.rising) (λ before. before);
      };
      number = omega (arith, from, to);
    }
only_held (p ∷ q ∷ ps) row table one = absurd (omega (arith, one))
