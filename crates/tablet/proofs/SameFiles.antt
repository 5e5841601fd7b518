-- Files that are the same as before but for their caches.
use Rattle.std.proofs.Common.{◌≡◌, ◌+◌, ◌<◌, ◌≤◌, ℕ, zero, suc, List, [], ◌∷◌, ◌⊎◌, inl, inr, map, drop, set, get_or, length, Option, Some, None, refl, sym, ap, subst, ◌∙◌, arith}
use Rattle.std.specs.Prelude.{IfSome, ⊤}
use Rattle.std.specs.List.{AllByRecursion, AllZip}
use Rattle.cell_key.specs.Keys.{text}
use Rattle.cell_key.specs.Entries.{Entry, IsEntryList, entry_of_key, first_naming, merged, or_else}
use Rattle.cell_key.proofs.EntryLaws.{key_of_merged}
use Rattle.cell_key.specs.declared.keys.CellKey.{CellKey}
use Rattle.file_store.specs.Store.{Contents}
use Rattle.sorted_file.specs.Newest.{at_stamp, IsNewestEntry}
use Rattle.sorted_file.specs.File.{IsOpen, IsSameFile, listed, name_of}
use Rattle.sorted_file.specs.declared.file.SortedFile.{SortedFile}
use Rattle.tablet.specs.Views.{range_of, memory_of, files_of, Holds, IsSameTablet}
use Rattle.tablet.specs.declared.tablet.Tablet.{Tablet}

-- facts about files with the same contents
pub told_both : (o now : Option Contents) → now ≡ o → (P Q R : Contents → Type 0) → ((m : Contents) → o ≡ Some m → P m → Q m → R m) → IfSome o P → IfSome now Q → IfSome o R
told_both None now same P Q R f p q = tt
told_both (Some m) now same P Q R f p q = f m refl p (subst (λ (told : Option Contents). IfSome told Q) same q)

pub told_any : (o : Option Contents) → IfSome o (λ _. ⊤)
told_any None = tt
told_any (Some m) = tt

same_file : (o : Option Contents) (f : SortedFile) → IsSameFile o f f
same_file None f = record { rest = λ c. refl; name = refl; lists = λ m. refl; still = tt }
same_file (Some m) f = record { rest = λ c. refl; name = refl; lists = λ m. refl; still = λ is. is }

same_after : (o : Option Contents) (f g h : SortedFile) → IsSameFile o f g → IsSameFile o g h → IsSameFile o f h
same_after None f g h p q = record { rest = λ c. q.rest c ∙ p.rest c; name = q.name ∙ p.name; lists = λ m. q.lists m ∙ p.lists m; still = tt }
same_after (Some m) f g h p q = record { rest = λ c. q.rest c ∙ p.rest c; name = q.name ∙ p.name; lists = λ n. q.lists n ∙ p.lists n; still = λ is. q.still (p.still is) }

module _ (o : Option Contents) where
  pub same_files : (xs : List SortedFile) → AllZip (IsSameFile o) xs xs
  same_files [] = tt
  same_files (x ∷ xs) = (same_file o x, same_files xs)

  pub same_names : (xs ys : List SortedFile) → AllZip (IsSameFile o) xs ys → map name_of ys ≡ map name_of xs
  same_names [] [] all = refl
  same_names [] (y ∷ ys) all = absurd all
  same_names (x ∷ xs) [] all = absurd all
  same_names (x ∷ xs) (y ∷ ys) all = ap (λ name. name ∷ map name_of ys) all.0.name ∙ ap (λ names. name_of x ∷ names) (same_names xs ys all.1)

  pub same_lists : (m : Contents) (xs ys : List SortedFile) → AllZip (IsSameFile o) xs ys → map (listed m) ys ≡ map (listed m) xs
  same_lists m [] [] all = refl
  same_lists m [] (y ∷ ys) all = absurd all
  same_lists m (x ∷ xs) [] all = absurd all
  same_lists m (x ∷ xs) (y ∷ ys) all = ap (λ es. es ∷ map (listed m) ys) (all.0.lists m) ∙ ap (λ lists. listed m x ∷ lists) (same_lists m xs ys all.1)

  pub same_length : (xs ys : List SortedFile) → AllZip (IsSameFile o) xs ys → length ys ≡ length xs
  same_length [] [] all = refl
  same_length [] (y ∷ ys) all = absurd all
  same_length (x ∷ xs) [] all = absurd all
  same_length (x ∷ xs) (y ∷ ys) all = ap suc (same_length xs ys all.1)

module _ (m : Contents) where
  -- they are still open, and list the same entries
  pub record AreStill (xs ys : List SortedFile) : Type 0 where
    pub each : AllByRecursion (IsOpen m) ys
    pub lists : map (listed m) ys ≡ map (listed m) xs

  pub still_files : (xs ys : List SortedFile) → AllZip (IsSameFile (Some m)) xs ys → AllByRecursion (IsOpen m) xs → AreStill xs ys
  still_files [] [] all is = record { each = tt; lists = refl }
  still_files [] (y ∷ ys) all is = absurd all
  still_files (x ∷ xs) [] all is = absurd all
  still_files (x ∷ xs) (y ∷ ys) all is =
      let first = all.0.still is.0 in
      let rest = still_files xs ys all.1 is.1 in
      record { each = (first, rest.each); lists = ap (λ es. es ∷ map (listed m) ys) (all.0.lists m) ∙ ap (λ lists. listed m x ∷ lists) rest.lists }

-- a list has the entry of a first list, else of a second one
module _ (all es rest : List Entry) (key : CellKey) (joined : (name : List ℕ) → entry_of_key all name ≡ or_else (entry_of_key es name) (entry_of_key rest name)) where
  of_rest : (name : List ℕ) → entry_of_key es name ≡ None → entry_of_key all name ≡ entry_of_key rest name
  of_rest name none = joined name ∙ ap (λ (e : Option (Option (List ℕ))). or_else e (entry_of_key rest name)) none

  behind_none : (from : ℕ) → IsNewestEntry es key from None → (newest : Option (ℕ × Option (List ℕ))) → IsNewestEntry rest key from newest → IsNewestEntry all key from newest
  behind_none from none None h = λ s a b. of_rest (text (at_stamp key s)) (none s a b) ∙ h s a b
  behind_none from none (Some n) h =
      let low = h.0 in (
        h.0,
        h.1,
        of_rest (text (at_stamp key n.0)) (none n.0 h.0 h.1) ∙ h.2,
        λ s a b. of_rest (text (at_stamp key s)) (none s (omega (arith, low, a)) b) ∙ h.3 s a b,
      )

  over_found : (from : ℕ) (entry : ℕ × Option (List ℕ)) → IsNewestEntry es key from (Some entry) → (newest : Option (ℕ × Option (List ℕ))) → IsNewestEntry rest key (entry.0 + 1) newest → IsNewestEntry all key from (or_else newest (Some entry))
  over_found from entry is None h = (
    is.0,
    is.1,
    joined (text (at_stamp key entry.0)) ∙ ap (λ (e : Option (Option (List ℕ))). or_else e (entry_of_key rest (text (at_stamp key entry.0)))) is.2,
    λ s a b. of_rest (text (at_stamp key s)) (is.3 s a b) ∙ h s (omega (arith, a)) b,
  )
  over_found from entry is (Some n) h =
      let low = h.0 in
      let least = is.0 in (
        omega (arith, low, least),
        h.1,
        of_rest (text (at_stamp key n.0)) (is.3 n.0 (omega (arith, low)) h.1) ∙ h.2,
        λ s a b. of_rest (text (at_stamp key s)) (is.3 s (omega (arith, low, a)) b) ∙ h.3 s a b,
      )

-- One file is searched, after those before it.
module _ (o now : Option Contents) (same : now ≡ o) (xs ys : List SortedFile) (i : ℕ) (d : SortedFile) (below : i < length ys) (all : AllZip (IsSameFile o) xs ys) where
  pub same_set : (u : SortedFile) → IsSameFile now (get_or ys i d) u → AllZip (IsSameFile o) xs (set ys i u)
  same_set u is = at xs ys i below all (subst (λ (told : Option Contents). IsSameFile told (get_or ys i d) u) same is)
    where
      at : (xs ys : List SortedFile) (i : ℕ) → i < length ys → AllZip (IsSameFile o) xs ys → IsSameFile o (get_or ys i d) u → AllZip (IsSameFile o) xs (set ys i u)
      at [] [] i below all is = absurd (omega (arith, below))
      at [] (y ∷ ys) i below all is = absurd all
      at (x ∷ xs) [] i below all is = absurd all
      at (x ∷ xs) (y ∷ ys) zero below all is = (same_after o x y u all.0 is, all.1)
      at (x ∷ xs) (y ∷ ys) (suc i) below all is = (all.0, at xs ys i (omega (arith, below)) all.1 is)

  -- the file there is open, and the entry of a key in it or in the files after it
  abbrev IsStillAt : Contents → List ℕ → Type 0
  IsStillAt m name = IsOpen m (get_or ys i d) × (first_naming (map (listed m) (drop i xs)) name ≡ or_else (entry_of_key (listed m (get_or ys i d)) name) (first_naming (map (listed m) (drop (suc i) xs)) name))

  still_at : (m : Contents) (name : List ℕ) → o ≡ Some m → AllByRecursion (IsOpen m) xs → IsStillAt m name
  still_at m name is each = at xs ys i below (subst (λ (told : Option Contents). AllZip (IsSameFile told) xs ys) is all) each
    where
      at : (xs ys : List SortedFile) (i : ℕ) → i < length ys → AllZip (IsSameFile (Some m)) xs ys → AllByRecursion (IsOpen m) xs
          → IsOpen m (get_or ys i d) × (first_naming (map (listed m) (drop i xs)) name ≡ or_else (entry_of_key (listed m (get_or ys i d)) name) (first_naming (map (listed m) (drop (suc i) xs)) name))
      at [] [] i below all each = absurd (omega (arith, below))
      at [] (y ∷ ys) i below all each = absurd all
      at (x ∷ xs) [] i below all each = absurd all
      at (x ∷ xs) (y ∷ ys) zero below all each =
          let first = all.0.still each.0 in
          (first, ap (λ (es : List Entry). or_else (entry_of_key es name) (first_naming (map (listed m) xs) name)) (sym (all.0.lists m)))
      at (x ∷ xs) (y ∷ ys) (suc i) below all each = at xs ys i (omega (arith, below)) all.1 each.1

  -- if it is not open, not all were
  pub not_open : IfSome now (λ m. ¬ IsOpen m (get_or ys i d)) → IfSome o (λ m. ¬ AllByRecursion (IsOpen m) xs)
  not_open closed = told_both o now same (λ m. ⊤) (λ m. ¬ IsOpen m (get_or ys i d)) _ (λ m is _ not each. not (still_at m [] is each).0) (told_any o) closed

  next : suc i ≡ i + 1
  next = omega arith

  -- with the newest entry of the files from `at` on, from a stamp, this is the newest of all
  abbrev pub Goes : CellKey → ℕ → ℕ → ℕ → Option (ℕ × Option (List ℕ)) → Type 0
  Goes key lo at from found =
      IfSome o (λ m. AllByRecursion (IsOpen m) xs → (newest : Option (ℕ × Option (List ℕ))) → IsNewestEntry (merged (map (listed m) (drop at xs))) key from newest
      → IsNewestEntry (merged (map (listed m) xs)) key lo (or_else newest found))

  -- the merged list of the files from this one on has the entry of this file, else of the others
  split_at : (m : Contents) → o ≡ Some m → AllByRecursion (IsOpen m) xs → (name : List ℕ)
      → entry_of_key (merged (map (listed m) (drop i xs))) name ≡ or_else (entry_of_key (listed m (get_or ys i d)) name) (entry_of_key (merged (map (listed m) (drop (suc i) xs))) name)
  split_at m is each name =
      key_of_merged (map (listed m) (drop i xs)) name ∙ (still_at m name is each).1
      ∙ ap (or_else (entry_of_key (listed m (get_or ys i d)) name)) (sym (key_of_merged (map (listed m) (drop (suc i) xs)) name))

  -- this file has no such entry
  pub goes_on : (key : CellKey) (lo from : ℕ) (found : Option (ℕ × Option (List ℕ))) → Goes key lo i from found → IfSome now (λ m. IsOpen m (get_or ys i d) → IsNewestEntry (listed m (get_or ys i d)) key from None)
      → Goes key lo (i + 1) from found
  goes_on key lo from found goes none =
      subst (λ (k : ℕ). Goes key lo k from found) next
      (told_both o now same _ (λ m. IsOpen m (get_or ys i d) → IsNewestEntry (listed m (get_or ys i d)) key from None) _
      (λ m is before here each newest rest.
      before each newest (behind_none (merged (map (listed m) (drop i xs))) (listed m (get_or ys i d)) (merged (map (listed m) (drop (suc i) xs))) key (split_at m is each) from (here (still_at m [] is each).0) newest rest)) goes none)

  -- its entry is newer than those before
  pub goes_over : (key : CellKey) (lo from : ℕ) (found : Option (ℕ × Option (List ℕ))) (entry : ℕ × Option (List ℕ)) → Goes key lo i from found → IfSome now (λ m. IsOpen m (get_or ys i d) → IsNewestEntry (listed m (get_or ys i d)) key from (Some entry))
      → Goes key lo (i + 1) (entry.0 + 1) (Some entry)
  goes_over key lo from found entry goes some =
      subst (λ (k : ℕ). Goes key lo k (entry.0 + 1) (Some entry)) next
      (told_both o now same _ (λ m. IsOpen m (get_or ys i d) → IsNewestEntry (listed m (get_or ys i d)) key from (Some entry)) _
      (λ m is before here each newest rest.
      or_first newest (λ n. IsNewestEntry (merged (map (listed m) xs)) key lo n)
      (before each (or_else newest (Some entry)) (over_found (merged (map (listed m) (drop i xs))) (listed m (get_or ys i d)) (merged (map (listed m) (drop (suc i) xs))) key (split_at m is each) from entry (here (still_at m [] is each).0) newest rest))) goes some)
    where
      or_first : (newest : Option (ℕ × Option (List ℕ))) (P : Option (ℕ × Option (List ℕ)) → Type 0) → P (or_else (or_else newest (Some entry)) found) → P (or_else newest (Some entry))
      or_first None P h = h
      or_first (Some n) P h = h

pub or_none : {A : Type 0} (x : Option A) (P : Option A → Type 0) → P x → P (or_else x None)
or_none None P h = h
or_none (Some a) P h = h

module _ (o : Option Contents) (xs : List SortedFile) (key : CellKey) (lo at from : ℕ) (found : Option (ℕ × Option (List ℕ))) where
  -- there are no newer stamps, or no further files
  pub ended : IfSome o (λ m. AllByRecursion (IsOpen m) xs → (newest : Option (ℕ × Option (List ℕ))) → IsNewestEntry (merged (map (listed m) (drop at xs))) key from newest → IsNewestEntry (merged (map (listed m) xs)) key lo (or_else newest found))
      → (key.stamp < from) ⊎ (length xs ≤ at) → IfSome o (λ m. AllByRecursion (IsOpen m) xs → IsNewestEntry (merged (map (listed m) xs)) key lo found)
  ended goes end = go o goes
    where
      all_dropped : (xs : List SortedFile) (i : ℕ) → length xs ≤ i → drop i xs ≡ []
      all_dropped [] zero le = refl
      all_dropped [] (suc i) le = refl
      all_dropped (x ∷ xs) zero le = absurd (omega (arith, le))
      all_dropped (x ∷ xs) (suc i) le = all_dropped xs i (omega (arith, le))

      none_left : (m : Contents) → (key.stamp < from) ⊎ (length xs ≤ at) → IsNewestEntry (merged (map (listed m) (drop at xs))) key from None
      none_left m (inl past) s a b = absurd (omega (arith, past, a, b))
      none_left m (inr le) s a b = key_of_merged (map (listed m) (drop at xs)) (text (at_stamp key s)) ∙ ap (λ (fs : List SortedFile). first_naming (map (listed m) fs) (text (at_stamp key s))) (all_dropped xs at le)

      go : (o : Option Contents) → IfSome o (λ m. AllByRecursion (IsOpen m) xs → (newest : Option (ℕ × Option (List ℕ))) → IsNewestEntry (merged (map (listed m) (drop at xs))) key from newest → IsNewestEntry (merged (map (listed m) xs)) key lo (or_else newest found))
          → IfSome o (λ m. AllByRecursion (IsOpen m) xs → IsNewestEntry (merged (map (listed m) xs)) key lo found)
      go None h = tt
      go (Some m) h = λ each. h each None (none_left m end)

-- a tablet is the same if its files are
pub same_tablet : (o : Option Contents) (t u : Tablet) → range_of u ≡ range_of t → memory_of u ≡ memory_of t → AllZip (IsSameFile o) (files_of t) (files_of u) → IsSameTablet o t u
same_tablet o t u range memory files = record {
  range = range;
  memory = memory;
  names = same_names o (files_of t) (files_of u) files;
  lists = λ m. ap (λ es. es ∷ map (listed m) (files_of u)) memory ∙ ap (λ lists. memory_of t ∷ lists) (same_lists o m (files_of t) (files_of u) files);
  still = go o files;
}
  where
    go : (o : Option Contents) → AllZip (IsSameFile o) (files_of t) (files_of u) → IfSome o (λ m. Holds m t → Holds m u)
    go None files = tt
    go (Some m) files = λ h. record { memory = subst IsEntryList (sym memory) h.memory; files = (still_files m (files_of t) (files_of u) files h.files).each }

pub same_itself : (o : Option Contents) (t : Tablet) → IsSameTablet o t t
same_itself o t = same_tablet o t t refl refl (same_files o (files_of t))
