-- Files covered by a filter of their keys.
use Rattle.std.proofs.Common.{◌≡◌, ◌∙◌, ◌≤◌, ℕ, List, [], ◌∷◌, map, drop, length, Contains, Option, Some, None, refl, sym, ap, subst}
use Rattle.std.specs.Option.{is_some}
use Rattle.std.proofs.lemmas.List.{with_items_is}
use Rattle.std.proofs.lemmas.List.Elements.{All-cons, All-drop, All-head, All-nil, All-same, All-tail, All-weaker}
use Rattle.std.specs.List.{AllByRecursion, AllZip}
use Rattle.std.specs.Prelude.{All}
use Rattle.std.specs.Vec.{with_items}
use Rattle.std.specs.declared.vec.Vec.{Vec}
use Rattle.cell_key.specs.Keys.{text, IsStored}
use Rattle.cell_key.specs.Entries.{entry_of_key, first_naming, merged, or_else, value_of}
use Rattle.cell_key.proofs.EntryLaws.{key_of_merged}
use Rattle.cell_key.specs.declared.keys.CellKey.{CellKey}
use Rattle.file_store.specs.Store.{Contents}
use Rattle.cell_key.specs.declared.keys.Qualifier.{Qualifier}
use Rattle.cell_key.specs.declared.keys.Qualifier.TheVariants.{Lock}
use Rattle.sorted_file.specs.Bounds.{HasNoneOfKind}
use Rattle.sorted_file.specs.File.{IsOpen, IsSameFile, IsTelling, listed}
use Rattle.sorted_file.specs.KeyFilters.{Covers, StaysCovered}
use Rattle.sorted_file.specs.LockIndexes.{IsIndexOf, StaysIndexed}
use Rattle.sorted_file.specs.Newest.{IsNewestEntry, at_stamp}
use Rattle.sorted_file.specs.declared.file.SortedFile.{SortedFile}
use Rattle.sorted_file.specs.declared.key_filter.KeyFilter.{KeyFilter}
use Rattle.tablet.specs.Reads.{HaveNoValue}
use Rattle.tablet.proofs.LeftOut.{none_named as none_in_each}

-- files that are the same as before are still covered
still_covered : StaysCovered → (o : Option Contents) (filter : KeyFilter) (xs ys : List SortedFile) → AllZip (IsSameFile o) xs ys → All (Covers filter) xs → All (Covers filter) ys
still_covered stays o filter [] [] same all = All-nil (Covers filter)
still_covered stays o filter [] (y ∷ ys) same all = absurd same
still_covered stays o filter (x ∷ xs) [] same all = absurd same
still_covered stays o filter (x ∷ xs) (y ∷ ys) same all =
    All-cons (Covers filter) y ys (stays o filter x y same.0 (All-head (Covers filter) x xs all))
    (still_covered stays o filter xs ys same.1 (All-tail (Covers filter) x xs all))

-- also when they were borrowed as a slice
pub covered_after : {Z : Type 0} → StaysCovered → (o : Option Contents) (filter : KeyFilter) (files : Vec SortedFile Z) (lent now : List SortedFile) → lent ≡ files.items → length now ≡ length lent → AllZip (IsSameFile o) lent now
    → All (Covers filter) files.items → All (Covers filter) (with_items files now).items
covered_after stays o filter files lent now is size same all =
    All-same (Covers filter) _ now (with_items_is files now (size ∙ ap length is ∙ sym files.ok.0)) (still_covered stays o filter lent now same (All-same (Covers filter) lent files.items is all))

-- the files after one replaced the first `count`
pub covered_more : (old new : KeyFilter) (count : ℕ) (file : SortedFile) (xs : List SortedFile) → Covers new file → ((other : SortedFile) → Covers old other → Covers new other) → All (Covers old) xs → All (Covers new) (file ∷ drop count xs)
covered_more old new count file xs covers keeps all =
    All-cons (Covers new) file (drop count xs) covers (All-drop (Covers new) count xs (All-weaker (Covers old) (Covers new) keeps xs all))

-- no covered file has a value that the filter rules out
none_each : (filter : KeyFilter) (q : Qualifier) (lo hi : ℕ) → ((file : SortedFile) → Covers filter file → (m : Contents) → IsOpen m file → HasNoneOfKind q lo hi (listed m file))
    → (xs : List SortedFile) → All (Covers filter) xs → (m : Contents) → AllByRecursion (IsOpen m) xs → (key : CellKey) → IsStored key → key.qualifier ≡ q → lo ≤ key.stamp → key.stamp ≤ hi
    → AllByRecursion (λ es. value_of (entry_of_key es (text key)) ≡ None) (map (listed m) xs)
none_each filter q lo hi none [] all m opened key stored kind low high = tt
none_each filter q lo hi none (x ∷ xs) all m opened key stored kind low high =
    (ap value_of (none x (All-head (Covers filter) x xs all) m opened.0 key stored kind low high), none_each filter q lo hi none xs (All-tail (Covers filter) x xs all) m opened.1 key stored kind low high)

pub none_valued : (filter : KeyFilter) (row : List ℕ) (q : Qualifier) (lo hi : ℕ) → ((file : SortedFile) → Covers filter file → (m : Contents) → IsOpen m file → HasNoneOfKind q lo hi (listed m file))
    → (xs : List SortedFile) → All (Covers filter) xs → HaveNoValue row q lo hi xs
none_valued filter row q lo hi none xs all m opened key stored same kind low high =
    none_in_each (map (listed m) xs) (text key) (none_each filter q lo hi none xs all m opened key stored kind low high)

-- ---- the index of locks

-- open files know their locks, as an index requires
told_of : (m : Contents) (xs : List SortedFile) → AllByRecursion (IsOpen m) xs → AllByRecursion IsTelling xs
told_of m [] opened = tt
told_of m (x ∷ xs) opened = (opened.0.locks_kept, told_of m xs opened.1)

-- a lock that is not in the index of open files has no value in them
pub not_indexed : (index : List CellKey) (xs : List SortedFile) → IsIndexOf index xs → (m : Contents) → AllByRecursion (IsOpen m) xs → (key : CellKey) → IsStored key → key.qualifier ≡ Lock → ¬ Contains index key
    → value_of (first_naming (map (listed m) xs) (text key)) ≡ None
not_indexed index xs is m opened key stored lock out = go (value_of (first_naming (map (listed m) xs) (text key))) refl
  where
    go : (o : Option (List ℕ)) → value_of (first_naming (map (listed m) xs) (text key)) ≡ o → o ≡ None
    go None e = refl
    go (Some v) e = absurd (out (is (told_of m xs opened) key stored lock (ap is_some e)))

-- the index of files that are the same as before is still theirs, also when they were borrowed as a slice
pub indexed_after : {Z : Type 0} → StaysIndexed → (o : Option Contents) (index : List CellKey) (files : Vec SortedFile Z) (lent now : List SortedFile) → lent ≡ files.items → length now ≡ length lent → AllZip (IsSameFile o) lent now
    → IsIndexOf index files.items → IsIndexOf index (with_items files now).items
indexed_after stays o index files lent now is size same before =
    subst (IsIndexOf index) (sym (with_items_is files now (size ∙ ap length is ∙ sym files.ok.0))) (stays o index lent now same (subst (IsIndexOf index) (sym is) before))

-- no file has an entry of the key's column that the filter rules out
module _ (m : Contents) (filter : KeyFilter) (key : CellKey) (lo : ℕ) (none : (file : SortedFile) → Covers filter file → (n : Contents) → IsOpen n file → IsNewestEntry (listed n file) key lo None) where
  none_naming : (xs : List SortedFile) → All (Covers filter) xs → AllByRecursion (IsOpen m) xs → (s : ℕ) → lo ≤ s → s ≤ key.stamp → first_naming (map (listed m) xs) (text (at_stamp key s)) ≡ None
  none_naming [] all each s low high = refl
  none_naming (x ∷ xs) all each s low high =
      ap (λ e. or_else e (first_naming (map (listed m) xs) (text (at_stamp key s)))) (none x (All-head (Covers filter) x xs all) m each.0 s low high)
      ∙ none_naming xs (All-tail (Covers filter) x xs all) each.1 s low high

  pub none_newest : (xs : List SortedFile) → All (Covers filter) xs → AllByRecursion (IsOpen m) xs → IsNewestEntry (merged (map (listed m) xs)) key lo None
  none_newest xs all each s low high = key_of_merged (map (listed m) xs) (text (at_stamp key s)) ∙ none_naming xs all each s low high
