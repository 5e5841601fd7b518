-- A file that a filter of keys covers, by the filter's answers.
use Rattle.std.proofs.Common.{◌≡◌, ◌↔◌, ◌∙◌, ◌≤◌, ℕ, T, Bool, false, List, Contains, ap, subst, sym, arith}
use Rattle.std.specs.Prelude.{All, IsTrue, None}
use Rattle.std.proofs.lemmas.List.Elements.{All-contains}
use Rattle.cell_key.specs.Entries.{entry_of_key}
use Rattle.cell_key.specs.Keys.{text, IsKey}
use Rattle.cell_key.specs.declared.keys.CellKey.{CellKey}
use Rattle.cell_key.specs.declared.keys.Qualifier.TheVariants.{Lock}
use Rattle.file_store.specs.Store.{Contents}
use Rattle.sorted_file.specs.Bounds.{AreWithin}
use Rattle.sorted_file.specs.File.{IsOpen, listed}
use Rattle.sorted_file.specs.Filters.{HasBits}
use Rattle.sorted_file.specs.KeyFilters.{StaysCovered}
use Rattle.sorted_file.specs.Newest.{at_stamp, IsNewestEntry}
use Rattle.sorted_file.specs.Numbers.{number_of, text_number}
use Rattle.sorted_file.specs.declared.bounds.ColumnBounds.{ColumnBounds}
use Rattle.sorted_file.specs.declared.file.SortedFile.{SortedFile}
use Rattle.sorted_file.proofs.MayHave.{none_in_file}
use Rattle.sorted_file.proofs.Numbered.{no_entry}

-- a number that isn't in a filter isn't among the numbers that were added
pub unset : (words numbers : List ℕ) (number other : ℕ) (has : Bool) → (IsTrue has ↔ HasBits words number) → has ≡ false → number ≡ other
    → All (HasBits words) numbers → ¬ Contains numbers other
unset words numbers number other has says not same each there =
    subst T (sym (says.1 (subst (HasBits words) (sym same) (All-contains (HasBits words) numbers other each there))) ∙ not) tt

-- a file that is unchanged but for its cache has the same hashes
pub stays_covered : StaysCovered
stays_covered disk filter old new same covers = record {
  numbers = subst (All (HasBits filter.numbers.words.items)) (ap (λ (f : SortedFile). f.numbers) (sym (same.rest old.cache))) covers.numbers;
  lock_keys = subst (All (HasBits filter.lock_keys.words.items)) (ap (λ (f : SortedFile). f.lock_keys) (sym (same.rest old.cache))) covers.lock_keys;
  bounds = subst (λ (b : ColumnBounds). AreWithin b filter.bounds) (ap (λ (f : SortedFile). f.bounds) (sym (same.rest old.cache))) covers.bounds;
}

-- a column whose hash isn't listed has no entry
pub none_numbered : (m : Contents) (file : SortedFile) → IsOpen m file → (key : CellKey) → ¬ Contains file.numbers (number_of (text key)) → (lo : ℕ) → IsNewestEntry (listed m file) key lo None
none_numbered m file o key out lo s low high = no_entry file.numbers key out (listed m file) o.numbered s

-- a single lock whose key's hash isn't listed has no entry
pub none_keyed : (m : Contents) (file : SortedFile) → IsOpen m file → (key : CellKey) → IsKey key → key.qualifier ≡ Lock → ¬ Contains file.lock_keys (text_number (text key)) → (lo : ℕ) → lo ≡ key.stamp → IsNewestEntry (listed m file) key lo None
none_keyed m file o key is lock out lo one s low high =
    let same : key.stamp ≡ s = omega (arith, one, low, high) in
    subst (λ (n : ℕ). entry_of_key (listed m file) (text (at_stamp key n)) ≡ None) same
    (none_in_file m file o key is (λ may. out (may.lock lock)))
