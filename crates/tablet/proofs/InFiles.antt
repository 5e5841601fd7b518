-- The newest entry of files, under the memtable, as the next version of a tablet.
use Rattle.std.proofs.Common.{◌≡◌, ◌<◌, ◌≤◌, ◌^◌, ℕ, List, ◌∷◌, map, option_map, Option, Some, None, sym, ap, ◌∙◌, arith}
use Rattle.std.specs.Prelude.{IfSome, IsTrue, is_some, true, false}
use Rattle.std.specs.List.{AllByRecursion}
use Rattle.cell_key.specs.Keys.{text, IsKey, IsStored}
use Rattle.cell_key.specs.Cells.{IsNewest}
use Rattle.cell_key.specs.Entries.{Entry, entry_of_key, first_naming, merged, or_else, value_of}
use Rattle.cell_key.specs.declared.keys.CellKey.{CellKey}
use Rattle.cell_key.proofs.EntryLaws.{get-cells_of, key_of_merged}
use Rattle.file_store.specs.Store.{Contents}
use Rattle.sorted_file.specs.File.{IsOpen, listed}
use Rattle.sorted_file.specs.Newest.{at_stamp, IsNewestEntry}
use Rattle.tablet.specs.Ranges.{has_row}
use Rattle.tablet.specs.Reads.{HasNoLater, IsNextVersion}
use Rattle.tablet.specs.Views.{range_of, memory_of, files_of, lists_of, cells_at, Holds}
use Rattle.sorted_file.specs.declared.file.SortedFile.{SortedFile}
use Rattle.tablet.specs.declared.tablet.Tablet.{Tablet}
use Rattle.tablet.proofs.Held.{held_lists}
use Rattle.tablet.proofs.Versions.{newest_at_none, newest_at_some}

module _ (m : Contents) (t : Tablet) (held : Holds m t) (key : CellKey) (is : IsKey key) (small : key.stamp < 2 ^ 63) (lo : ℕ) (from : 1 ≤ lo) where
  abbrev lists : List (List Entry)
  lists = map (listed m) (files_of t)

  abbrev name : ℕ → List ℕ
  name s = text (at_stamp key s)

  stored : (s : ℕ) → lo ≤ s → s ≤ key.stamp → IsStored (at_stamp key s)
  stored s low high = record { row = is.row; family = is.family; from = omega (arith, from, low); to = omega (arith, small, high) }

  later_by : (found : Option (ℕ × Option (List ℕ))) → IsNewestEntry (merged lists) key lo found → HasNoLater key lo (option_map (λ next. next.0) found) lists
  later_by None h s after high stored = ap value_of (sym (key_of_merged lists (name s)) ∙ h s after high)
  later_by (Some f) h s after high stored = ap value_of (sym (key_of_merged lists (name s)) ∙ h.3 s after high)

  shows : (s : ℕ) → lo ≤ s → s ≤ key.stamp → (v : Option (List ℕ)) → value_of (first_naming (memory_of t ∷ lists) (name s)) ≡ v → IsTrue (has_row (range_of t) key.row) → IsNewest (cells_at m t) (at_stamp key) s s (option_map (λ value. (s, value)) v)
  shows s low high None e has = newest_at_none key.row key.family key.qualifier (range_of t) (lists_of m t) (held_lists m t held) has s e
  shows s low high (Some v) e has = newest_at_some key.row key.family key.qualifier (range_of t) (lists_of m t) (held_lists m t held) has s v (stored s low high) e

  in_front : (s : ℕ) (e : Option (Option (List ℕ))) → entry_of_key (memory_of t) (name s) ≡ e → first_naming (memory_of t ∷ lists) (name s) ≡ or_else e (first_naming lists (name s))
  in_front s e is = ap (λ (x : Option (Option (List ℕ))). or_else x (first_naming lists (name s))) is

  pub none_next : IsNewestEntry (merged lists) key lo None → IsNextVersion m t key lo None
  none_next h = record { later = later_by None h; here = tt }

  -- the memtable has no entry at the stamp
  pub shown_next : (f : ℕ × Option (List ℕ)) → IsNewestEntry (merged lists) key lo (Some f) → entry_of_key (memory_of t) (name f.0) ≡ None → IsNextVersion m t key lo (Some f)
  shown_next f h none = record {
    later = later_by (Some f) h;
    here = λ has gone. shows f.0 h.0 h.1 f.1 (ap value_of (in_front f.0 None none ∙ sym (key_of_merged lists (name f.0)) ∙ h.2)) has;
  }

  -- the memtable has an erasure there
  pub hidden_next : (f : ℕ × Option (List ℕ)) → IsNewestEntry (merged lists) key lo (Some f) → (w : Option (List ℕ)) → entry_of_key (memory_of t) (name f.0) ≡ Some w → IsNextVersion m t key lo (Some (f.0, None))
  hidden_next f h w e = record {
    later = later_by (Some f) h;
    here = λ has gone.
        let erased : w ≡ None = sym (get-cells_of (memory_of t) held.memory.each (at_stamp key f.0) (stored f.0 h.0 h.1) ∙ ap value_of e) ∙ gone in
        shows f.0 h.0 h.1 None (ap value_of (in_front f.0 (Some w) e) ∙ erased) has;
  }

  -- a lock that was looked up at the latest stamp in the index
  pub lock_next : (s : ℕ) (v : Option (List ℕ)) → HasNoLater key lo (Some s) lists → lo ≤ s → s ≤ key.stamp → v ≡ value_of (first_naming (memory_of t ∷ lists) (name s)) → IsNextVersion m t key lo (Some (s, v))
  lock_next s v later low high e = record { later = later; here = λ has gone. shows s low high v (sym e) has }

-- a version that the memtable doesn't name, looked up in files
module _ (o : Option Contents) (memory : List Entry) (files : List SortedFile) (key : CellKey) (lo : ℕ) (one : lo ≡ key.stamp) (unnamed : None ≡ entry_of_key memory (text key)) where
  abbrev Finds : Option (List ℕ) → Type 0
  Finds v = IfSome o (λ m. AllByRecursion (IsOpen m) files → v ≡ value_of (or_else (entry_of_key memory (text key)) (first_naming (map (listed m) files) (text key))))

  told : (v : Option (List ℕ)) → (P : Contents → Type 0) → ((m : Contents) → P m → v ≡ value_of (first_naming (map (listed m) files) (text key))) → IfSome o (λ m. AllByRecursion (IsOpen m) files → P m) → Finds v
  told v P f = go o
    where
      go : (o : Option Contents) → IfSome o (λ m. AllByRecursion (IsOpen m) files → P m) → IfSome o (λ m. AllByRecursion (IsOpen m) files → v ≡ value_of (or_else (entry_of_key memory (text key)) (first_naming (map (listed m) files) (text key))))
      go None h = tt
      go (Some m) h = λ each. f m (h each) ∙ ap (λ (e : Option (Option (List ℕ))). value_of (or_else e (first_naming (map (listed m) files) (text key)))) unnamed

  pub one_found : (f : ℕ × Option (List ℕ)) → IfSome o (λ m. AllByRecursion (IsOpen m) files → IsNewestEntry (merged (map (listed m) files)) key lo (Some f)) → Finds f.1
  one_found f =
      told f.1 (λ m. IsNewestEntry (merged (map (listed m) files)) key lo (Some f)) (λ m h.
      let low = h.0 in
      let high = h.1 in
      let same : f.0 ≡ key.stamp = omega (arith, one, low, high) in
      sym (ap value_of (sym (key_of_merged (map (listed m) files) (text key)) ∙ ap (λ (s : ℕ). entry_of_key (merged (map (listed m) files)) (text (at_stamp key s))) (sym same) ∙ h.2)))

  pub one_none_found : IfSome o (λ m. AllByRecursion (IsOpen m) files → IsNewestEntry (merged (map (listed m) files)) key lo None) → Finds None
  one_none_found =
      told None (λ m. IsNewestEntry (merged (map (listed m) files)) key lo None) (λ m h.
      sym (ap value_of (sym (key_of_merged (map (listed m) files) (text key)) ∙ h key.stamp (omega (arith, one)) (omega arith))))

-- whether the memtable names a version
pub some_named : {A : Type 0} (o : Option A) (f : A → Option (List ℕ)) (e : Option (Option (List ℕ))) → is_some o ≡ true → option_map f o ≡ e → (w : Option (List ℕ)) × (e ≡ Some w)
some_named None f e some is = cc
some_named (Some a) f e some is = (f a, sym is)

pub none_named : {A : Type 0} (o : Option A) (f : A → Option (List ℕ)) (e : Option (Option (List ℕ))) → is_some o ≡ false → option_map f o ≡ e → e ≡ None
none_named None f e none is = sym is
none_named (Some a) f e none is = cc
