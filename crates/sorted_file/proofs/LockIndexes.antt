-- Indexes of the locks of files.
use Rattle.std.proofs.Common.{◌≡◌, ◌∙◌, ◌≤◌, Bool, true, false, cond, ℕ, List, [], ◌∷◌, map, Contains, Option, Some, None, refl, sym, ap, subst}
use Rattle.std.specs.List.{AllByRecursion, AllZip}
use Rattle.std.specs.Option.{IsSome}
use Rattle.std.specs.Ordering.{eq_by_cmp}
use Rattle.std.specs.Prelude.{IfSome}
use Rattle.std.specs.FinMap.Entries.{find}
use Rattle.cell_key.specs.Keys.{byte_cmp, text, IsStored}
use Rattle.cell_key.specs.Entries.{Entry, entry_of_key, first_naming, or_else, value_of}
use Rattle.cell_key.specs.declared.keys.CellKey.{CellKey}
use Rattle.cell_key.specs.declared.keys.Qualifier.TheVariants.{Lock}
use Rattle.file_store.specs.Store.{Contents}
use Rattle.sorted_file.specs.File.{IsSameFile, IsTelling, listing}
use Rattle.sorted_file.specs.LockIndexes.{IsIndexOf, StaysIndexed, stamp_of}
use Rattle.sorted_file.specs.LockStamps.{IsLatest}
use Rattle.sorted_file.specs.Newest.{at_stamp, IsAfterStamp}
use Rattle.sorted_file.specs.Numbers.{lock_stamp, number_of, IsAmong, IsLockKept}
use Rattle.sorted_file.specs.declared.file.SortedFile.{SortedFile}
use Rattle.sorted_file.specs.declared.lock_stamps.LockStamp.{LockStamp}
use Rattle.sorted_file.proofs.Bounded.{one_text}
use Rattle.sorted_file.proofs.KeptLocks.{contains_map}
use Rattle.sorted_file.proofs.Numbered.{one_number}

-- ---- only caches change

told_before : (disk : Option Contents) (old new : SortedFile) → IsSameFile disk old new → IsTelling new → IsTelling old
told_before disk old new same is = subst (λ (f : SortedFile). IsTelling f) (same.rest old.cache) is

all_told_before : (disk : Option Contents) (old new : List SortedFile) → AllZip (IsSameFile disk) old new → AllByRecursion IsTelling new → AllByRecursion IsTelling old
all_told_before disk [] [] same all = tt
all_told_before disk [] (y ∷ ys) same all = absurd same
all_told_before disk (x ∷ xs) [] same all = absurd same
all_told_before disk (x ∷ xs) (y ∷ ys) same all = (told_before disk x y same.0 all.0, all_told_before disk xs ys same.1 all.1)

same_listings : (disk : Option Contents) (old new : List SortedFile) → AllZip (IsSameFile disk) old new → map listing new ≡ map listing old
same_listings disk [] [] same = refl
same_listings disk [] (y ∷ ys) same = absurd same
same_listings disk (x ∷ xs) [] same = absurd same
same_listings disk (x ∷ xs) (y ∷ ys) same =
    ap (λ (es : List Entry). es ∷ map listing ys) (ap listing (same.0.rest x.cache)) ∙ ap (λ (l : List (List Entry)). listing x ∷ l) (same_listings disk xs ys same.1)

pub stays_indexed : StaysIndexed
stays_indexed disk index old new same is all key stored lock some =
    is (all_told_before disk old new same all) key stored lock
    (subst (λ (l : List (List Entry)). IsSome (value_of (first_naming l (text key)))) (same_listings disk old new same) some)

-- ---- a newer file

not_some : {A : Type 0} (o : Option A) → o ≡ None → ¬ IsSome o
not_some None e is = cc
not_some (Some x) e is = cc

-- the key of a lock's value is kept
kept_at : (locks : List CellKey) (es : List Entry) → AllByRecursion (IsLockKept locks) es → (key : CellKey) → IsStored key → key.qualifier ≡ Lock → IsSome (value_of (entry_of_key es (text key))) → Contains locks key
kept_at locks [] all key stored lock some = cc
kept_at locks ((name, value) ∷ es) all key stored lock some = go (eq_by_cmp byte_cmp (text key) name) refl some (kept_at locks es all.1 key stored lock)
  where
    go : (b : Bool) → eq_by_cmp byte_cmp (text key) name ≡ b → IsSome (value_of (cond b (Some value) (find byte_cmp (text key) es))) → (IsSome (value_of (entry_of_key es (text key))) → Contains locks key) → Contains locks key
    go true e is more = all.0 key stored (sym (one_text (text key) name e)) lock is
    go false e is more = more is

pub index_over : (old new : List CellKey) (file : SortedFile) → ((key : CellKey) → Contains old key → ¬ Contains file.named_locks.items key → Contains new key) → IsAmong file.lock_values.items new
    → (files : List SortedFile) → IsIndexOf old files → IsIndexOf new (file ∷ files)
index_over old new file keeps takes files is all key stored lock some = go (entry_of_key (listing file) (text key)) refl some
  where
    go : (o : Option (Option (List ℕ))) → entry_of_key (listing file) (text key) ≡ o → IsSome (value_of (or_else o (first_naming (map listing files) (text key)))) → Contains new key
    go None e value = keeps key (is all.1 key stored lock value) (λ named. not_some _ e (all.0.named key named))
    go (Some v) e value = takes key (kept_at file.lock_values.items (listing file) all.0.values key stored lock (subst (λ (o : Option (Option (List ℕ))). IsSome (value_of o)) (sym e) value))

-- ---- the locks of a column

-- the latest of some stamps is the latest of the same stamps in another order
pub latest_among : (xs ys : List LockStamp) (column lo hi : ℕ) (found : Option ℕ) → IsAmong xs ys → IsAmong ys xs → IsLatest xs column lo hi found → IsLatest ys column lo hi found
latest_among xs ys column lo hi found to from latest = record {
  within = latest.within;
  there = there_too found latest.there;
  none = λ s after up there. latest.none s after up (from (lock_stamp column s) there);
}
  where
    there_too : (found : Option ℕ) → IfSome found (λ stamp. Contains xs (lock_stamp column stamp)) → IfSome found (λ stamp. Contains ys (lock_stamp column stamp))
    there_too None is = tt
    there_too (Some stamp) is = to (lock_stamp column stamp) is

-- a key above the latest stamp isn't in the index
pub none_later : (index : List CellKey) (key : CellKey) (lo : ℕ) (found : Option ℕ) → IsLatest (map stamp_of index) (number_of (text key)) lo key.stamp found
    → (s : ℕ) → IsAfterStamp s lo found → s ≤ key.stamp → ¬ Contains index (at_stamp key s)
none_later index key lo found latest s after up there =
    latest.none s after up
    (subst (λ (n : ℕ). Contains (map stamp_of index) (lock_stamp n s)) (one_number key s) (contains_map stamp_of index (at_stamp key s) there))
