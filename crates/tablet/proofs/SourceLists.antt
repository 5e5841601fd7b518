-- Sources collected one at a time.
use Rattle.std.proofs.Common.{◌≡◌, ◌+◌, ◌<◌, ◌≤◌, ℕ, List, [], ◌∷◌, ◌++◌, map, length, take, get_or, refl, sym, ap, subst, ◌∙◌, append_assoc, add-one}
use Rattle.std.proofs.Math.Seq.{take-suc}
use Rattle.std.proofs.lemmas.List.{take_all}
use Rattle.std.proofs.lemmas.List.Elements.{All-contains, All-from_recursion, Contains-append_left, Contains-push}
use Rattle.std.specs.Prelude.{Option, Some, None}
use Rattle.std.specs.Option.{option_to_list}
use Rattle.std.specs.List.{AllByRecursion, AllZip}
use Rattle.cell_key.specs.Entries.{Entry, IsEntryList, entries_from}
use Rattle.file_store.specs.Store.{Contents}
use Rattle.sorted_file.specs.Cursor.{CursorHolds, cursor_lent, cursor_remaining}
use Rattle.sorted_file.specs.File.{IsOpen, listed}
use Rattle.sorted_file.specs.declared.cursor.FileCursor.{FileCursor}
use Rattle.sorted_file.specs.declared.file.SortedFile.{SortedFile}
use Rattle.compaction.specs.Ends.{entries_until, lent_until, source_of, end_of}
use Rattle.compaction.specs.Inputs.{InputHolds, input_lent, input_remaining}
use Rattle.compaction.specs.declared.input.Input.{Input}
use Rattle.compaction.specs.declared.input.Input.TheVariants.{File}
use Rattle.compaction.specs.declared.bounded.Bounded.{Bounded}
use Rattle.rows.proofs.PushedLists.{each_push}
use Rattle.tablet.specs.Sources.{entries_between, listed_in, lists_over, AreSourcesOf, Comes, HasSource, IsAtStart, IsOpenIn, IsReadThrough, IsSourceOf, remaining_of}

-- the sources are those of the memtable and of the first `i` files
pub record AreGathered (from : List ℕ) (end : Option (List ℕ)) (memtable : Option (List Entry)) (files : List SortedFile) (i : ℕ) (sources : List (Bounded Input)) : Type 0 where
  pub start : (told : Option Contents) → AllByRecursion (IsOpenIn told) files → AllByRecursion (IsAtStart told) sources
  pub of : AllByRecursion (HasSource from end sources) (take i files)
  pub each : AreSourcesOf from end memtable (take i files) sources
  pub lists : (told : Option Contents) → AllByRecursion (IsOpenIn told) files → map (remaining_of told) sources ≡ map (entries_between from end) (lists_over told memtable (take i files))

map-push : {A B : Type 0} (f : A → B) (xs : List A) (x : A) → map f (xs ++ x ∷ []) ≡ map f xs ++ f x ∷ []
map-push f [] x = refl
map-push f (y ∷ xs) x = ap (λ zs. f y ∷ zs) (map-push f xs x)

append-nil : {A : Type 0} (xs : List A) → xs ++ [] ≡ xs
append-nil [] = refl
append-nil (x ∷ xs) = ap (λ ys. x ∷ ys) (append-nil xs)

one_more : {S : Type 0} (xs : List S) (i : ℕ) (s : S) → i < length xs → s ≡ get_or xs i s → take (i + 1) xs ≡ take i xs ++ s ∷ []
one_more xs i s l e = rw add-one (take-suc xs i s l ∙ ap (λ x. take i xs ++ x ∷ []) (sym e))

still_there : (from : List ℕ) (end : Option (List ℕ)) (xs : List (Bounded Input)) (s : Bounded Input) (files : List SortedFile) → AllByRecursion (HasSource from end xs) files → AllByRecursion (HasSource from end (xs ++ s ∷ [])) files
still_there from end xs s [] h = tt
still_there from end xs s (file ∷ files) h = (record { source = h.0.source; among = Contains-append_left xs (s ∷ []) h.0.source h.0.among; of = h.0.of }, still_there from end xs s files h.1)

zip_push : {A B : Type 0} (P : A → B → Type 0) (xs : List A) (ys : List B) (x : A) (y : B) → AllZip P xs ys → P x y → AllZip P (xs ++ x ∷ []) (ys ++ y ∷ [])
zip_push P [] [] x y all p = (p, tt)
zip_push P [] (b ∷ ys) x y all p = absurd all
zip_push P (a ∷ xs) [] x y all p = absurd all
zip_push P (a ∷ xs) (b ∷ ys) x y all p = (all.0, zip_push P xs ys x y all.1 p)

-- one more source, of one more file
pub sources_push : (from : List ℕ) (end : Option (List ℕ)) (memory : Option (List Entry)) (files : List SortedFile) (xs : List (Bounded Input)) (file : SortedFile) (s : Bounded Input) → AreSourcesOf from end memory files xs → IsSourceOf from end file s → AreSourcesOf from end memory (files ++ file ∷ []) (xs ++ s ∷ [])
sources_push from end None files xs file s are of = zip_push (IsSourceOf from end) files xs file s are of
sources_push from end (Some memory) files [] file s are of = absurd are
sources_push from end (Some memory) files (x ∷ xs) file s are of = (are.0, zip_push (IsSourceOf from end) files xs file s are.1 of)

module _ (from : List ℕ) (end : Option (List ℕ)) (memtable : Option (List Entry)) (files : List SortedFile) where
  pub first_gathered : (sources : List (Bounded Input)) → ((told : Option Contents) → AllByRecursion (IsAtStart told) sources) → ((told : Option Contents) → map (remaining_of told) sources ≡ map (entries_between from end) (option_to_list memtable)) → AreSourcesOf from end memtable [] sources → AreGathered from end memtable files 0 sources
  first_gathered sources start lists each = record {
    of = tt;
    each = each;
    start = λ m all. start m;
    lists = λ m all. lists m ∙ ap (map (entries_between from end)) (sym (append-nil (option_to_list memtable)));
  }

  pub all_gathered : (i : ℕ) (sources : List (Bounded Input)) → AreGathered from end memtable files i sources → length files ≤ i → (m : Option Contents) → AllByRecursion (IsOpenIn m) files → map (remaining_of m) sources ≡ map (entries_between from end) (lists_over m memtable files)
  all_gathered i sources g h m all = g.lists m all ∙ ap (λ (xs : List SortedFile). map (entries_between from end) (lists_over m memtable xs)) (take_all i files h)

  pub all_there : (i : ℕ) (sources : List (Bounded Input)) → AreGathered from end memtable files i sources → length files ≤ i → AllByRecursion (HasSource from end sources) files
  all_there i sources g h = subst (AllByRecursion (HasSource from end sources)) (take_all i files h) g.of

  pub all_each : (i : ℕ) (sources : List (Bounded Input)) → AreGathered from end memtable files i sources → length files ≤ i → AreSourcesOf from end memtable files sources
  all_each i sources g h = subst (λ (fs : List SortedFile). AreSourcesOf from end memtable fs sources) (take_all i files h) g.each

  lists_more : (m : Option Contents) (i : ℕ) (file : SortedFile) → i < length files → file ≡ get_or files i file → lists_over m memtable (take (i + 1) files) ≡ lists_over m memtable (take i files) ++ listed_in m file ∷ []
  lists_more m i file l is =
      ap (λ (xs : List SortedFile). option_to_list memtable ++ map (listed_in m) xs) (one_more files i file l is)
      ∙ ap (λ (xs : List (List Entry)). option_to_list memtable ++ xs) (map-push (listed_in m) (take i files) file)
      ∙ sym (append_assoc (option_to_list memtable) (map (listed_in m) (take i files)) (listed_in m file ∷ []))

  pub one_gathered : (i : ℕ) (xs ys : List (Bounded Input)) (file : SortedFile) (s : Bounded Input) → AreGathered from end memtable files i xs → i < length files → file ≡ get_or files i file → ((m : Option Contents) → IsOpenIn m file → IsAtStart m s) → ((m : Option Contents) → IsOpenIn m file → remaining_of m s ≡ entries_between from end (listed_in m file)) → IsSourceOf from end file s → ys ≡ xs ++ s ∷ [] → AreGathered from end memtable files (i + 1) ys
  one_gathered i xs ys file s g l is start list of pushed = record {
    of = subst (λ (zs : List (Bounded Input)). AllByRecursion (HasSource from end zs) (take (i + 1) files)) (sym pushed)
        (subst (AllByRecursion (HasSource from end (xs ++ s ∷ []))) (sym (one_more files i file l is))
        (each_push (HasSource from end (xs ++ s ∷ [])) (take i files) file (still_there from end xs s (take i files) g.of) (record { source = s; among = Contains-push xs s; of = of })));
    each = subst (λ (zs : List (Bounded Input)). AreSourcesOf from end memtable (take (i + 1) files) zs) (sym pushed)
        (subst (λ (fs : List SortedFile). AreSourcesOf from end memtable fs (xs ++ s ∷ [])) (sym (one_more files i file l is)) (sources_push from end memtable (take i files) xs file s g.each of));
    start = λ m all. subst (λ (zs : List (Bounded Input)). AllByRecursion (IsAtStart m) zs) (sym pushed) (each_push (IsAtStart m) xs s (g.start m all) (start m (opened m all)));
    lists =
        λ m all.
        ap (map (remaining_of m)) pushed
        ∙ map-push (remaining_of m) xs s
        ∙ ap (λ (zs : List (List Entry)). zs ++ remaining_of m s ∷ []) (g.lists m all)
        ∙ ap (λ (es : List Entry). map (entries_between from end) (lists_over m memtable (take i files)) ++ es ∷ []) (list m (opened m all))
        ∙ sym (map-push (entries_between from end) (lists_over m memtable (take i files)) (listed_in m file))
        ∙ sym (ap (map (entries_between from end)) (lists_more m i file l is));
  }
    where
      opened : (m : Option Contents) → AllByRecursion (IsOpenIn m) files → IsOpenIn m file
      opened m all = subst (IsOpenIn m) (sym is) (All-from_recursion (IsOpenIn m) files all i file l)

-- a source of an input at its start
pub source_start : (m : Option Contents) (s : Bounded Input) (x : Input) → source_of s ≡ x → InputHolds m x → input_lent x ≡ None → IsAtStart m s
source_start m s x e h l = (subst (λ (y : Input). InputHolds m y) (sym e) h, ap (λ (y : Input). lent_until (end_of s) (input_lent y)) e ∙ ap (lent_until (end_of s)) l)

pub source_remaining : (m : Option Contents) (s : Bounded Input) (x : Input) (end : Option (List ℕ)) (es : List Entry) → source_of s ≡ x → end_of s ≡ end → input_remaining m x ≡ es → remaining_of m s ≡ entries_until end es
source_remaining m s x end es e f g =
    ap (λ (y : Input). entries_until (end_of s) (input_remaining m y)) e
    ∙ ap (λ (u : Option (List ℕ)). entries_until u (input_remaining m x)) f
    ∙ ap (entries_until end) g

-- a source of a file's cursor at its start
pub file_start : (told : Option Contents) (s : Bounded Input) (cursor : FileCursor) (file : SortedFile) → source_of s ≡ File cursor → cursor_lent cursor ≡ None → ((m : Contents) → IsOpen m file → CursorHolds (Some m) cursor) → IsOpenIn told file → IsAtStart told s
file_start None s cursor file e lent holds is = absurd is
file_start (Some m) s cursor file e lent holds is = source_start (Some m) s (File cursor) e (holds m is) lent

pub file_remaining : (told : Option Contents) (s : Bounded Input) (cursor : FileCursor) (file : SortedFile) (from : List ℕ) (end : Option (List ℕ)) → source_of s ≡ File cursor → end_of s ≡ end → ((m : Contents) → IsOpen m file → cursor_remaining (Some m) cursor ≡ entries_from from (listed m file)) → IsOpenIn told file
    → remaining_of told s ≡ entries_between from end (listed_in told file)
file_remaining None s cursor file from end e f list is = absurd is
file_remaining (Some m) s cursor file from end e f list is = source_remaining (Some m) s (File cursor) end (entries_from from (listed m file)) e f (list m is)

-- ---- their lists

all_lists : (told : Option Contents) (files : List SortedFile) → AllByRecursion (IsOpenIn told) files → AllByRecursion IsEntryList (map (listed_in told) files)
all_lists told [] all = tt
all_lists None (file ∷ files) all = absurd all.0
all_lists (Some m) (file ∷ files) all = (all.0.list, all_lists (Some m) files all.1)

pub entry_lists : (memtable : Option (List Entry)) (files : List SortedFile) → AllByRecursion IsEntryList (option_to_list memtable) → (told : Option Contents) → AllByRecursion (IsOpenIn told) files → AllByRecursion IsEntryList (lists_over told memtable files)
entry_lists None files is told all = all_lists told files all
entry_lists (Some es) files is told all = (is.0, all_lists told files all)

-- ---- the files that were read

-- files whose sources reach their ends were read through
read_through : (disk : Option Contents) (from : List ℕ) (end : Option (List ℕ)) (sources : List (Bounded Input)) (files : List SortedFile) → AllByRecursion (HasSource from end sources) files → AllByRecursion (Comes disk) sources → AllByRecursion (IsReadThrough disk from end) files
read_through disk from end sources [] has all = tt
read_through disk from end sources (file ∷ files) has all = (
  record {
    source = has.0.source;
    of = has.0.of;
    comes = All-contains (Comes disk) sources has.0.source (All-from_recursion (Comes disk) sources all) has.0.among;
  },
  read_through disk from end sources files has.1 all,
)

-- the same files, between equal texts, were read through as well
pub all_through : (disk : Option Contents) (from low : List ℕ) (end high : Option (List ℕ)) (sources : List (Bounded Input)) (files read : List SortedFile) → from ≡ low → end ≡ high → files ≡ read → AllByRecursion (HasSource from end sources) files → AllByRecursion (Comes disk) sources → AllByRecursion (IsReadThrough disk low high) read
all_through disk from low end high sources files read f e r has all =
    subst (AllByRecursion (IsReadThrough disk low high)) r
    (subst (λ (h : Option (List ℕ)). AllByRecursion (IsReadThrough disk low h) files) e
    (subst (λ (l : List ℕ). AllByRecursion (IsReadThrough disk l end) files) f (read_through disk from end sources files has all)))
