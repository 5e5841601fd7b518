-- Tablets after the calls that change them.
use Rattle.std.proofs.Common.{◌≡◌, ℕ, zero, suc, ◌+◌, ◌<◌, ◌≤◌, List, [], ◌∷◌, map, drop, take, sym, subst, ◌∙◌, arith}
use Rattle.std.proofs.lemmas.List.{drop-map}
use Rattle.std.specs.Prelude.{◌≢◌, Option, Some, None, Result, Ok, Err, OnOk, IfSome, IsSomeAnd, IsTrue}
use Rattle.std.proofs.Common.{inl, inr}
use Rattle.std.specs.List.{AllByRecursion}
use Rattle.std.specs.FinMap.{get}
use Rattle.cell_key.specs.Cells.{IsEditOf, after_edits}
use Rattle.cell_key.specs.Entries.{Entry, IsEntryList, cells_of}
use Rattle.cell_key.specs.declared.edits.Edit.{Edit}
use Rattle.cell_key.specs.declared.refusals.Refusal.{Refusal}
use Rattle.file_store.specs.Store.{Contents, KeepsOthers}
use Rattle.memtable.specs.Edits.{HasStoredKey, with_edits}
use Rattle.sorted_file.specs.File.{IsOpen, StaysOpen, listed, name_of}
use Rattle.sorted_file.specs.declared.file.SortedFile.{SortedFile}
use Rattle.tablet.specs.Ranges.{has_row}
use Rattle.tablet.specs.Compactions.{HasPut, IsNewFile, ReadsOpen, files_after}
use Rattle.tablet.specs.Sources.{IsOpenIn}
use Rattle.tablet.specs.Views.{range_of, memory_of, files_of, names_of, lists_of, cells_at, Holds, IsBelow, IsUnchanged, UsesName, Keeps, MakesLists}
use Rattle.tablet.specs.declared.tablet.Tablet.{Tablet}
use Rattle.tablet.specs.declared.compactions.Compaction.{Compaction}
use Rattle.tablet.specs.declared.compactions.Compaction.TheVariants.{Minor, Merge, Major}
use Rattle.tablet.proofs.Held.{held_lists}
use Rattle.tablet.proofs.Seen.{shown}
use Rattle.tablet.proofs.KeptCells.{all_in, all_limited, edits_list, edits_shown}
use Rattle.tablet.proofs.TabletLaws.{each_same, files_over, still_below}

-- ---- edits

pub after_apply : (r : Result Unit Refusal) (row : List ℕ) (t : Tablet) (new : List Entry) (edits : List Edit) → AllByRecursion (IsEditOf row) edits → OnOk r (new ≡ with_edits (memory_of t) edits) → OnOk r (AllByRecursion HasStoredKey edits)
    → OnOk r ((m : Contents) → Holds m t → IsTrue (has_row (range_of t) row) → cells_at m record t { memtable = new } ≡ after_edits (cells_at m t) edits)
after_apply (Ok x) row t new edits e is k = λ m h inside. let P : List Entry → Type 0 = λ (es : List Entry). cells_at m record t { memtable = es } ≡ after_edits (cells_at m t) edits in
    subst P (sym is) (edits_shown (range_of t) (memory_of t) (map (listed m) (files_of t)) edits (held_lists m t h) k (all_limited row edits e) (all_in (range_of t) row edits inside e))
after_apply (Err x) row t new edits e is k = tt

pub holds_after_apply : (r : Result Unit Refusal) (row : List ℕ) (t : Tablet) (new : List Entry) (edits : List Edit) → AllByRecursion (IsEditOf row) edits → OnOk r (new ≡ with_edits (memory_of t) edits) → OnOk r (AllByRecursion HasStoredKey edits)
    → OnOk r ((m : Contents) → Holds m t → Holds m record t { memtable = new })
holds_after_apply (Ok x) row t new edits e is k = λ m h. record { memory = subst IsEntryList (sym is) (edits_list (memory_of t) edits h.memory k (all_limited row edits e)); files = h.files }
holds_after_apply (Err x) row t new edits e is k = tt

-- ---- files

-- all files except this one are unchanged
abbrev pub OthersStay : ℕ → Contents → Contents → Type 0
OthersStay next m n = (other : ℕ) → other ≢ next → get n other ≡ get m other

apart : (a b : ℕ) → a < b → a ≢ b
apart a b l e = omega arith

new_below : (next : ℕ) → next < next + 1
new_below next = omega arith

one_more : (next : ℕ) → next ≤ next + 1
one_more next = omega arith

pub all_drop : {A : Type 0} (P : A → Type 0) (count : ℕ) (xs : List A) → AllByRecursion P xs → AllByRecursion P (drop count xs)
all_drop P zero xs h = h
all_drop P (suc count) [] h = tt
all_drop P (suc count) (x ∷ xs) h = all_drop P count xs h.1

-- files with used names stay open when another name is written, and list the same entries
pub files_stay : StaysOpen → (next : ℕ) (m n : Contents) → OthersStay next m n → (files : List SortedFile) → AllByRecursion (IsOpen m) files → AllByRecursion (λ name. name < next) (map name_of files) → AllByRecursion (IsOpen n) files × (map (listed n) files ≡ map (listed m) files)
files_stay stays next m n others files opened below =
    files_over stays m n files opened (each_same m n next (map name_of files) (λ name l. others name (apart name next l)) below)

-- ---- compactions

-- a tablet whose newest `count` files were replaced by a new one
pub record IsMade (next : ℕ) (t u : Tablet) (file : SortedFile) (count : ℕ) (entries : List Entry) : Type 0 where
  pub range : range_of u ≡ range_of t
  pub memory : memory_of u ≡ entries
  pub files : files_of u ≡ file ∷ drop count (files_of t)
  pub named : name_of file ≡ next

pub record HasMade (n : Contents) (after : ℕ) (u : Tablet) (all : List (List Entry)) : Type 0 where
  pub holds : Holds n u
  pub below : IsBelow after u
  pub lists : lists_of n u ≡ all

made : StaysOpen → (m n : Contents) (next after : ℕ) (t u : Tablet) (file : SortedFile) (count : ℕ) (memory es : List Entry) → IsMade next t u file count memory → after ≡ next + 1 → OthersStay next m n → IsNewFile n file es → IsEntryList memory → Holds m t → IsBelow next t
    → HasMade n after u (memory ∷ es ∷ drop count (map (listed m) (files_of t)))
made stays m n next after t u file count memory es is used others new list h below =
    let old : List SortedFile = drop count (files_of t) in
    let names : AllByRecursion (λ name. name < next) (map name_of old) = subst (AllByRecursion (λ name. name < next)) (drop-map name_of count (files_of t)) (all_drop (λ name. name < next) count (names_of t) below) in
    let stay = files_stay stays next m n others old (all_drop (IsOpen m) count (files_of t) h.files) names in
    record {
      holds = record {
        memory = subst IsEntryList (sym is.memory) list;
        files = subst (AllByRecursion (IsOpen n)) (sym is.files) (new.opened, stay.0);
      };
      below = subst (λ (a : ℕ). AllByRecursion (λ name. name < a) (names_of u)) (sym used) (subst (λ (fs : List SortedFile). AllByRecursion (λ name. name < next + 1) (map name_of fs)) (sym is.files) (subst (λ (a : ℕ). a < next + 1) (sym is.named) (new_below next), still_below next (next + 1) (map name_of old) (one_more next) names));
      lists = (λ i. is.memory i ∷ map (listed n) (is.files i)) ∙ (λ i. memory ∷ new.lists i ∷ (stay.1 ∙ sym (drop-map (listed m) count (files_of t))) i);
    }

pub made_lists : StaysOpen → (old new : Option Contents) (next after : ℕ) (t u : Tablet) (file : SortedFile) (count : ℕ) (memory : List Entry) (es : Contents → List Entry) (form : List Entry → List (List Entry) → List (List Entry)) → IsMade next t u file count memory → after ≡ next + 1 → KeepsOthers next old new
    → IfSome old (λ m. Holds m t → IsSomeAnd new (λ n. IsNewFile n file (es m)))
    → ((m : Contents) → Holds m t → IsEntryList memory)
    → ((m : Contents) → Holds m t → memory ∷ es m ∷ drop count (map (listed m) (files_of t)) ≡ form (memory_of t) (map (listed m) (files_of t)))
    → MakesLists old next t new u form
made_lists stays None new next after t u file count memory es form is used others written list forms = tt
made_lists stays (Some m) None next after t u file count memory es form is used others written list forms = absurd others
made_lists stays (Some m) (Some n) next after t u file count memory es form is used others written list forms =
    λ h below. (made stays m n next after t u file count memory (es m) is used others (written h) (list m h) h below).lists ∙ forms m h

pub made_keeps : StaysOpen → (old new : Option Contents) (next after : ℕ) (t u : Tablet) (file : SortedFile) (count : ℕ) (memory : List Entry) (es : Contents → List Entry) → IsMade next t u file count memory → after ≡ next + 1 → KeepsOthers next old new
    → IfSome old (λ m. Holds m t → IsSomeAnd new (λ n. IsNewFile n file (es m)))
    → ((m : Contents) → Holds m t → IsEntryList memory)
    → ((m : Contents) → Holds m t → IsEntryList (es m) → cells_of (shown (range_of t) (memory ∷ es m ∷ drop count (map (listed m) (files_of t)))) ≡ cells_at m t)
    → Keeps old next t new after u
made_keeps stays None new next after t u file count memory es is used others written list cells = tt
made_keeps stays (Some m) None next after t u file count memory es is used others written list cells = absurd others
made_keeps stays (Some m) (Some n) next after t u file count memory es is used others written list cells =
    λ h below.
    let has = made stays m n next after t u file count memory (es m) is used others (written h) (list m h) h below in (
      has.holds,
      has.below,
      (λ i. cells_of (shown (is.range i) (has.lists i)))
          ∙ cells m h (subst IsEntryList (written h).lists (written h).opened.list),
    )

-- an unchanged tablet keeps its cells, whether a file of a new name was written or not
same_keeps : StaysOpen → (m n : Contents) (next after : ℕ) (t u : Tablet) → IsUnchanged t u → OthersStay next m n → after ≡ next + 1 → Holds m t → IsBelow next t → Holds n u × IsBelow after u × (cells_at n u ≡ cells_at m t)
same_keeps stays m n next after t u same others used h below =
    let stay = files_stay stays next m n others (files_of t) h.files below in (
      record { memory = subst IsEntryList (sym same.memory) h.memory; files = subst (AllByRecursion (IsOpen n)) (sym same.files) stay.0 },
      subst (λ (a : ℕ). AllByRecursion (λ name. name < a) (names_of u)) (sym used) (subst (λ (fs : List SortedFile). AllByRecursion (λ name. name < next + 1) (map name_of fs)) (sym same.files) (still_below next (next + 1) (names_of t) (one_more next) below)),
      (λ i. cells_of (shown (same.range i) (same.memory i ∷ map (listed n) (same.files i))))
          ∙ (λ i. cells_of (shown (range_of t) (memory_of t ∷ stay.1 i))),
    )

unchanged_keeps : (m : Contents) (next after : ℕ) (t u : Tablet) → IsUnchanged t u → after ≡ next → Holds m t → IsBelow next t → Holds m u × IsBelow after u × (cells_at m u ≡ cells_at m t)
unchanged_keeps m next after t u same used h below = (
  record { memory = subst IsEntryList (sym same.memory) h.memory; files = subst (AllByRecursion (IsOpen m)) (sym same.files) h.files },
  subst (λ (a : ℕ). AllByRecursion (λ name. name < a) (names_of u)) (sym used) (subst (λ (fs : List SortedFile). AllByRecursion (λ name. name < next) (map name_of fs)) (sym same.files) below),
  λ i. cells_of (shown (same.range i) (same.memory i ∷ map (listed m) (same.files i))),
)

pub still_keeps : StaysOpen → (old new : Option Contents) (next after : ℕ) (t u : Tablet) → IsUnchanged t u → UsesName old next new after → Keeps old next t new after u
still_keeps stays None new next after t u same uses = tt
still_keeps stays (Some m) new next after t u same (inl e) = subst (λ (o : Option Contents). Keeps (Some m) next t o after u) (sym e.1) (λ h below. unchanged_keeps m next after t u same e.0 h below)
still_keeps stays (Some m) None next after t u same (inr e) = absurd e.1
still_keeps stays (Some m) (Some n) next after t u same (inr e) = λ h below. same_keeps stays m n next after t u same e.1 e.0 h below

-- a compaction's files are open for a tablet that is unchanged from one for which they were
pub still_reads : (compaction : Compaction) (told : Option Contents) (t u : Tablet) → IsUnchanged t u → ReadsOpen compaction told t → ReadsOpen compaction told u
still_reads Minor told t u same h = tt
still_reads (Merge count) told t u same h = subst (λ (fs : List SortedFile). AllByRecursion (IsOpenIn told) (take count fs)) (sym same.files) h
still_reads Major told t u same h = subst (AllByRecursion (IsOpenIn told)) (sym same.files) h

-- the file written for an unchanged tablet is the same
pub made_of : (compaction : Compaction) (old new : Option Contents) (t u : Tablet) (file : SortedFile) (before es : Contents → List Entry) → IsUnchanged t u → ((m : Contents) → before m ≡ es m)
    → IfSome old (λ m. ReadsOpen compaction (Some m) u → IsSomeAnd new (λ n. IsNewFile n file (before m))) → IfSome old (λ m. ReadsOpen compaction (Some m) t → IsSomeAnd new (λ n. IsNewFile n file (es m)))
made_of compaction None new t u file before es same is h = tt
made_of compaction (Some m) new t u file before es same is h = λ reads. subst (λ (xs : List Entry). IsSomeAnd new (λ n. IsNewFile n file xs)) (is m) (h (still_reads compaction (Some m) t u same reads))

pub large_of : (compaction : Compaction) (old : Option Contents) (t u : Tablet) (before es : Contents → List Entry) (P : List Entry → Type 0) → IsUnchanged t u → ((m : Contents) → before m ≡ es m)
    → IfSome old (λ m. ReadsOpen compaction (Some m) u → P (before m)) → IfSome old (λ m. ReadsOpen compaction (Some m) t → P (es m))
large_of compaction None t u before es P same is h = tt
large_of compaction (Some m) t u before es P same is h = λ reads. subst P (is m) (h (still_reads compaction (Some m) t u same reads))

-- a compaction's file replaces its inputs
put_over : (compaction : Compaction) (new : Option Contents) (t u : Tablet) (file : SortedFile) (es fs : List Entry) → files_of u ≡ files_after compaction file (files_of t) → es ≡ fs → IsSomeAnd new (λ n. IsNewFile n file es) → IsSomeAnd new (λ n. HasPut compaction n fs t u)
put_over compaction None t u file es fs is same made = absurd made
put_over compaction (Some n) t u file es fs is same made = record { file = file; files = is; written = subst (IsNewFile n file) same made }

pub has_put : (compaction : Compaction) (old new : Option Contents) (t u : Tablet) (file : SortedFile) (es fs : Contents → List Entry) → files_of u ≡ files_after compaction file (files_of t) → ((m : Contents) → es m ≡ fs m)
    → IfSome old (λ m. ReadsOpen compaction (Some m) t → IsSomeAnd new (λ n. IsNewFile n file (es m))) → IfSome old (λ m. ReadsOpen compaction (Some m) t → IsSomeAnd new (λ n. HasPut compaction n (fs m) t u))
has_put compaction None new t u file es fs is same h = tt
has_put compaction (Some m) new t u file es fs is same h = λ reads. put_over compaction new t u file (es m) (fs m) is (same m) (h reads)

-- a minor compaction reads no file
pub reads_none : (old : Option Contents) (P : Contents → Type 0) → IfSome old (λ m. Unit {0} → P m) → IfSome old P
reads_none None P h = tt
reads_none (Some m) P h = h tt
