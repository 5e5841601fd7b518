-- Tablets after the end of a merge in steps.
use Rattle.std.proofs.Common.{◌≡◌, ◌≢◌, ◌∙◌, ◌≤◌, ◌+◌, ℕ, Bool, true, false, List, [], ◌∷◌, ◌++◌, map, take, drop, length, arith, refl, sym, ap, subst}
use Rattle.std.proofs.lemmas.List.{drop-drop, drop-map, drop_all, map-append, take-append-drop, take-map, take_at}
use Rattle.std.specs.Prelude.{Option, Some, None, IfSome, IsNone, IsSomeAnd}
use Rattle.std.specs.List.{AllByRecursion}
use Rattle.std.specs.FinMap.{get}
use Rattle.cell_key.specs.Entries.{Entry, IsEntryList, cells_of}
use Rattle.file_store.specs.Store.{Contents, KeepsOthers}
use Rattle.sorted_file.specs.File.{IsOpen, OneListing, StaysOpen, listed, name_of}
use Rattle.sorted_file.specs.Grammar.{FitsIn}
use Rattle.sorted_file.specs.PartialFiles.{IsWhole, keeps_erasures, limit_of, target_of}
use Rattle.sorted_file.specs.Written.{only_written}
use Rattle.sorted_file.specs.declared.file.SortedFile.{SortedFile}
use Rattle.compaction.specs.Writing.{NamesFirst, written}
use Rattle.tablet.specs.Compactions.{IsNewFile}
use Rattle.tablet.specs.Ranges.{seen}
use Rattle.tablet.specs.RunMerges.{CanStandAt, IsAllOf, IsRunAt, KeepsCells, LacksName, ReplacesRun, keeps_of, merged_of, run_at, shown_of, sources_of, written_to}
use Rattle.tablet.specs.Views.{Holds, IsUnchanged, cells_at, files_of, memory_of, names_of, range_of}
use Rattle.tablet.specs.declared.ranges.RowRange.{RowRange}
use Rattle.tablet.specs.declared.run_merge.RunMerge.{RunMerge}
use Rattle.tablet.specs.declared.tablet.Tablet.{Tablet}
use Rattle.tablet.proofs.Held.{held_lists}
use Rattle.tablet.proofs.MadeTablets.{OthersStay, all_drop}
use Rattle.tablet.proofs.RunCells.{run_cells}
use Rattle.tablet.proofs.Seen.{shown}
use Rattle.tablet.proofs.TabletLaws.{files_over, one_names}
use Rattle.tablet.proofs.WrittenFiles.{all_take}

-- the files at a run's place have its names
run_names : (files : List SortedFile) (names : List ℕ) (at : ℕ) → IsRunAt files names at → map name_of (run_at files names at) ≡ names
run_names files names at h =
    sym (take-map name_of (length names) (drop at files))
    ∙ ap (take (length names)) h.named.1
    ∙ take_at names h.named.0 (length names) refl

pub run_open : (m : Contents) (files : List SortedFile) (names : List ℕ) (at : ℕ) → AllByRecursion (IsOpen m) files → AllByRecursion (IsOpen m) (run_at files names at)
run_open m files names at h = all_take (IsOpen m) (length names) (drop at files) (all_drop (IsOpen m) at files h)

-- a run's entries are the same wherever it stands
pub moved : OneListing → (range : RowRange) (m : Contents) (files : List SortedFile) (names : List ℕ) (a b : ℕ) → IsRunAt files names a → IsRunAt files names b → AllByRecursion (IsOpen m) files
    → shown_of range m (run_at files names a) ≡ shown_of range m (run_at files names b)
moved one range m files names a b at_a at_b h =
    ap (shown range)
    (one_names one m (run_at files names a) (run_at files names b) (run_open m files names a h) (run_open m files names b h)
    (run_names files names a at_a ∙ sym (run_names files names b at_b)))

-- the new file has the merge's entries
pub put_in : {W : Type 0} → OneListing → (disk now : Option Contents) (merge : RunMerge W) (range : RowRange) (files : List SortedFile) (at : ℕ) (file : SortedFile) → IsRunAt files (sources_of merge) at → keeps_erasures (written_to merge) ≡ keeps_of merge
    → ((whole : List Entry) → IsWhole whole (written_to merge) → IfSome disk (λ m. IsSomeAnd now (λ n. IsNewFile n file (only_written (keeps_erasures (written_to merge)) whole))))
    → ((whole : List Entry) → IsWhole whole (written_to merge) → FitsIn (limit_of (written_to merge)) (only_written (keeps_erasures (written_to merge)) whole))
    → IfSome disk (λ m. AllByRecursion (IsOpen m) files → IsAllOf range m files merge
    → IsSomeAnd now (λ n. IsNewFile n file (merged_of range m files merge at) × FitsIn (limit_of (written_to merge)) (merged_of range m files merge at)))
put_in one None now merge range files at file run kept made fits = tt
put_in one (Some m) None merge range files at file run kept made fits = λ opened all. absurd (made (shown_of range m (run_at files (sources_of merge) all.at)) all.whole)
put_in one (Some m) (Some n) merge range files at file run kept made fits = λ opened all.
    let whole = shown_of range m (run_at files (sources_of merge) at) in
    let has = subst (λ (es : List Entry). IsWhole es (written_to merge)) (moved one range m files (sources_of merge) all.at at all.run run opened) all.whole in (
      subst (λ (k : Bool). IsNewFile n file (only_written k whole)) kept (made whole has),
      subst (λ (k : Bool). FitsIn (limit_of (written_to merge)) (only_written k whole)) kept (fits whole has),
    )

-- the names with the new one in the place of the run's
pub put_names : (files : List SortedFile) (at k name : ℕ) (file : SortedFile) (new : List SortedFile) → new ≡ take at files ++ file ∷ drop k files → name_of file ≡ name
    → map name_of new ≡ take at (map name_of files) ++ name ∷ drop k (map name_of files)
put_names files at k name file new is named =
    ap (map name_of) is
    ∙ map-append name_of (take at files) (file ∷ drop k files)
    ∙ (λ i. sym (take-map name_of at files) i ++ named i ∷ sym (drop-map name_of k files) i)

-- ---- cells

lacks_same : (m n : Contents) (name : ℕ) → OthersStay name m n → (names : List ℕ) → AllByRecursion (λ other. other ≢ name) names → AllByRecursion (λ other. get n other ≡ get m other) names
lacks_same m n name others [] h = tt
lacks_same m n name others (x ∷ xs) h = (others x h.0, lacks_same m n name others xs h.1)

-- files of other names stay open
pub others_open : StaysOpen → (m n : Contents) (name : ℕ) (t : Tablet) → OthersStay name m n → LacksName name t → Holds m t → AllByRecursion (IsOpen n) (files_of t)
others_open stays m n name t others lacks h = (files_over stays m n (files_of t) h.files (lacks_same m n name others (names_of t) lacks)).0

-- a tablet that is unchanged keeps its cells
pub unchanged_cells : {W : Type 0} → StaysOpen → (disk now : Option Contents) (merge : RunMerge W) (old new : Tablet) → IsUnchanged old new → KeepsOthers (target_of (written_to merge)) disk now → KeepsCells disk now merge old new
unchanged_cells stays None now merge old new same others = tt
unchanged_cells stays (Some m) None merge old new same others = absurd others
unchanged_cells stays (Some m) (Some n) merge old new same others = λ h lacks all. (
  record {
    memory = subst IsEntryList (sym same.memory) h.memory;
    files = subst (AllByRecursion (IsOpen n)) (sym same.files) (others_open stays m n (target_of (written_to merge)) old others lacks h);
  },
  λ i. cells_of (shown (same.range i) (same.memory i ∷ map (listed m) (same.files i))),
)

all_append : {A : Type 0} (P : A → Type 0) (xs ys : List A) → AllByRecursion P xs → AllByRecursion P ys → AllByRecursion P (xs ++ ys)
all_append P [] ys a b = b
all_append P (x ∷ xs) ys a b = (a.0, all_append P xs ys a.1 b)

-- the files in three parts
parts : (files : List SortedFile) (at count : ℕ) → take at files ++ (take count (drop at files) ++ drop (at + count) files) ≡ files
parts files at count =
    ap (λ (l : List SortedFile). take at files ++ (take count (drop at files) ++ l)) (sym (drop-drop count at files))
    ∙ ap (λ (l : List SortedFile). take at files ++ l) (take-append-drop count (drop at files))
    ∙ take-append-drop at files

ends_last : (end len : ℕ) → end ≡ len → len ≤ end
ends_last end len is = omega arith

-- and their lists
list_parts : (m : Contents) (files : List SortedFile) (at count : ℕ) → map (listed m) files ≡ map (listed m) (take at files) ++ (map (listed m) (take count (drop at files)) ++ map (listed m) (drop (at + count) files))
list_parts m files at count =
    ap (map (listed m)) (sym (parts files at count))
    ∙ map-append (listed m) (take at files) (take count (drop at files) ++ drop (at + count) files)
    ∙ ap (λ (l : List (List Entry)). map (listed m) (take at files) ++ l) (map-append (listed m) (take count (drop at files)) (drop (at + count) files))

pub ended_cells : {W : Type 0} → StaysOpen → NamesFirst → (disk now : Option Contents) (merge : RunMerge W) (old new : Tablet) → ReplacesRun disk now merge old new → range_of new ≡ range_of old → KeepsOthers (target_of (written_to merge)) disk now → KeepsCells disk now merge old new
ended_cells stays law None now merge old new made range others = tt
ended_cells stays law (Some m) None merge old new made range others = absurd others
ended_cells stays law (Some m) (Some n) merge old new made range others = λ h lacks all.
    let files = files_of old in
    let at = made.at in
    let count = length (sources_of merge) in
    let put = made.put h.files all in
    let opened = others_open stays m n (target_of (written_to merge)) old others lacks h in
    let holds : Holds n new = record {
      memory = subst IsEntryList (sym made.memory) h.memory;
      files = subst (AllByRecursion (IsOpen n)) (sym made.files) (all_append (IsOpen n) (take at files) (made.file ∷ drop (at + count) files) (all_take (IsOpen n) at files opened) (put.0.opened, all_drop (IsOpen n) (at + count) files opened));
    } in
    let newer = memory_of old ∷ map (listed m) (take at files) in
    let run = map (listed m) (take count (drop at files)) in
    let older = map (listed m) (drop (at + count) files) in
    let lists : memory_of new ∷ map (listed n) (files_of new) ≡ newer ++ written (keeps_of merge) (map (seen (range_of old)) run) ∷ older =
    (λ i. made.memory i ∷ map (listed n) (made.files i))
    ∙ ap (λ (l : List (List Entry)). memory_of old ∷ l) (map-append (listed n) (take at files) (made.file ∷ drop (at + count) files))
    ∙ ap (λ (es : List Entry). newer ++ es ∷ older) put.0.lists in
    let before : memory_of old ∷ map (listed m) files ≡ newer ++ (run ++ older) = ap (λ (l : List (List Entry)). memory_of old ∷ l) (list_parts m files at count) in (
      holds,
      (λ i. cells_of (shown (range i) (lists i)))
          ∙ run_cells law (range_of old) newer run older (keeps_of merge) (λ e. ap (map (listed m)) (drop_all (at + count) files (ends_last _ _ (made.stands.last e))))
          (subst (AllByRecursion IsEntryList) lists (held_lists n new holds)) (subst (AllByRecursion IsEntryList) before (held_lists m old h))
          ∙ sym (ap (λ (l : List (List Entry)). cells_of (shown (range_of old) l)) before),
    )

-- no file has changed
pub none_changed : (name : ℕ) (old now : Option Contents) → now ≡ old → KeepsOthers name old now
none_changed name None now same = subst IsNone (sym same) refl
none_changed name (Some m) now same = subst (λ (o : Option Contents). KeepsOthers name (Some m) o) (sym same) (λ other apart. refl)
