-- The entries that each compaction writes, and proofs that it keeps the cells.
use Rattle.std.proofs.Common.{◌≡◌, ℕ, ◌≤◌, Bool, true, false, List, [], ◌∷◌, map, take, drop, length, refl, sym, ap, ◌∙◌, arith}
use Rattle.std.proofs.lemmas.Bool.Decides.{nat_tests}
use Rattle.std.proofs.lemmas.List.{drop_all, take-append-drop, take_all}
use Rattle.std.specs.Prelude.{◌≢◌, nat_lt}
use Rattle.std.specs.List.{AllByRecursion}
use Rattle.cell_key.specs.Entries.{Entry, IsEntryList, cells_of, entry_of_key, first_naming, value_of}
use Rattle.compaction.specs.Writing.{KeepsOneList, NamesFirst, written}
use Rattle.tablet.specs.Ranges.{seen}
use Rattle.tablet.specs.Views.{flushed}
use Rattle.tablet.specs.declared.ranges.RowRange.{RowRange}
use Rattle.tablet.proofs.Seen.{merged_same, seen_list, shown}
use Rattle.tablet.proofs.KeptCells.{or_last, stands_for, stands_for_all}

-- an empty list shows nothing
pub empty_first : (range : RowRange) (lists : List (List Entry)) → shown range ([] ∷ lists) ≡ shown range lists
empty_first range lists = merged_same (map (seen range) ([] ∷ lists)) (map (seen range) lists) (λ name. refl)

-- ---- minor

pub minor_writes : KeepsOneList → (range : RowRange) (memory : List Entry) → IsEntryList memory → written true (seen range memory ∷ []) ≡ seen range memory
minor_writes law range memory h = law (seen range memory) (seen_list range memory h)

flushed_some : (range : RowRange) (memory : List Entry) (lists : List (List Entry)) → memory ≢ [] → seen range memory ∷ lists ≡ flushed range memory lists
flushed_some range [] lists n = absurd (n refl)
flushed_some range (e ∷ es) lists n = refl

pub minor_form : KeepsOneList → (range : RowRange) (memory : List Entry) (lists : List (List Entry)) → memory ≢ [] → IsEntryList memory → [] ∷ written true (seen range memory ∷ []) ∷ lists ≡ [] ∷ flushed range memory lists
minor_form law range memory lists n h = (λ i. [] ∷ minor_writes law range memory h i ∷ lists) ∙ ap (λ (xs : List (List Entry)). [] ∷ xs) (flushed_some range memory lists n)

pub minor_cells : KeepsOneList → (range : RowRange) (memory : List Entry) (lists : List (List Entry)) → IsEntryList memory → cells_of (shown range ([] ∷ written true (seen range memory ∷ []) ∷ lists)) ≡ cells_of (shown range (memory ∷ lists))
minor_cells law range memory lists h =
    (λ i. cells_of (shown range ([] ∷ minor_writes law range memory h i ∷ lists)))
    ∙ ap cells_of (stands_for range [] (seen range memory) (memory ∷ []) lists (λ name. sym (or_last (entry_of_key (seen range memory) name))) ∙ empty_first range (memory ∷ lists))

-- ---- merge

not_less : (a b : ℕ) → nat_lt a b ≡ false → b ≤ a
not_less a b e = grind (arith, nat_tests)

pub merge_cells : NamesFirst → (range : RowRange) (memory : List Entry) (lists : List (List Entry)) (count : ℕ) → AllByRecursion IsEntryList (memory ∷ lists) → (keep : Bool) → nat_lt count (length lists) ≡ keep → IsEntryList (written keep (map (seen range) (take count lists)))
    → cells_of (shown range (memory ∷ written keep (map (seen range) (take count lists)) ∷ drop count lists)) ≡ cells_of (shown range (memory ∷ lists))
merge_cells law range memory lists count h true e list =
    ap cells_of (stands_for range memory (written true (map (seen range) (take count lists))) (take count lists) (drop count lists) (λ name. (law (map (seen range) (take count lists)) name).0)
    ∙ (λ i. shown range (memory ∷ take-append-drop count lists i)))
merge_cells law range memory lists count h false e list =
    let all : length lists ≤ count = not_less count (length lists) e in
    let whole = take_all count lists all in
    (λ i. cells_of (shown range (memory ∷ written false (map (seen range) (take count lists)) ∷ drop_all count lists all i)))
    ∙ stands_for_all range memory (written false (map (seen range) (take count lists))) lists (h.0, (list, tt)) h
    (λ name. (law (map (seen range) (take count lists)) name).1 false ∙ (λ i. value_of (first_naming (map (seen range) (whole i)) name)))

-- ---- major

pub major_cells : NamesFirst → (range : RowRange) (memory : List Entry) (lists : List (List Entry)) → AllByRecursion IsEntryList (memory ∷ lists) → IsEntryList [] → IsEntryList (written false (map (seen range) (memory ∷ lists)))
    → cells_of (shown range ([] ∷ written false (map (seen range) (memory ∷ lists)) ∷ [])) ≡ cells_of (shown range (memory ∷ lists))
major_cells law range memory lists h none list =
    stands_for_all range [] (written false (map (seen range) (memory ∷ lists))) (memory ∷ lists) (none, (list, tt)) (none, h) (λ name. (law (map (seen range) (memory ∷ lists)) name).1 false)
    ∙ ap cells_of (empty_first range (memory ∷ lists))

pub no_entries : IsEntryList []
no_entries = record { rising = tt; each = tt }
