-- Merged lists cut to a range, at each text and at each key.
use Rattle.std.proofs.Common.{◌≡◌, ℕ, Bool, true, false, cond, List, [], ◌∷◌, ◌++◌, map, refl, sym, ap, ◌∙◌}
use Rattle.std.proofs.lemmas.Option.{none-some, same_Some}
use Rattle.std.specs.Prelude.{Option, Some, None}
use Rattle.std.specs.List.{AllByRecursion}
use Rattle.std.specs.Ordering.{is_eq}
use Rattle.std.specs.declared.cmp.Ordering.TheVariants.{Less, Equal, Greater}
use Rattle.std.specs.FinMap.{get, same_map}
use Rattle.std.specs.FinMap.Entries.{same_entries}
use Rattle.cell_key.specs.Keys.{byte_cmp, key_cmp_total, text, IsStored}
use Rattle.cell_key.specs.Entries.{Entry, IsEntry, IsEntryList, cells_of, entry_of_key, first_naming, key_of_text, merged, or_else, value_of}
use Rattle.cell_key.specs.declared.keys.CellKey.{CellKey}
use Rattle.cell_key.proofs.EntryLaws.{get-cells_of, key_of_merged, key_of_text-text, merged_rising, no_cell}
use Rattle.cell_key.proofs.EntryLists.{filter-list, merged_list, ties_itself, total}
use Rattle.cell_key.proofs.TextPlaces.{one_text as same_key}
use Rattle.cell_key.proofs.KeyLaws.{exact_keys}
use Rattle.tablet.specs.Ranges.{has_row, seen}
use Rattle.tablet.specs.declared.ranges.RowRange.{RowRange}
use Rattle.tablet.proofs.Filters.{each_map, find-filter, first-map}

-- whether a range has the row of a key's text
abbrev pub is_seen : RowRange → List ℕ → Bool
is_seen range name = has_row range (key_of_text name).row

-- the merged entries of lists, cut to a range
abbrev pub shown : RowRange → List (List Entry) → List Entry
shown range lists = merged (map (seen range) lists)

pub first-seen : (range : RowRange) (lists : List (List Entry)) (name : List ℕ) → first_naming (map (seen range) lists) name ≡ cond (is_seen range name) (first_naming lists name) None
first-seen range lists name = first-map (seen range) (is_seen range name) name (λ es. find-filter (is_seen range) es name) lists

or_assoc : (x y z : Option (Option (List ℕ))) → or_else (or_else x y) z ≡ or_else x (or_else y z)
or_assoc None y z = refl
or_assoc (Some a) y z = refl

pub first-append : (xs ys : List (List Entry)) (name : List ℕ) → first_naming (xs ++ ys) name ≡ or_else (first_naming xs name) (first_naming ys name)
first-append [] ys name = refl
first-append (es ∷ xs) ys name = ap (or_else (entry_of_key es name)) (first-append xs ys name) ∙ sym (or_assoc (entry_of_key es name) (first_naming xs name) (first_naming ys name))

-- lists with the same first entry for each text have the same merged list
pub merged_same : (xs ys : List (List Entry)) → ((name : List ℕ) → first_naming xs name ≡ first_naming ys name) → merged xs ≡ merged ys
merged_same xs ys h = same_entries byte_cmp total same_key (merged xs) (merged ys) (merged_rising xs) (merged_rising ys) (λ q. key_of_merged xs q ∙ h q ∙ sym (key_of_merged ys q))

-- ---- cells

apart : (a b : List ℕ) → is_eq (byte_cmp a b) ≡ false → a ≡ b → true ≡ false
apart a b n e = sym (ties_itself a) ∙ ap (λ x. is_eq (byte_cmp a x)) e ∙ n

never : true ≡ false → ⊥
never e = cc

pub stable : (x y : Option (List ℕ)) → ((x ≡ y → ⊥) → ⊥) → x ≡ y
stable None None h = refl
stable None (Some b) h = absurd (h (none-some b))
stable (Some a) None h = absurd (h (λ e. none-some a (sym e)))
stable (Some a) (Some b) h =
    elim (byte_cmp a b) as (λ o. byte_cmp a b ≡ o → Some a ≡ Some b) [
      | Less ↦ λ t. absurd (h (λ e. never (apart a b (ap is_eq t) (same_Some a b e))))
      | Equal ↦ λ t. ap Some (same_key a b t)
      | Greater ↦ λ t. absurd (h (λ e. never (apart a b (ap is_eq t) (same_Some a b e))))
    ] refl

-- an equation that holds for keys within the limits and for all others holds for any key
pub by_limits : (q : CellKey) (x y : Option (List ℕ)) → (IsStored q → x ≡ y) → (¬ (IsStored q) → x ≡ y) → x ≡ y
by_limits q x y inside outside = stable x y (λ no. no (outside (λ s. no (inside s))))

pub seen_list : (range : RowRange) (es : List Entry) → IsEntryList es → IsEntryList (seen range es)
seen_list range es h = filter-list (λ entry. has_row range (key_of_text entry.0).row) es h

-- the shown entries of entry lists are an entry list
pub shown_list : (range : RowRange) (lists : List (List Entry)) → AllByRecursion IsEntryList lists → IsEntryList (shown range lists)
shown_list range lists h = merged_list (map (seen range) lists) (each_map (seen range) (seen_list range) lists h)

-- the cell of a key within the limits, and of any other key
pub get-shown : (range : RowRange) (lists : List (List Entry)) → AllByRecursion IsEntryList lists → (q : CellKey) → IsStored q → get (cells_of (shown range lists)) q ≡ value_of (cond (has_row range q.row) (first_naming lists (text q)) None)
get-shown range lists h q s =
    get-cells_of (shown range lists) (shown_list range lists h).each q s
    ∙ ap value_of (key_of_merged (map (seen range) lists) (text q) ∙ first-seen range lists (text q))
    ∙ ap (λ (k : CellKey). value_of (cond (has_row range k.row) (first_naming lists (text q)) None)) (key_of_text-text q s)

pub no_shown : (range : RowRange) (lists : List (List Entry)) → AllByRecursion IsEntryList lists → (q : CellKey) → ¬ (IsStored q) → get (cells_of (shown range lists)) q ≡ None
no_shown range lists h q n = no_cell (shown range lists) (shown_list range lists h).each q n

-- lists with the same values have the same cells
pub cells_same : (es fs : List Entry) → AllByRecursion IsEntry es → AllByRecursion IsEntry fs → ((name : List ℕ) → value_of (entry_of_key es name) ≡ value_of (entry_of_key fs name)) → cells_of es ≡ cells_of fs
cells_same es fs a b h =
    same_map key_cmp_total exact_keys (cells_of es) (cells_of fs)
    (λ q. by_limits q (get (cells_of es) q) (get (cells_of fs) q)
    (λ s. get-cells_of es a q s ∙ h (text q) ∙ sym (get-cells_of fs b q s))
    (λ n. no_cell es a q n ∙ sym (no_cell fs b q n)))

pub shown_same : (range : RowRange) (xs ys : List (List Entry)) → AllByRecursion IsEntryList xs → AllByRecursion IsEntryList ys → ((name : List ℕ) → value_of (cond (is_seen range name) (first_naming xs name) None) ≡ value_of (cond (is_seen range name) (first_naming ys name) None)) → cells_of (shown range xs) ≡ cells_of (shown range ys)
shown_same range xs ys a b h =
    cells_same (shown range xs) (shown range ys) (shown_list range xs a).each (shown_list range ys b).each
    (λ name. ap value_of (key_of_merged (map (seen range) xs) name ∙ first-seen range xs name) ∙ h name ∙ sym (ap value_of (key_of_merged (map (seen range) ys) name ∙ first-seen range ys name)))
