-- The cells of a tablet are unchanged by compactions, and change by edits.
use Rattle.std.proofs.Common.{◌≡◌, ℕ, Bool, true, false, cond, List, [], ◌∷◌, ◌++◌, map, refl, sym, ap, subst, ◌∙◌}
use Rattle.std.specs.Prelude.{Option, Some, None}
use Rattle.std.specs.List.{AllByRecursion}
use Rattle.std.specs.Ordering.{is_eq, eq_by_cmp}
use Rattle.std.specs.FinMap.{get, get-insert, get-remove, same_map}
use Rattle.std.specs.declared.cmp.Ordering.TheVariants.{Less, Equal, Greater}
use Rattle.std.specs.FinMap.Entries.{by_order, find-put, is_sorted-put, put}
use Rattle.cell_key.specs.Keys.{byte_cmp, key_cmp, key_cmp_total, text, IsStored}
use Rattle.cell_key.specs.Cells.{Cells, IsEditOf, after_edit, after_edits, edited_key}
use Rattle.cell_key.specs.Entries.{Entry, IsEntry, IsEntryList, cells_of, entry_of_key, first_naming, or_else, value_of}
use Rattle.cell_key.specs.declared.keys.CellKey.{CellKey}
use Rattle.cell_key.specs.declared.edits.Edit.{Edit}
use Rattle.cell_key.specs.declared.edits.Edit.TheVariants.{Put, Erase}
use Rattle.cell_key.proofs.EntryLaws.{stored_key}
use Rattle.cell_key.proofs.Order.{text_order}
use Rattle.memtable.specs.Edits.{HasStoredKey, IsLimited, edit_entry, with_edit, with_edits}
use Rattle.cell_key.proofs.TextPlaces.{equal, one_text as same_key}
use Rattle.cell_key.proofs.EntryLists.{total}
use Rattle.cell_key.proofs.KeyLaws.{exact_keys}
use Rattle.tablet.specs.Ranges.{has_row, seen}
use Rattle.tablet.specs.declared.ranges.RowRange.{RowRange}
use Rattle.tablet.proofs.Filters.{cond_same}
use Rattle.tablet.proofs.Seen.{by_limits, first-append, first-seen, get-shown, is_seen, merged_same, no_shown, shown, shown_same}

-- ---- compactions

keep_inside : (b : Bool) (memory x y : Option (Option (List ℕ))) → cond b (or_else memory (or_else (cond b x None) y)) None ≡ cond b (or_else memory (or_else x y)) None
keep_inside true memory x y = refl
keep_inside false memory x y = refl

-- a list with the same entries as some lists, cut to the range, can replace them
pub stands_for : (range : RowRange) (memory one : List Entry) (xs ys : List (List Entry)) → ((name : List ℕ) → entry_of_key one name ≡ first_naming (map (seen range) xs) name) → shown range (memory ∷ one ∷ ys) ≡ shown range (memory ∷ (xs ++ ys))
stands_for range memory one xs ys h =
    merged_same (map (seen range) (memory ∷ one ∷ ys)) (map (seen range) (memory ∷ (xs ++ ys))) (λ name.
    first-seen range (memory ∷ one ∷ ys) name
    ∙ ap (λ o. cond (is_seen range name) (or_else (entry_of_key memory name) (or_else o (first_naming ys name))) None) (h name ∙ first-seen range xs name)
    ∙ keep_inside (is_seen range name) (entry_of_key memory name) (first_naming xs name) (first_naming ys name)
    ∙ ap (λ o. cond (is_seen range name) (or_else (entry_of_key memory name) o) None) (sym (first-append xs ys name))
    ∙ sym (first-seen range (memory ∷ (xs ++ ys)) name))

pub or_last : (x : Option (Option (List ℕ))) → or_else x None ≡ x
or_last None = refl
or_last (Some v) = refl

drop_inside : (b : Bool) (memory one x : Option (Option (List ℕ))) → value_of one ≡ value_of (cond b x None) → value_of (cond b (or_else memory (or_else one None)) None) ≡ value_of (cond b (or_else memory x) None)
drop_inside true None one x h = ap value_of (or_last one) ∙ h
drop_inside true (Some v) one x h = refl
drop_inside false memory one x h = refl

-- a list with the values of all files can replace them, as no file is older
pub stands_for_all : (range : RowRange) (memory one : List Entry) (xs : List (List Entry)) → AllByRecursion IsEntryList (memory ∷ one ∷ []) → AllByRecursion IsEntryList (memory ∷ xs) → ((name : List ℕ) → value_of (entry_of_key one name) ≡ value_of (first_naming (map (seen range) xs) name)) → cells_of (shown range (memory ∷ one ∷ [])) ≡ cells_of (shown range (memory ∷ xs))
stands_for_all range memory one xs a b h =
    shown_same range (memory ∷ one ∷ []) (memory ∷ xs) a b (λ name. drop_inside (is_seen range name) (entry_of_key memory name) (entry_of_key one name) (first_naming xs name) (h name ∙ ap value_of (first-seen range xs name)))

-- ---- a part of the range

part_inside : (whole part : Bool) (x : Option (Option (List ℕ))) → (part ≡ true → whole ≡ true) → value_of (cond part x None) ≡ cond part (value_of (cond whole x None)) None
part_inside true true x h = refl
part_inside true false x h = refl
part_inside false true x h = absurd (let e : false ≡ true = h refl in cc)
part_inside false false x h = refl

pub part_of : (whole part : RowRange) (lists : List (List Entry)) → AllByRecursion IsEntryList lists → ((row : List ℕ) → has_row part row ≡ true → has_row whole row ≡ true) → (key : CellKey) → get (cells_of (shown part lists)) key ≡ cond (has_row part key.row) (get (cells_of (shown whole lists)) key) None
part_of whole part lists h inside key =
    by_limits key (get (cells_of (shown part lists)) key) (cond (has_row part key.row) (get (cells_of (shown whole lists)) key) None)
    (λ s. get-shown part lists h key s
    ∙ part_inside (has_row whole key.row) (has_row part key.row) (first_naming lists (text key)) (inside key.row)
    ∙ ap (λ o. cond (has_row part key.row) o None) (sym (get-shown whole lists h key s)))
    (λ n. no_shown part lists h key n ∙ sym (cond_same (has_row part key.row) None) ∙ ap (λ o. cond (has_row part key.row) o None) (sym (no_shown whole lists h key n)))

-- ---- edits

same_tie : (q key : CellKey) → IsStored q → IsStored key → eq_by_cmp byte_cmp (text q) (text key) ≡ eq_by_cmp key_cmp q key
same_tie q key s k = ap is_eq (text_order q key (stored_key q s) (stored_key key k))

edit_inside : (tie b : Bool) (value : Option (List ℕ)) (x y : Option (Option (List ℕ))) → (tie ≡ true → b ≡ true) → value_of (cond b (or_else (cond tie (Some value) x) y) None) ≡ cond tie value (value_of (cond b (or_else x y) None))
edit_inside true true value x y h = refl
edit_inside true false value x y h = absurd (let e : false ≡ true = h refl in cc)
edit_inside false true value x y h = refl
edit_inside false false value x y h = refl

-- the value of an edit's key after it
abbrev edit_value : Edit → Option (List ℕ)
edit_value edit = (edit_entry edit).1

get-after : (cells : Cells) (edit : Edit) (q : CellKey) → get (after_edit cells edit) q ≡ cond (eq_by_cmp key_cmp q (edited_key edit)) (edit_value edit) (get cells q)
get-after cells (Put key value) q = get-insert key_cmp_total cells key value.items q
get-after cells (Erase key) q = get-remove key_cmp_total cells key q

entry-text : (edit : Edit) → (edit_entry edit).0 ≡ text (edited_key edit)
entry-text (Put key value) = refl
entry-text (Erase key) = refl

find-edit : (memory : List Entry) (edit : Edit) (q : CellKey) → IsStored q → IsStored (edited_key edit) → entry_of_key (with_edit memory edit) (text q) ≡ cond (eq_by_cmp key_cmp q (edited_key edit)) (Some (edit_value edit)) (entry_of_key memory (text q))
find-edit memory edit q s k =
    find-put byte_cmp total (text q) (edit_entry edit).0 (edit_entry edit).1 memory
    ∙ ap (λ b. cond b (Some (edit_value edit)) (entry_of_key memory (text q))) (ap (eq_by_cmp byte_cmp (text q)) (entry-text edit) ∙ same_tie q (edited_key edit) s k)

tied_key : (q key : CellKey) → eq_by_cmp key_cmp q key ≡ true → q ≡ key
tied_key q key t = exact_keys q key (equal (key_cmp q key) t)

untied : (q key : CellKey) → ¬ (IsStored q) → IsStored key → (b : Bool) → eq_by_cmp key_cmp q key ≡ b → b ≡ false
untied q key n k false t = refl
untied q key n k true t = absurd (n (subst (λ (x : CellKey). IsStored x) (sym (tied_key q key t)) k))

one_edit : (range : RowRange) (memory : List Entry) (lists : List (List Entry)) (edit : Edit) → AllByRecursion IsEntryList (memory ∷ lists) → AllByRecursion IsEntryList (with_edit memory edit ∷ lists) → IsStored (edited_key edit) → has_row range (edited_key edit).row ≡ true → cells_of (shown range (with_edit memory edit ∷ lists)) ≡ after_edit (cells_of (shown range (memory ∷ lists))) edit
one_edit range memory lists edit a b k inside =
    let old = cells_of (shown range (memory ∷ lists)) in
    same_map key_cmp_total exact_keys (cells_of (shown range (with_edit memory edit ∷ lists))) (after_edit old edit)
    (λ q. by_limits q (get (cells_of (shown range (with_edit memory edit ∷ lists))) q) (get (after_edit old edit) q)
    (λ s. get-shown range (with_edit memory edit ∷ lists) b q s
    ∙ ap (λ o. value_of (cond (has_row range q.row) (or_else o (first_naming lists (text q))) None)) (find-edit memory edit q s k)
    ∙ edit_inside (eq_by_cmp key_cmp q (edited_key edit)) (has_row range q.row) (edit_value edit) (entry_of_key memory (text q)) (first_naming lists (text q))
    (λ t. ap (λ (x : CellKey). has_row range x.row) (tied_key q (edited_key edit) t) ∙ inside)
    ∙ ap (cond (eq_by_cmp key_cmp q (edited_key edit)) (edit_value edit)) (sym (get-shown range (memory ∷ lists) a q s))
    ∙ sym (get-after old edit q))
    (λ n. no_shown range (with_edit memory edit ∷ lists) b q n
    ∙ sym (no_shown range (memory ∷ lists) a q n)
    ∙ ap (λ t. cond t (edit_value edit) (get old q)) (sym (untied q (edited_key edit) n k (eq_by_cmp key_cmp q (edited_key edit)) refl))
    ∙ sym (get-after old edit q)))

edit_is_entry : (edit : Edit) → HasStoredKey edit → IsLimited edit → IsEntry (edit_entry edit)
edit_is_entry (Put key value) k e = record { key = key; stored = k; named = refl; value = e.value }
edit_is_entry (Erase key) k e = record { key = key; stored = k; named = refl; value = tt }

each_put : (name : List ℕ) (v : Option (List ℕ)) (es : List Entry) → IsEntry (name, v) → AllByRecursion IsEntry es → AllByRecursion IsEntry (put byte_cmp name v es)
each_put name v [] one all = (one, tt)
each_put name v (e ∷ es) one all =
    elim (byte_cmp name e.0) as (λ o. byte_cmp name e.0 ≡ o → AllByRecursion IsEntry (by_order o ((name, v) ∷ e ∷ es) ((e.0, v) ∷ es) (e ∷ put byte_cmp name v es))) [
      | Less ↦ λ _. (one, all)
      | Equal ↦ λ p. (subst (λ n. IsEntry (n, v)) (same_key name e.0 p) one, all.1)
      | Greater ↦ λ _. (all.0, each_put name v es one all.1)
    ] refl

-- an entry list stays one after an edit, and after edits
edit_list : (memory : List Entry) (edit : Edit) → IsEntryList memory → HasStoredKey edit → IsLimited edit → IsEntryList (with_edit memory edit)
edit_list memory edit h k e = record {
  rising = is_sorted-put byte_cmp total (edit_entry edit).0 (edit_entry edit).1 memory h.rising;
  each = each_put (edit_entry edit).0 (edit_entry edit).1 memory (edit_is_entry edit k e) h.each;
}

pub edits_list : (memory : List Entry) (edits : List Edit) → IsEntryList memory → AllByRecursion HasStoredKey edits → AllByRecursion IsLimited edits → IsEntryList (with_edits memory edits)
edits_list memory [] h k e = h
edits_list memory (edit ∷ edits) h k e = edits_list (with_edit memory edit) edits (edit_list memory edit h k.0 e.0) k.1 e.1

-- the row of each edit is in the range
abbrev pub AreIn : RowRange → List Edit → Type 0
AreIn range edits = AllByRecursion (λ edit. has_row range (edited_key edit).row ≡ true) edits

-- edits to rows of the range have the same effect on the shown entries as on their cells
pub edits_shown : (range : RowRange) (memory : List Entry) (lists : List (List Entry)) (edits : List Edit) → AllByRecursion IsEntryList (memory ∷ lists) → AllByRecursion HasStoredKey edits → AllByRecursion IsLimited edits → AreIn range edits → cells_of (shown range (with_edits memory edits ∷ lists)) ≡ after_edits (cells_of (shown range (memory ∷ lists))) edits
edits_shown range memory lists [] a k e inside = refl
edits_shown range memory lists (edit ∷ edits) a k e inside =
    let list = edit_list memory edit a.0 k.0 e.0 in
    edits_shown range (with_edit memory edit) lists edits (list, a.1) k.1 e.1 inside.1
    ∙ ap (λ cells. after_edits cells edits) (one_edit range memory lists edit a (list, a.1) k.0 inside.0)

-- edits of a row are within the limits, and in a range that has the row
pub all_limited : (row : List ℕ) (edits : List Edit) → AllByRecursion (IsEditOf row) edits → AllByRecursion IsLimited edits
all_limited row [] all = tt
all_limited row (edit ∷ edits) all = (record { under = refl; from = all.0.from; to = all.0.to; value = all.0.value }, all_limited row edits all.1)

pub all_in : (range : RowRange) (row : List ℕ) (edits : List Edit) → has_row range row ≡ true → AllByRecursion (IsEditOf row) edits → AreIn range edits
all_in range row [] inside all = tt
all_in range row (edit ∷ edits) inside all = (ap (λ r. has_row range r) all.0.under ∙ inside, all_in range row edits inside all.1)
