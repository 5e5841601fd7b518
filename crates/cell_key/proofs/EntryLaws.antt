-- The entry of a merged list at a text, and the cells of a list.
use Rattle.std.proofs.Common.{◌≡◌, ◌<◌, ◌-◌, ◌^◌, ◌==◌, ℕ, zero, suc, Bool, true, false, cond, List, [], ◌∷◌, ◌++◌, flat_map, Option, Some, None, refl, sym, ap, subst, ◌∙◌, arith}
use Rattle.std.specs.List.{AllByRecursion}
use Rattle.std.specs.Int.{w64, from_be_bytes}
use Rattle.std.proofs.lemmas.Nat.{from_be_bytes-to_be_bytes_8}
use Rattle.std.specs.declared.cmp.Ordering.{Ordering}
use Rattle.std.specs.declared.cmp.Ordering.TheVariants.{Less, Equal, Greater}
use Rattle.std.specs.Ordering.{is_eq, eq_by_cmp}
use Rattle.std.specs.Cmp.Lexicographic.{nat_list_cmp_total}
use Rattle.std.specs.FinMap.{entries_sorted, get, get-entries, get-empty, get-insert, get-remove, get-from_entries}
use Rattle.std.specs.FinMap.Entries.{find}
use Rattle.std.proofs.lemmas.Bool.Decides.{nat_tests}
use Rattle.cell_key.specs.Texts.{escaped_byte, escaped, ended, stamp_text, IsPlain}
use Rattle.cell_key.specs.Keys.{byte_cmp, key_cmp, key_cmp_total, text, qualifier_name, IsKey, IsStored}
use Rattle.cell_key.specs.Entries.{Entry, IsEntry, IsRising, meaning, merged, entry_of_key, or_else, first_naming, MergesLists, first_part, with_byte, qualifier_named, key_of_text, cells_of, value_of, HasCells}
use Rattle.cell_key.specs.declared.keys.CellKey.{CellKey}
use Rattle.cell_key.specs.declared.keys.Qualifier.{Qualifier}
use Rattle.cell_key.specs.declared.keys.Qualifier.TheVariants.{Data, Lock, Write}
use Rattle.cell_key.proofs.Order.{text_order, plain_family, plain_name}
use Rattle.cell_key.proofs.KeyLaws.{exact_keys}

-- ---- several lists

cond_or : {A : Type 0} (b : Bool) (v : A) (x y : Option A) → cond b (Some v) (or_else x y) ≡ or_else (cond b (Some v) x) y
cond_or true v x y = refl
cond_or false v x y = refl

pub find-++ : (q : List ℕ) (xs ys : List Entry) → entry_of_key (xs ++ ys) q ≡ or_else (entry_of_key xs q) (entry_of_key ys q)
find-++ q [] ys = refl
find-++ q (x ∷ xs) ys = ap (cond (eq_by_cmp byte_cmp q x.0) (Some x.1)) (find-++ q xs ys) ∙ cond_or (eq_by_cmp byte_cmp q x.0) x.1 (find byte_cmp q xs) (find byte_cmp q ys)

find-flat : (lists : List (List Entry)) (q : List ℕ) → entry_of_key (flat_map (λ es. es) lists) q ≡ first_naming lists q
find-flat [] q = refl
find-flat (es ∷ lists) q = find-++ q es _ ∙ ap (or_else (entry_of_key es q)) (find-flat lists q)

pub key_of_merged : (lists : List (List Entry)) (q : List ℕ) → entry_of_key (merged lists) q ≡ first_naming lists q
key_of_merged lists q = sym (get-entries (meaning lists) q) ∙ get-from_entries nat_list_cmp_total (flat_map (λ es. es) lists) q ∙ find-flat lists q

pub merged_rising : (lists : List (List Entry)) → IsRising (merged lists)
merged_rising lists = entries_sorted (meaning lists)

pub merges_lists : MergesLists
merges_lists lists = (merged_rising lists, key_of_merged lists)

-- ---- the key of a text

plain_byte : (c : ℕ) → escaped_byte (suc c) ≡ suc c ∷ []
plain_byte c = let e : (suc c == 0) ≡ false = grind (arith, nat_tests) in ap (λ t. cond t (0 ∷ 255 ∷ []) (suc c ∷ [])) e

part_of_row : (row rest : List ℕ) → first_part (ended (escaped row) ++ rest) ≡ (row, rest)
part_of_row [] rest = refl
part_of_row (zero ∷ row) rest = ap (with_byte 0) (part_of_row row rest)
part_of_row (suc byte ∷ row) rest = rw (plain_byte byte) (ap (with_byte (suc byte)) (part_of_row row rest))

plain_part : (part rest : List ℕ) → AllByRecursion IsPlain part → first_part (ended part ++ rest) ≡ (part, rest)
plain_part [] rest plain = refl
plain_part (zero ∷ part) rest plain = absurd (plain.0 refl)
plain_part (suc byte ∷ part) rest plain = ap (with_byte (suc byte)) (plain_part part rest plain.1)

name_back : (q : Qualifier) → qualifier_named (qualifier_name q) ≡ q
name_back Data = refl
name_back Lock = refl
name_back Write = refl

stamp_back : (stamp : ℕ) → stamp < 2 ^ 64 → 2 ^ 64 - 1 - from_be_bytes w64 (stamp_text stamp) ≡ stamp
stamp_back stamp small = let e = from_be_bytes-to_be_bytes_8 (2 ^ 64 - 1 - stamp) (omega arith) in ap (λ (n : ℕ). 2 ^ 64 - 1 - n) e ∙ omega arith

-- the key of a key's text
pub key_of_text-text : (key : CellKey) → IsStored key → key_of_text (text key) ≡ key
key_of_text-text key s =
    let row = part_of_row key.row (ended key.family ++ (ended (qualifier_name key.qualifier) ++ stamp_text key.stamp)) in
    let family = plain_part key.family (ended (qualifier_name key.qualifier) ++ stamp_text key.stamp) (plain_family key.family s.family.bytes) in
    let name = plain_part (qualifier_name key.qualifier) (stamp_text key.stamp) (plain_name key.qualifier) in
    let after_row = ap (λ (cut : List ℕ × List ℕ). cut.1) row in
    let families = ap first_part after_row ∙ family in
    let names = ap first_part (ap (λ (cut : List ℕ × List ℕ). cut.1) families) ∙ name in
    let stamps = ap (λ (cut : List ℕ × List ℕ). 2 ^ 64 - 1 - from_be_bytes w64 cut.1) names ∙ stamp_back key.stamp (let to = s.to in omega arith) in
    let qualifiers = ap (λ (cut : List ℕ × List ℕ). qualifier_named cut.0) names ∙ name_back key.qualifier in
    λ i. record { row = (row i).0; family = (families i).0; qualifier = qualifiers i; stamp = stamps i }

-- ---- the cells of a list

pub stored_key : (key : CellKey) → IsStored key → IsKey key
stored_key key s = record { row = s.row; family = s.family; stamp = let to = s.to in omega arith }

-- texts are equal exactly if their keys are
same_tie : (q : CellKey) (e : Entry) → IsStored q → IsEntry e → eq_by_cmp key_cmp q (key_of_text e.0) ≡ eq_by_cmp byte_cmp (text q) e.0
same_tie q e s is =
    ap (λ (name : List ℕ). eq_by_cmp key_cmp q (key_of_text name)) is.named
    ∙ ap (eq_by_cmp key_cmp q) (key_of_text-text is.key is.stored)
    ∙ sym (ap is_eq (text_order q is.key (stored_key q s) (stored_key is.key is.stored)))
    ∙ ap (λ (name : List ℕ). eq_by_cmp byte_cmp (text q) name) (sym is.named)

value-cond : (b : Bool) (x : Option (List ℕ)) (o : Option (Option (List ℕ))) → value_of (cond b (Some x) o) ≡ cond b x (value_of o)
value-cond true x o = refl
value-cond false x o = refl

pub get-cells_of : (es : List Entry) → AllByRecursion IsEntry es → (q : CellKey) → IsStored q → get (cells_of es) q ≡ value_of (entry_of_key es (text q))
get-cells_of [] all q s = get-empty key_cmp q
get-cells_of ((name, None) ∷ es) all q s =
    get-remove key_cmp_total (cells_of es) (key_of_text name) q
    ∙ ap (cond (eq_by_cmp key_cmp q (key_of_text name)) None) (get-cells_of es all.1 q s)
    ∙ ap (λ (b : Bool). cond b None (value_of (entry_of_key es (text q)))) (same_tie q (name, None) s all.0)
    ∙ sym (value-cond (eq_by_cmp byte_cmp (text q) name) None (entry_of_key es (text q)))
get-cells_of ((name, Some value) ∷ es) all q s =
    get-insert key_cmp_total (cells_of es) (key_of_text name) value q
    ∙ ap (cond (eq_by_cmp key_cmp q (key_of_text name)) (Some value)) (get-cells_of es all.1 q s)
    ∙ ap (λ (b : Bool). cond b (Some value) (value_of (entry_of_key es (text q)))) (same_tie q (name, Some value) s all.0)
    ∙ sym (value-cond (eq_by_cmp byte_cmp (text q) name) (Some value) (entry_of_key es (text q)))

tied : (r : Ordering) → is_eq r ≡ true → r ≡ Equal
tied Less e = cc
tied Equal e = refl
tied Greater e = cc

-- a key outside the limits equals no key of a list
apart : (q : CellKey) (e : Entry) → ¬ (IsStored q) → IsEntry e → (b : Bool) → eq_by_cmp key_cmp q (key_of_text e.0) ≡ b → b ≡ false
apart q e not is false t = refl
apart q e not is true t =
    let key : key_of_text e.0 ≡ is.key = ap key_of_text is.named ∙ key_of_text-text is.key is.stored in
    let same : q ≡ is.key = exact_keys q (key_of_text e.0) (tied (key_cmp q (key_of_text e.0)) t) ∙ key in
    absurd (not (subst (λ (k : CellKey). IsStored k) (sym same) is.stored))

pub no_cell : (es : List Entry) → AllByRecursion IsEntry es → (q : CellKey) → ¬ (IsStored q) → get (cells_of es) q ≡ None
no_cell [] all q not = get-empty key_cmp q
no_cell ((name, None) ∷ es) all q not =
    get-remove key_cmp_total (cells_of es) (key_of_text name) q
    ∙ ap (λ (b : Bool). cond b None (get (cells_of es) q)) (apart q (name, None) not all.0 _ refl)
    ∙ no_cell es all.1 q not
no_cell ((name, Some value) ∷ es) all q not =
    get-insert key_cmp_total (cells_of es) (key_of_text name) value q
    ∙ ap (λ (b : Bool). cond b (Some value) (get (cells_of es) q)) (apart q (name, Some value) not all.0 _ refl)
    ∙ no_cell es all.1 q not

pub has_cells : HasCells
has_cells es all q = (get-cells_of es all q, no_cell es all q)
