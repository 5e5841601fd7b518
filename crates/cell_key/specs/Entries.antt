-- Lists of entries, merges of several lists, and the cells of a list.
use Rattle.std.specs.Prelude.{◌≡◌, ◌≢◌, ◌≤◌, ◌-◌, ◌^◌, ⊤, ℕ, zero, suc, if◌then◌else◌, List, [], ◌∷◌, ◌++◌, length, flat_map, filter, codes, Option, Some, None, IfSome, T, nat_eq}
use Rattle.std.specs.Option.{option_copied}
use Rattle.std.specs.Int.{w32, w64, to_be_bytes, from_be_bytes}
use Rattle.std.specs.List.{AllByRecursion}
use Rattle.std.specs.Cmp.Lexicographic.{pointwise}
use Rattle.std.specs.Ordering.{is_le}
use Rattle.std.specs.declared.cmp.Ordering.TheVariants.{Greater}
use Rattle.std.specs.FinMap.{FinMap, empty, get, insert, remove, from_entries, entries}
use Rattle.std.specs.FinMap.Entries.{find, is_sorted}
use Rattle.cell_key.specs.Keys.{byte_cmp, text, IsStored}
use Rattle.cell_key.specs.Cells.{Cells}
use Rattle.cell_key.specs.declared.keys.CellKey.{CellKey}
use Rattle.cell_key.specs.declared.keys.Qualifier.{Qualifier}
use Rattle.cell_key.specs.declared.keys.Qualifier.TheVariants.{Data, Lock, Write}
use Rattle.cell_key.specs.declared.entries.EntryRef.{EntryRef}

-- the text of a key, and its value or an erasure
abbrev pub Entry : Type 0
Entry = List ℕ × Option (List ℕ)

-- a borrowed entry
abbrev pub lent_entry : EntryRef → Entry
lent_entry lent = (lent.key.now, option_copied lent.value)

-- the texts are in strictly ascending byte order
abbrev pub IsRising : List Entry → Type 0
IsRising es = T (is_sorted byte_cmp es)

-- the text of a key within the limits, with a value of at most 65,536 bytes or an erasure
pub record IsEntry (entry : Entry) : Type 0 where
  pub key : CellKey
  pub stored : IsStored key
  pub named : entry.0 ≡ text key
  pub value : IfSome entry.1 (λ bytes. length bytes ≤ 65536)

pub record IsEntryList (es : List Entry) : Type 0 where
  pub rising : IsRising es
  pub each : AllByRecursion IsEntry es

-- the entries at or above this text
abbrev pub entries_from : List ℕ → List Entry → List Entry
entries_from name es = filter (λ entry. is_le (byte_cmp name entry.0)) es

-- the index of the first entry at or above this text (the lower bound)
abbrev pub IsPlace : List ℕ → List Entry → ℕ → Type 0
IsPlace name [] zero = ⊤
IsPlace name [] (suc i) = ⊥
IsPlace name (e ∷ es) zero = byte_cmp name e.0 ≢ Greater
IsPlace name (e ∷ es) (suc i) = (byte_cmp name e.0 ≡ Greater) × IsPlace name es i

-- the entry taken was the first of the old list, and the new list has the others; or both lists are empty
abbrev pub Takes : Option Entry → List Entry → List Entry → Type 0
Takes None old new = (old ≡ []) × (new ≡ [])
Takes (Some entry) old new = old ≡ entry ∷ new

-- ---- several lists

-- The meaning of lists, newest first: each key has the entry of the first list with an entry of it.
abbrev pub meaning : List (List Entry) → FinMap byte_cmp (Option (List ℕ))
meaning lists = from_entries (flat_map (λ es. es) lists)

-- the lists merged into one with this meaning
abbrev pub merged : List (List Entry) → List Entry
merged lists = entries (meaning lists)

-- a list's entry at a text: a value, an erasure, or none
abbrev pub entry_of_key : List Entry → List ℕ → Option (Option (List ℕ))
entry_of_key es name = find byte_cmp name es

-- the first of two options that is present
abbrev pub or_else : {A : Type 0} → Option A → Option A → Option A
or_else None other = other
or_else (Some x) other = Some x

-- the entry at the text in the first list with one
abbrev pub first_naming : List (List Entry) → List ℕ → Option (Option (List ℕ))
first_naming [] name = None
first_naming (es ∷ lists) name = or_else (entry_of_key es name) (first_naming lists name)

-- a merged list has for each text the entry of the first list with one, and its texts are in ascending order
abbrev pub MergesLists : Type 0
MergesLists =
    (lists : List (List Entry)) → IsRising (merged lists)
    × ((name : List ℕ) → entry_of_key (merged lists) name ≡ first_naming lists name)

-- ---- the cells of a list

-- the first part of a text, up to 0 and 0, with each 0 and 255 decoded as 0; and the bytes behind it
abbrev pub with_byte : ℕ → List ℕ × List ℕ → List ℕ × List ℕ
with_byte byte cut = (byte ∷ cut.0, cut.1)

abbrev pub first_part : List ℕ → List ℕ × List ℕ
first_part [] = ([], [])
first_part (zero ∷ []) = ([], [])
first_part (zero ∷ zero ∷ rest) = ([], rest)
first_part (zero ∷ suc mark ∷ rest) = with_byte 0 (first_part rest)
first_part (suc byte ∷ rest) = with_byte (suc byte) (first_part rest)

abbrev pub qualifier_named : List ℕ → Qualifier
qualifier_named name =
    if pointwise nat_eq name (codes "data") then Data
    else if pointwise nat_eq name (codes "lock") then Lock else Write

-- the key with this text
abbrev pub key_of_text : List ℕ → CellKey
key_of_text bytes =
    let row = first_part bytes in
    let family = first_part row.1 in
    let name = first_part family.1 in
    record {
      row = row.0;
      family = family.0;
      qualifier = qualifier_named name.0;
      stamp = 2 ^ 64 - 1 - from_be_bytes w64 name.1;
    }

-- The cells of a list: the first entry of a key decides, and an erasure is no cell.
abbrev pub cells_of : List Entry → Cells
cells_of [] = empty
cells_of ((name, None) ∷ es) = remove (cells_of es) (key_of_text name)
cells_of ((name, Some value) ∷ es) = insert (cells_of es) (key_of_text name) value

-- the value of an entry, if there is one
abbrev pub value_of : Option (Option (List ℕ)) → Option (List ℕ)
value_of None = None
value_of (Some value) = value

-- the cells of an entry list are its values at the texts of keys within the limits, and no others
abbrev pub HasCells : Type 0
HasCells =
    (es : List Entry) → AllByRecursion IsEntry es → (key : CellKey)
    → (IsStored key → get (cells_of es) key ≡ value_of (entry_of_key es (text key)))
    × (¬ (IsStored key) → get (cells_of es) key ≡ None)

-- ---- the bytes of an entry in a file

-- a length of four bytes, big-endian, and that many bytes
abbrev pub field : List ℕ → List ℕ
field bytes = to_be_bytes w32 (length bytes) ++ bytes

-- 0 for an erasure, or 1 and the value
abbrev pub spelled_value : Option (List ℕ) → List ℕ
spelled_value None = 0 ∷ []
spelled_value (Some value) = (1 ∷ []) ++ field value

abbrev pub spelled : Entry → List ℕ
spelled entry = field entry.0 ++ spelled_value entry.1

abbrev pub entry_len : Entry → ℕ
entry_len entry = length (spelled entry)
