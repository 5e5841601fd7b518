-- Edits of cells as the bytes of records, one after another: in a new record as fields, in one of an earlier program
-- as entries of a sorted file.
use Rattle.std.specs.Prelude.{◌≡◌, ◌≢◌, ◌≤◌, ◌<◌, ◌^◌, ◌+◌, ◌⊎◌, ℕ, Bool, true, false, List, [], ◌∷◌, ◌++◌, length, is_some, Option, IfSome, Some, None, flat_map, map}
use Rattle.std.specs.Int.{to_be_bytes, w16}
use Rattle.std.specs.List.{AllByRecursion}
use Rattle.cell_key.specs.Cells.{Cells, IsEditOf, after_edits, edited_key, qualifier_rank, version}
use Rattle.cell_key.specs.Entries.{Entry, field, spelled}
use Rattle.cell_key.specs.Keys.{text}
use Rattle.cell_key.specs.Names.{IsRow, IsFamily}
use Rattle.cell_key.specs.declared.edits.Edit.{Edit}
use Rattle.cell_key.specs.declared.edits.Edit.TheVariants.{Put, Erase}
use Rattle.cell_key.specs.declared.keys.CellKey.{CellKey}
use Rattle.cell_key.specs.declared.keys.Qualifier.{Qualifier}
use Rattle.commit_log.specs.Records.{any_root, root_record, spelled_number, spelled_record}
use Rattle.commit_log.specs.declared.edits.EditForm.{EditForm}
use Rattle.commit_log.specs.declared.edits.EditForm.TheVariants.{Fields, Entries}
use Rattle.commit_log.specs.declared.fields.KeyFields.{KeyFields}
use Rattle.commit_log.specs.declared.records.RecordKind.{RecordKind}
use Rattle.commit_log.specs.declared.records.RecordKind.TheVariants as kind

-- the value that an edit puts, or none of an erasure
abbrev pub edit_value : Edit → Option (List ℕ)
edit_value (Put key value) = Some value.items
edit_value (Erase key) = None

-- ---- edits as fields

-- the byte of a column, and of whether the edit puts it or erases it
abbrev pub column_byte : Qualifier → Bool → ℕ
column_byte column true = qualifier_rank column
column_byte column false = 16 + qualifier_rank column

-- a row behind its length in two bytes, and a family behind its length in one
abbrev pub row_field : List ℕ → List ℕ
row_field row = to_be_bytes w16 (length row) ++ row

abbrev pub family_field : List ℕ → List ℕ
family_field family = length family ∷ family

-- the fields of a key, of an edit that puts it or erases it
abbrev pub key_fields : CellKey → Bool → List ℕ
key_fields key puts =
    column_byte key.qualifier puts
    ∷ (row_field key.row ++ (family_field key.family ++ spelled_number key.stamp))

-- a value behind its length in four bytes; an erasure has none
abbrev pub value_field : Option (List ℕ) → List ℕ
value_field None = []
value_field (Some value) = field value

abbrev pub spelled_fields : CellKey → Option (List ℕ) → List ℕ
spelled_fields key value = key_fields key (is_some value) ++ value_field value

abbrev pub spelled_edit : Edit → List ℕ
spelled_edit edit = spelled_fields (edited_key edit) (edit_value edit)

-- the body of a record of these edits
abbrev pub spelled_edits : List Edit → List ℕ
spelled_edits edits = flat_map spelled_edit edits

-- the lengths of a key's row and of its family fit two bytes and one, and its stamp fits eight
pub record FitsFields (key : CellKey) : Type 0 where
  pub row : length key.row < 2 ^ 16
  pub family : length key.family < 2 ^ 8
  pub stamp : key.stamp < 2 ^ 64

-- the length of a value fits four bytes
abbrev pub IsShortValue : Option (List ℕ) → Type 0
IsShortValue value = IfSome value (λ bytes. length bytes < 2 ^ 32)

-- the key of borrowed fields
abbrev pub lent_key : KeyFields → CellKey
lent_key lent = version lent.row.now lent.family.now lent.column lent.stamp

-- ---- edits as entries, as they are in a memtable and in a sorted file

-- an edit's entry: the text of its key, and its value, or none for an erasure
abbrev pub edit_entry : Edit → Entry
edit_entry edit = (text (edited_key edit), edit_value edit)

abbrev pub spelled_entry : Edit → List ℕ
spelled_entry edit = spelled (edit_entry edit)

-- the body of a record of these edits in an earlier form
abbrev pub spelled_entries : List Edit → List ℕ
spelled_entries edits = flat_map spelled_entry edits

-- the lengths of an entry's text and of its value fit their four bytes
pub record HasShortParts (entry : Entry) : Type 0 where
  pub text : length entry.0 < 2 ^ 32
  pub value : IsShortValue entry.1

-- ---- both forms

abbrev pub spelled_as : EditForm → Edit → List ℕ
spelled_as Fields = spelled_edit
spelled_as Entries = spelled_entry

abbrev pub form_kind : EditForm → RecordKind
form_kind Fields = kind.Edits
form_kind Entries = kind.Entries

-- an edit within all limits
pub record IsStoredEdit (edit : Edit) : Type 0 where
  pub row : IsRow (edited_key edit).row
  pub family : IsFamily (edited_key edit).family
  pub limits : IsEditOf (edited_key edit).row edit

-- an edit's stamp is at most the mark
abbrev pub IsStampedUpTo : ℕ → Edit → Type 0
IsStampedUpTo mark edit = (edited_key edit).stamp ≤ mark

-- a record of format 1 has edits within the limits, which no stamp above the mark is in
abbrev pub IsMarked : ℕ → List ℕ → Type 0
IsMarked mark bytes =
    (edits : List Edit) × (bytes ≡ spelled_entries edits) × AllByRecursion IsStoredEdit edits
    × AllByRecursion (IsStampedUpTo mark) edits

-- it has no edits within the limits, or one with a stamp above the mark
abbrev pub IsUnmarked : ℕ → List ℕ → Type 0
IsUnmarked mark bytes =
    ((edits : List Edit) → AllByRecursion IsStoredEdit edits → bytes ≢ spelled_entries edits)
    ⊎ ((edits : List Edit) × (bytes ≡ spelled_entries edits) × AllByRecursion IsStoredEdit edits
    × ¬ AllByRecursion (IsStampedUpTo mark) edits)

-- a new record of edits
abbrev pub edits_record : ℕ → List Edit → List ℕ
edits_record stamp edits = spelled_record kind.Edits stamp (spelled_edits edits)

-- The contents of a record: edits that were made, in one of the two forms, or the root that the log is over.
pub data Part : Type 0 where
  makes : (form : EditForm) (stamp : ℕ) (edits : List Edit) → Part
  names : (top sum : ℕ) → Part
  names_any : Part

abbrev pub spelled_part : Part → List ℕ
spelled_part (makes form stamp edits) =
    spelled_record (form_kind form) stamp (flat_map (spelled_as form) edits)
spelled_part (names top sum) = root_record top sum
spelled_part names_any = any_root

abbrev pub made_in : Part → List Edit
made_in (makes form stamp edits) = edits
made_in (names top sum) = []
made_in names_any = []

-- Records hold these edits, in order.
pub record HoldEdits (records : List (List ℕ)) (edits : List Edit) : Type 0 where
  pub parts : List Part
  pub each : records ≡ map spelled_part parts
  pub joined : edits ≡ flat_map made_in parts

pub record LogsEdits : Type 0 where
  -- the bytes of edits after edits
  pub after : (first then : List Edit)
      → spelled_edits (first ++ then) ≡ spelled_edits first ++ spelled_edits then
  pub entries_after : (first then : List Edit)
      → spelled_entries (first ++ then) ≡ spelled_entries first ++ spelled_entries then
  -- no records hold no edits; a further record adds its edits behind the others, a record of a root adds none
  pub none : HoldEdits [] []
  pub more : (records : List (List ℕ)) (edits then : List Edit) (stamp : ℕ)
      → HoldEdits records edits
      → HoldEdits (records ++ edits_record stamp then ∷ []) (edits ++ then)
  pub named : (records : List (List ℕ)) (edits : List Edit) (top sum : ℕ)
      → HoldEdits records edits → HoldEdits (records ++ root_record top sum ∷ []) edits
  pub any : (records : List (List ℕ)) (edits : List Edit)
      → HoldEdits records edits → HoldEdits (records ++ any_root ∷ []) edits
  -- all edits that the same records hold, in whichever form, have the same fields
  pub whole : (records : List (List ℕ)) (a b : List Edit)
      → HoldEdits records a → HoldEdits records b
      → AllByRecursion IsStoredEdit a → AllByRecursion IsStoredEdit b
      → spelled_edits a ≡ spelled_edits b
  -- edits with the same fields have the same entries, are equal in number, and change cells in the same way
  pub entries : (a b : List Edit) → AllByRecursion IsStoredEdit a → AllByRecursion IsStoredEdit b
      → spelled_edits a ≡ spelled_edits b → spelled_entries a ≡ spelled_entries b
  pub one : (a b : List Edit) → AllByRecursion IsStoredEdit a → AllByRecursion IsStoredEdit b
      → spelled_edits a ≡ spelled_edits b
      → (cells : Cells) → after_edits cells a ≡ after_edits cells b
