-- The effect of edits on an entry list, and the limits of a memtable.
use Rattle.std.specs.Prelude.{◌≤◌, ℕ, List, [], ◌∷◌, ◌+◌, length, Some, None}
use Rattle.std.specs.FinMap.Entries.{put}
use Rattle.cell_key.specs.Keys.{byte_cmp, text, IsStored}
use Rattle.cell_key.specs.Cells.{IsEditOf, edited_key}
use Rattle.cell_key.specs.Entries.{Entry, entry_len}
use Rattle.cell_key.specs.declared.edits.Edit.{Edit}
use Rattle.cell_key.specs.declared.edits.Edit.TheVariants.{Put, Erase}

-- an edit as an entry: a put sets a value, and an erase leaves an erasure
abbrev pub edit_entry : Edit → Entry
edit_entry (Put key value) = (text key, Some value.items)
edit_entry (Erase key) = (text key, None)

-- an edit sets the entry at its text
abbrev pub with_edit : List Entry → Edit → List Entry
with_edit es edit = put byte_cmp (edit_entry edit).0 (edit_entry edit).1 es

-- the edits applied in order
abbrev pub with_edits : List Entry → List Edit → List Entry
with_edits es [] = es
with_edits es (edit ∷ edits) = with_edits (with_edit es edit) edits

-- the edit, of whatever row, is within the limits
abbrev pub IsLimited : Edit → Type 0
IsLimited edit = IsEditOf (edited_key edit).row edit

-- the key of an edit is within the limits
abbrev pub HasStoredKey : Edit → Type 0
HasStoredKey edit = IsStored (edited_key edit)

-- the length in bytes of the entries of a list
abbrev pub bytes_of : List Entry → ℕ
bytes_of [] = 0
bytes_of (e ∷ es) = entry_len e + bytes_of es

-- the limits of a memtable
pub record IsWithinLimits (es : List Entry) : Type 0 where
  pub entries : length es ≤ 100000
  pub bytes : bytes_of es ≤ 67108864
