-- The bodies of the messages that are sent through a pipe. Each is sent as a field.
use Rattle.std.specs.List.{flat_map}
use Rattle.std.specs.Prelude.{ℕ, List, [], ◌∷◌, ◌++◌, length, Option, Some, None}
use Rattle.byteorder.specs.Endian.{big_bytes}
use Rattle.cell_key.specs.Cells.{version}
use Rattle.cell_key.specs.Keys.{text}
use Rattle.cell_key.specs.Places.{Place}
use Rattle.cell_key.specs.Texts.{ended, escaped}
use Rattle.cell_key.specs.declared.edits.Edit.{Edit}
use Rattle.cell_key.specs.declared.edits.Edit.TheVariants.{Put, Erase}
use Rattle.cell_key.specs.declared.keys.Qualifier.TheVariants.{Write}

-- a field: the length of its bytes as four bytes, big-endian, and the bytes
unfoldable pub field : List ℕ → List ℕ
field bytes = big_bytes 4 (length bytes) ++ bytes

-- the key texts of a row, and no others, begin with this
abbrev pub row_prefix : List ℕ → List ℕ
row_prefix row = ended (escaped row)

-- an edit: 1, the key and the value, or 0 and the key to erase
abbrev pub edit_fields : Edit → List ℕ
edit_fields (Put key value) = 0x01 ∷ field (text key) ++ field value.items
edit_fields (Erase key) = 0x00 ∷ field (text key)

-- a text that is above the keys of a cell and below those of later cells; without a cell, below all keys
abbrev pub text_after : Option Place → List ℕ
text_after None = []
text_after (Some place) = text (version place.0 place.1 Write 0)

-- says that a request begins; there is no reply
abbrev pub begin_body : List ℕ
begin_body = 0x06 ∷ []

-- asks for a row
abbrev pub fetch_body : List ℕ → List ℕ
fetch_body row = 0x01 ∷ field (row_prefix row)

-- gives edits of a row, with its guard
abbrev pub swap_body : List ℕ → ℕ → List Edit → List ℕ
swap_body row guard edits =
    0x02 ∷ field (row_prefix row) ++ big_bytes 8 guard ++ big_bytes 4 (length edits)
    ++ flat_map edit_fields edits

-- asks for a page of keys after a cell
abbrev pub page_body : Option Place → ℕ → List ℕ
page_body after most = 0x03 ∷ field (text_after after) ++ big_bytes 4 most

-- asks for a stamp
abbrev pub draw_body : List ℕ
draw_body = 0x04 ∷ []

-- publishes a floor
abbrev pub publish_body : ℕ → List ℕ
publish_body floor = 0x05 ∷ big_bytes 8 floor
