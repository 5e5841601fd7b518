-- The newest entry of a column among entries.
use Rattle.std.specs.Prelude.{◌≡◌, ◌≢◌, ◌≤◌, ◌<◌, ℕ, List, length, Option, Some, None, IfSome, option_map}
use Rattle.std.specs.declared.vec.Vec.{Vec}
use Rattle.cell_key.specs.Keys.{text}
use Rattle.cell_key.specs.Cells.{version}
use Rattle.cell_key.specs.Entries.{Entry, entry_of_key}
use Rattle.cell_key.specs.declared.keys.CellKey.{CellKey}

-- the key of the same column at another stamp
abbrev pub at_stamp : CellKey → ℕ → CellKey
at_stamp key stamp = version key.row key.family key.qualifier stamp

-- found is the newest entry of the key's column at a stamp from lo to the key's: its stamp, and its value or none for
-- an erasure
abbrev pub IsNewestEntry : List Entry → CellKey → ℕ → Option (ℕ × Option (List ℕ)) → Type 0
IsNewestEntry es key lo None =
    (s : ℕ) → lo ≤ s → s ≤ key.stamp → entry_of_key es (text (at_stamp key s)) ≡ None
IsNewestEntry es key lo (Some found) =
    (lo ≤ found.0) × (found.0 ≤ key.stamp)
    × (entry_of_key es (text (at_stamp key found.0)) ≡ Some found.1)
    × ((s : ℕ) → found.0 < s → s ≤ key.stamp → entry_of_key es (text (at_stamp key s)) ≡ None)

-- the text isn't that of a key of the column at a stamp from lo to the key's
abbrev pub IsOutside : CellKey → ℕ → List ℕ → Type 0
IsOutside key lo name = (s : ℕ) → lo ≤ s → s ≤ key.stamp → name ≢ text (at_stamp key s)

-- found is the stamp and the value of an entry, if its key is of the key's column at a stamp from lo to the key's
abbrev pub IsOfColumn : CellKey → ℕ → Option Entry → Option (ℕ × Option (List ℕ)) → Type 0
IsOfColumn key lo None found = found ≡ None
IsOfColumn key lo (Some entry) None = IsOutside key lo entry.0
IsOfColumn key lo (Some entry) (Some found) =
    (lo ≤ found.0) × (found.0 ≤ key.stamp) × (entry ≡ (text (at_stamp key found.0), found.1))

-- the bytes of a value; none for an erasure
abbrev pub value_bytes : {Z : Type 0} → Option (Vec ℕ Z) → Option (List ℕ)
value_bytes value = option_map (λ bytes. bytes.items) value

-- a value has at most 65,536 bytes
abbrev pub IsShortValue : {Z : Type 0} → Option (Vec ℕ Z) → Type 0
IsShortValue value = IfSome value (λ bytes. length bytes.items ≤ 65536)

-- an entry found, by its stamp and the bytes of its value
abbrev pub found_bytes : {Z : Type 0} → ℕ × Option (Vec ℕ Z) → ℕ × Option (List ℕ)
found_bytes found = (found.0, value_bytes found.1)

-- a stamp above the one found, or at or above lo if none was found
abbrev pub IsAfterStamp : ℕ → ℕ → Option ℕ → Type 0
IsAfterStamp s lo None = lo ≤ s
IsAfterStamp s lo (Some found) = found < s
