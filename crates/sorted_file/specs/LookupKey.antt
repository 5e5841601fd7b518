-- The text and the hashes of a lookup key.
use Rattle.std.specs.Prelude.{◌≡◌, ℕ, List}
use Rattle.cell_key.specs.Keys.{text, IsKey}
use Rattle.cell_key.specs.declared.keys.CellKey.{CellKey}
use Rattle.cell_key.specs.declared.keys.Qualifier.{Qualifier}
use Rattle.cell_key.specs.declared.keys.Qualifier.TheVariants.{Data, Lock, Write}
use Rattle.sorted_file.specs.Numbers.{number_of, text_number}

-- the hash that an entry of a key with this text is tested by: of its text for a lock, else of its column
abbrev pub entry_number : Qualifier → List ℕ → ℕ
entry_number Data name = number_of name
entry_number Lock name = text_number name
entry_number Write name = number_of name

-- the text of a key, the hash of its column, and the hash for its entry; the key is within its limits
pub record IsLookupKey (key : CellKey) (name : List ℕ) (column entry : ℕ) : Type 0 where
  pub limits : IsKey key
  pub named : name ≡ text key
  pub numbered : column ≡ number_of (text key)
  pub asked : entry ≡ entry_number key.qualifier (text key)
