-- Sizes: how many entries, bytes, and values of locks there are.
use Rattle.std.specs.Prelude.{◌≡◌, ℕ, List, Option, Some, None, length}
use Rattle.cell_key.specs.Entries.{Entry, entry_len}
use Rattle.memtable.specs.declared.size.EntrySize.{EntrySize}
use Rattle.memtable.specs.declared.size.Size.{Size}
use Rattle.memtable.specs.Edits.{bytes_of}
use Rattle.memtable.specs.Slots.{lock_count, one_lock}

-- the size of a list
pub record IsSizeOf (size : Size) (es : List Entry) : Type 0 where
  pub entries : size.entries ≡ length es
  pub bytes : size.bytes ≡ bytes_of es
  pub locks : size.locks ≡ lock_count es

-- an entry's share of a size
abbrev pub entry_size : Entry → EntrySize
entry_size e = record { bytes = entry_len e; locks = one_lock e }

-- the size of the entry at a text, given its value or erasure, if there is one
abbrev pub stood_size : List ℕ → Option (Option (List ℕ)) → Option EntrySize
stood_size name None = None
stood_size name (Some value) = Some (entry_size (name, value))

-- the size if there is one, else zero
abbrev pub or_nothing : Option EntrySize → EntrySize
or_nothing None = record { bytes = 0; locks = 0 }
or_nothing (Some size) = size
