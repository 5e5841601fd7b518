-- The entries of a list that are written to a file.
use Rattle.std.specs.Prelude.{◌||◌, Bool, List, filter, is_some}
use Rattle.cell_key.specs.Entries.{Entry}

-- whether an entry is written: a value always, and an erasure if erasures are kept
abbrev pub is_written : Bool → Entry → Bool
is_written keep_erasures entry = keep_erasures || is_some entry.1

-- the entries that are written
abbrev pub only_written : Bool → List Entry → List Entry
only_written keep_erasures es = filter (is_written keep_erasures) es
