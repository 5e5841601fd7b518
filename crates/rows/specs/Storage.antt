-- Storage below the rows in memory.
use Rattle.std.specs.Prelude.{ℕ, List, [], Option, None}
use Rattle.file_store.specs.Store.{Contents}
use Rattle.metadata_table.specs.Places.{PlaceView}

-- The state below the memtables: the bytes of the files, as far as they are known, the most bytes of a sorted file, the
-- next file's name, the places of the tablets with their files, and the bytes of the logged edits, if there is a
-- journal.
pub record Storage : Type 0 where
  pub disk : Option Contents
  pub file_limit : ℕ
  pub next_name : ℕ
  pub places : List PlaceView
  pub logged : List ℕ

-- rows that are only in memory
abbrev pub no_storage : Storage
no_storage = record { disk = None; file_limit = 0; next_name = 0; places = []; logged = [] }
