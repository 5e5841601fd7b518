-- The contents of files that are held as vectors.
use Rattle.std.specs.Prelude.{ℕ, List, map}
use Rattle.std.specs.Global.{Vec}
use Rattle.std.specs.FinMap.{from_entries}
use Rattle.file_store.specs.Store.{Contents}

abbrev pub seen : List (ℕ × Vec ℕ) → List (ℕ × List ℕ)
seen es = map (λ e. (e.0, e.1.items)) es

abbrev pub contents_of : List (ℕ × Vec ℕ) → Contents
contents_of es = from_entries (seen es)
