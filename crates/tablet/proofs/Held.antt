-- The lists of a tablet whose files are open.
use Rattle.std.proofs.Common.{List, [], ◌∷◌, map}
use Rattle.std.specs.List.{AllByRecursion}
use Rattle.cell_key.specs.Entries.{IsEntryList}
use Rattle.file_store.specs.Store.{Contents}
use Rattle.sorted_file.specs.File.{IsOpen, listed}
use Rattle.sorted_file.specs.declared.file.SortedFile.{SortedFile}
use Rattle.tablet.specs.Views.{lists_of, files_of, Holds}
use Rattle.tablet.specs.declared.tablet.Tablet.{Tablet}

pub open_lists : (m : Contents) (files : List SortedFile) → AllByRecursion (IsOpen m) files → AllByRecursion IsEntryList (map (listed m) files)
open_lists m [] all = tt
open_lists m (file ∷ files) all = (all.0.list, open_lists m files all.1)

pub held_lists : (m : Contents) (t : Tablet) → Holds m t → AllByRecursion IsEntryList (lists_of m t)
held_lists m t h = (h.memory, open_lists m (files_of t) h.files)
