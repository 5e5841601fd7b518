-- Inputs: their entries over the contents of files.
use Rattle.std.specs.Prelude.{ℕ, List, Option, length}
use Rattle.cell_key.specs.Entries.{Entry, IsEntryList, Takes}
use Rattle.file_store.specs.Store.{Contents}
use Rattle.sorted_file.specs.Source.{pending}
use Rattle.sorted_file.specs.Cursor.{cursor_lent, cursor_remaining, CursorBreaks, CursorHolds, CursorSteps}
use Rattle.sorted_file.specs.declared.cursor.FileCursor.{FileCursor}
use Rattle.compaction.specs.declared.input.Input.{Input}
use Rattle.compaction.specs.declared.input.Input.TheVariants.{Memtable, File}

abbrev pub input_lent : Input → Option Entry
input_lent (Memtable s) = s.0
input_lent (File s) = cursor_lent s

abbrev pub input_remaining : Option Contents → Input → List Entry
input_remaining disk (Memtable s) = s.1
input_remaining disk (File s) = cursor_remaining disk s

-- its entries are an entry list; a memtable's don't depend on the contents of files
abbrev pub InputHolds : Option Contents → Input → Type 0
InputHolds disk (Memtable s) = IsEntryList (pending s.0 s.1)
InputHolds disk (File s) = CursorHolds disk s

-- an upper bound of the entries that it can still reach, given a file cursor's bound
abbrev pub input_left : (FileCursor → ℕ) → Input → ℕ
input_left left (Memtable s) = length s.1
input_left left (File s) = left s

-- a memtable's cursor takes its next entry, and a file's makes a step over the present contents
abbrev pub InputSteps : Option Contents → Input → Input → Type 0
InputSteps disk (Memtable s) (Memtable t) = Takes t.0 s.1 t.1
InputSteps disk (File s) (File t) = CursorSteps disk s t
InputSteps disk s t = ⊥

-- a memtable's cursor never breaks off
abbrev pub InputBreaks : Option Contents → Input → Type 0
InputBreaks disk (Memtable s) = ⊥
InputBreaks disk (File s) = CursorBreaks disk s
