-- Requests for several cells as the machine's, and their answers.
use Rattle.std.specs.Prelude.{List, Option, Result, Ok, Err, map, option_map}
use Rattle.cell_key.specs.declared.refusals.Refusal.{Refusal}
use Rattle.si_model.specs.Machine.{Change, Item, Refused, Writes}
use Rattle.si_model.specs.Reads.{cell_of}
use Rattle.si_model.specs.Replies.{found_item}
use Rattle.si_model.specs.Transactions.{Answer, Said, CommitDone, CommitConflict, ReadDone}
use Rattle.si_model.specs.declared.replies.Cell.{Cell}
use Rattle.si_model.specs.declared.scans.ScanFound.{ScanFound}
use Rattle.si_model.specs.declared.transactions.CellName.{CellName}
use Rattle.si_model.specs.declared.transactions.CellWrite.{CellWrite}
use Rattle.si_model.specs.declared.transactions.CommitReply.{CommitReply}
use Rattle.si_model.specs.declared.transactions.CommitReply.TheVariants as commit
use Rattle.si_model.specs.declared.transactions.ReadReply.{ReadReply}

abbrev pub cell_named : CellName → Cell
cell_named name = cell_of name.row.now name.family.now

abbrev pub cells_named : List CellName → List Cell
cells_named names = map cell_named names

abbrev pub write_named : CellWrite → Cell × Change
write_named write = (cell_named write.cell, option_map (λ value. value.now) write.value)

abbrev pub writes_named : List CellWrite → Writes
writes_named writes = map write_named writes

-- what is said of cells
abbrev pub told_item : Option ScanFound → Option Item
told_item found = option_map found_item found

abbrev pub told_items : List (Option ScanFound) → List (Option Item)
told_items found = map told_item found

-- Read
abbrev pub read_answer : ReadReply → Answer
read_answer reply = ReadDone reply.start (told_items reply.found.items)

-- Commit
abbrev pub commit_answer : CommitReply → Answer
commit_answer (commit.Committed start stamp) = CommitDone start stamp
commit_answer (commit.Conflict start place) = CommitConflict start place

-- either of them: its answer, or its refusal
abbrev pub result_answer : {A : Type 0} → (A → Answer) → Result A Refusal → Answer
result_answer answer (Ok reply) = answer reply
result_answer answer (Err refusal) = Said (Refused refusal)
