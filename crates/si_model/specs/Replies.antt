-- The answers of calls, as replies of the machine.
use Rattle.std.specs.Prelude.{Some, None, Result, Ok, Err, map, option_map}
use Rattle.cell_key.specs.declared.refusals.Refusal.{Refusal}
use Rattle.si_model.specs.Messages.{Range, Item, Valued, Locked, Unsent, Reach, ToEnd, UpTo, Reply, Answered, Pending, Scanned, Held, Conflict, Drawn, Committed, Lost, Finished, NoLock, Cleaning, Decided, RolledForward, RolledBack, Gone, More, Blocked, Collected, Refused}
use Rattle.si_model.specs.declared.replies.Found.{Found}
use Rattle.si_model.specs.declared.replies.Found.TheVariants as found
use Rattle.si_model.specs.Reads.{cell_of}
use Rattle.si_model.specs.declared.replies.Cell.{Cell}
use Rattle.si_model.specs.declared.scans.ScanRange.{ScanRange}
use Rattle.si_model.specs.declared.scans.ScanFound.{ScanFound}
use Rattle.si_model.specs.declared.scans.ScanFound.TheVariants as scanned
use Rattle.si_model.specs.declared.scans.ScanItem.{ScanItem}
use Rattle.si_model.specs.declared.scans.ScanReach.{ScanReach}
use Rattle.si_model.specs.declared.scans.ScanReach.TheVariants as reach
use Rattle.si_model.specs.declared.scans.ScanReply.{ScanReply}
use Rattle.si_model.specs.declared.replies.Progress.{Progress}
use Rattle.si_model.specs.declared.replies.Progress.TheVariants as progress
use Rattle.si_model.specs.declared.replies.CleanStart.{CleanStart}
use Rattle.si_model.specs.declared.replies.CleanStart.TheVariants as clean_start
use Rattle.si_model.specs.declared.replies.CleanReply.{CleanReply}
use Rattle.si_model.specs.declared.replies.CleanReply.TheVariants as clean
use Rattle.si_model.specs.declared.replies.CollectReply.{CollectReply}
use Rattle.si_model.specs.declared.replies.CollectReply.TheVariants as collect

-- Get
abbrev pub found_reply : Found → Reply
found_reply (found.Value value) = Answered (Some value.items)
found_reply found.Nothing = Answered None
found_reply (found.Pending start) = Pending start

-- the range of a scan
abbrev pub range_of : ScanRange → Range
range_of range = record {
  after = option_map (λ names. cell_of names.0.now names.1.now) range.after;
  end = option_map (λ row. row.now) range.end;
  family = option_map (λ family. family.now) range.family;
}

abbrev pub found_item : ScanFound → Item
found_item (scanned.Value value) = Valued value.items
found_item (scanned.Pending start) = Locked start
found_item scanned.Unsent = Unsent

abbrev pub item_of : ScanItem → Cell × Item
item_of item = (item.cell, found_item item.found)

abbrev pub reach_of : ScanReach → Reach
reach_of reach.End = ToEnd
reach_of (reach.More cell) = UpTo cell

-- ScanFrom
abbrev pub scan_reply : ScanReply → Reply
scan_reply reply = Scanned (map item_of reply.items.items) (reach_of reply.reach)

-- Advance
abbrev pub progress_reply : Progress → Reply
progress_reply (progress.Held place count) = Held place count
progress_reply (progress.Conflict place) = Conflict place
progress_reply (progress.Stamped stamp) = Drawn stamp
progress_reply (progress.Committed stamp) = Committed stamp
progress_reply progress.Lost = Lost
progress_reply (progress.Finished place count) = Finished place count

-- CleanBegin
abbrev pub clean_start_reply : CleanStart → Reply
clean_start_reply clean_start.NoLock = NoLock
clean_start_reply (clean_start.Cleaner number start) = Cleaning number start

-- CleanStep
abbrev pub clean_reply : CleanReply → Reply
clean_reply clean.Decided = Decided
clean_reply (clean.RolledForward stamp) = RolledForward stamp
clean_reply clean.RolledBack = RolledBack
clean_reply clean.Gone = Gone

-- CollectStep
abbrev pub collect_reply : CollectReply → Reply
collect_reply collect.More = More
collect_reply (collect.Blocked cell start) = Blocked cell start
collect_reply collect.Collected = Collected

-- any call: its answer, or its refusal
abbrev pub result_reply : {A : Type 0} → (A → Reply) → Result A Refusal → Reply
result_reply reply (Ok answer) = reply answer
result_reply reply (Err refusal) = Refused refusal
