use Rattle.std.proofs.Common.{◌≡◌, take}
use Rattle.std.specs.List.{AllByRecursion}
use Rattle.commit_log.specs.Edits.{IsStoredEdit}
use Rattle.rows.specs.RowEdits.{all_edits}
use Rattle.row_atomic.specs.Journals.{HasRoomFor, with_waiting}
use Rattle.row_atomic.proofs.journal.Journal.push_all.Given as goal

-- the edits of the changes so far are in the journal
abbrev pub invariant-loop-change : goal.invariant-loop-change
invariant-loop-change l =
    record {
      pushed : l.self ≡ with_waiting (all_edits (take l.change-index l.changes)) l.fn.self;
      room : HasRoomFor l.fn.self (all_edits (take l.change-index l.changes));
      stored : AllByRecursion IsStoredEdit (all_edits (take l.change-index l.changes));
    }
