use Rattle.std.proofs.Common.{◌≡◌}
use Rattle.std.specs.List.{AllByRecursion}
use Rattle.std.specs.Vec.Iter.{into_iter_items}
use Rattle.commit_log.specs.Edits.{IsStoredEdit}
use Rattle.row_atomic.specs.Clusters.{storage_of}
use Rattle.row_atomic.specs.Recorded.{FitsMemtables}
use Rattle.row_atomic.specs.declared.recorded.Recorded.{Recorded}
use Rattle.durable.specs.Replay.{HasRoom, Replays}
use Rattle.durable.proofs.replay.make_edits.Given as goal

-- the edits that are left lead to where all of them do, and have room if all have
abbrev pub invariant-loop-edit : goal.invariant-loop-edit
invariant-loop-edit g l =
    record {
      leads : (new : Recorded g.row.F.Denot g.row.F-Writing.Denot) → Replays g.F.Files.contents (into_iter_items l.edit-iterator) l.rows new → Replays g.F.Files.contents l.fn.edits.items l.fn.rows new;
      stored : AllByRecursion IsStoredEdit (into_iter_items l.edit-iterator);
      stays : storage_of g.F.Files.contents l.rows.cluster ≡ storage_of g.F.Files.contents l.fn.rows.cluster;
      faults : g.F.Files.faults l.rows.cluster.files ≡ g.F.Files.faults l.fn.rows.cluster.files;
      room : FitsMemtables l.fn.rows → HasRoom l.fn.rows.journal l.fn.edits.items → FitsMemtables l.rows × HasRoom l.rows.journal (into_iter_items l.edit-iterator);
    }
