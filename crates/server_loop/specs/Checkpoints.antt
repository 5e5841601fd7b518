-- The parts of a checkpoint: every tablet is flushed, and then the root is put.
use Rattle.std.specs.Prelude.{◌≡◌, ℕ, [], Option, Result, IfErr, OnOk}
use Rattle.cell_key.specs.declared.refusals.Refusal.{Refusal}
use Rattle.file_store.specs.Store.{Contents}
use Rattle.file_store.specs.declared.files.Files.{Ghosts as Files}
use Rattle.oracle.specs.declared.marks.MarkStore.{Ghosts as MarkStore}
use Rattle.request_codec.specs.declared.requests.Request.TheVariants.{Checkpoint}
use Rattle.row_atomic.specs.Changes.{Holds}
use Rattle.row_atomic.specs.Clusters.{spots_of}
use Rattle.row_atomic.specs.Flushes.{numbers_of}
use Rattle.row_atomic.specs.Recorded.{Follows, Tracks}
use Rattle.row_atomic.specs.Roots.{FlushesEach}
use Rattle.row_atomic.specs.declared.commands.Outcome.{Outcome}
use Rattle.si_model.specs.Machine.{IsStorageRefusal, State}
use Rattle.server_loop.specs.Answer.{IsPlainAnswer}
use Rattle.server_loop.specs.Commands.{checkpointed}
use Rattle.server_loop.specs.Server.{Shows, cluster_of, forgets, journal_of, rows_of}
use Rattle.server_loop.specs.declared.server.Server.{Server}

-- Every tablet of a server was flushed, in the order of their ends, until one was refused. Nothing else changed.
pub record FlushesAll {F M W : Type 0} (contents : F → Option Contents) (faults : F → ℕ)
    (old : Server F M W) (result : Outcome) (new : Server F M W) : Type 0 where
  pub flushes : FlushesEach contents faults (cluster_of old)
      (numbers_of (cluster_of old).places) result (cluster_of new)
  pub others : new ≡ record old { rows = record (rows_of old) { cluster = cluster_of new } }

-- Apart from the journal, which is kept, this is the answer to a Checkpoint. Once it is done, the files keep the shown
-- cells without an edit. If a put replaces files as a whole, the journal still leads to these cells, also after a refusal.
pub record ActsAsCheckpoint {F M W : Type 0} (files : Files F W) (marks : MarkStore M)
    (old : Server F M W) (result : Result (Unit {0}) Refusal) (new : Server F M W) : Type 0 where
  pub plain : IsPlainAnswer files marks old Checkpoint (checkpointed result) (forgets new)
  pub shown : (st : State) → Shows files.contents old st → Shows files.contents (forgets new) st
  pub refusal : IfErr result IsStorageRefusal
  pub spots : spots_of (cluster_of new) ≡ spots_of (cluster_of old)
  pub clean : OnOk result
      (Holds files.contents (cluster_of old) → Tracks files.contents (cluster_of new) [])
  pub follows : files.replaces → Holds files.contents (cluster_of old)
      → Follows files.contents (cluster_of old) (journal_of old)
      → Follows files.contents (cluster_of new) (journal_of new)
  pub journal : journal_of new ≡ journal_of old
