-- The cells that a server's files keep under their root.
use Rattle.std.specs.Prelude.{◌≡◌, ◌*◌, ◌^◌, ◌-◌, ℕ, List, [], Option, Result, is_some, max, min}
use Rattle.cell_key.specs.Cells.{Cells}
use Rattle.cell_key.specs.declared.refusals.Refusal.{Refusal}
use Rattle.file_store.specs.Store.{Contents}
use Rattle.file_store.specs.declared.files.Files.{Ghosts as Files}
use Rattle.metadata_table.specs.Roots.{RootView}
use Rattle.oracle.specs.declared.marks.MarkStore.{Ghosts as MarkStore}
use Rattle.request_codec.specs.declared.replies.Reply.{Reply}
use Rattle.request_codec.specs.declared.requests.Request.TheVariants.{Checkpoint}
use Rattle.row_atomic.specs.Journals.{JournalView}
use Rattle.row_atomic.specs.Recorded.{Tracks, bytes_written, edits_written, entry_bytes_written, logged_of, waiting_of}
use Rattle.row_atomic.specs.RootSweeps.{SweepsBesideRoot}
use Rattle.row_atomic.specs.Roots.{HasRoot}
use Rattle.row_atomic.specs.declared.commands.Outcome.TheVariants as outcome
use Rattle.si_model.specs.Machine.{Place}
use Rattle.durable.specs.View.{RootCalls, View}
use Rattle.server_loop.specs.Answer.{IsPlainAnswer}
use Rattle.server_loop.specs.Checkpoints.{FlushesAll}
use Rattle.server_loop.specs.Server.{cluster_of, forgets, journal_of, last_of, machine_places, next_root, rows_of}
use Rattle.server_loop.specs.declared.server.Server.{Server}

module _ {F M W : Type 0} (contents : F → Option Contents) where
  -- The files keep these cells under a root that names these places.
  pub record StoresCells (server : Server F M W) (root : RootView) (base : Cells)
      (places : List Place) : Type 0 where
    pub has : HasRoot contents root base (cluster_of server)
    pub placed : machine_places root.places ≡ places

  -- This root names the places of the server's tablets.
  pub record IsRooted (server : Server F M W) (root : RootView) : Type 0 where
    pub base : Cells
    pub has : HasRoot contents root base (cluster_of server)
    pub placed : machine_places root.places ≡ machine_places (cluster_of server).places

  -- the root's cells are the shown ones
  abbrev pub IsClean : Server F M W → Type 0
  IsClean server = Tracks contents (cluster_of server) []

-- the size of a journal: its bytes, or 671 for each edit if that is more
abbrev pub journal_size : Option JournalView → ℕ
journal_size journal = max (bytes_written journal) (min (edits_written journal * 671) (2 ^ 64 - 1))

-- two servers are the same, but for their journals
abbrev pub IsSame : {F M W : Type 0} → Server F M W → Server F M W → Type 0
IsSame a b = forgets a ≡ forgets b

module _ {F M W : Type 0} (files : Files F W) (marks : MarkStore M) where
  abbrev pub AnswersCheckpoint : Server F M W → Reply → Server F M W → Type 0
  AnswersCheckpoint old reply new = IsPlainAnswer files marks old Checkpoint reply (forgets new)

-- Files went that neither a tablet nor the root has, or some of them, and nothing else changed.
abbrev pub SweepsFiles : {F M W : Type 0} → (F → Option Contents) → (F → ℕ) → Server F M W
    → Result ℕ Refusal → Server F M W → Type 0
SweepsFiles contents faults old result new =
    SweepsBesideRoot contents faults result (cluster_of old) (cluster_of new)
    × (new ≡ record old { rows = record (rows_of old) { cluster = cluster_of new } })

-- ---- the server under a log

abbrev pub view_of : {F M W : Type 0} → (F → Option Contents) → View (Server F M W)
view_of contents = record {
  stores = StoresCells contents;
  is_rooted = IsRooted contents;
  next_root = next_root;
  is_clean = IsClean contents;
  recording = λ server. is_some (journal_of server);
  logged = λ server. logged_of (journal_of server);
  waiting = λ server. waiting_of (journal_of server);
  count = λ server. edits_written (journal_of server);
  entry_bytes = λ server. entry_bytes_written (journal_of server);
  size = λ server. journal_size (journal_of server);
  last = last_of;
  same = IsSame;
}

abbrev pub calls_of : {F M W : Type 0} → Files F W → MarkStore M → RootCalls (Server F M W)
calls_of files marks = record {
  flushes = λ old new. FlushesAll files.contents files.faults old outcome.Done new;
  checkpoints = AnswersCheckpoint files marks;
  sweeps = SweepsFiles files.contents files.faults;
}
