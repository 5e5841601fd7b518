-- What a log beside a server with a journal, and a root of its files, know of the server.
use Rattle.std.specs.Prelude.{ℕ, List, Bool, Result}
use Rattle.cell_key.specs.Cells.{Cells}
use Rattle.cell_key.specs.declared.refusals.Refusal.{Refusal}
use Rattle.metadata_table.specs.Roots.{RootView}
use Rattle.request_codec.specs.declared.replies.Reply.{Reply}
use Rattle.si_model.specs.Machine.{Place}

-- its state
pub record View (S : Type 0) : Type 1 where
  -- its files keep these cells under this root, whose tablets have these places
  pub stores : S → RootView → Cells → List Place → Type 0
  -- its root is this one, which names the places of its tablets
  pub is_rooted : S → RootView → Type 0
  -- the root that would be put now
  pub next_root : S → RootView
  -- it shows the cells that the files keep under their root
  pub is_clean : S → Type 0
  -- whether it has a journal
  pub recording : S → Bool
  -- the bytes of the journal's edits that the log has, and of those that wait for the log
  pub logged : S → List ℕ
  pub waiting : S → List ℕ
  -- the number of edits in both, and the bytes that these take as entries of a memtable
  pub count : S → ℕ
  pub entry_bytes : S → ℕ
  -- the size of the journal in bytes, or 671 for each edit if that is more
  pub size : S → ℕ
  -- the oracle's last stamp
  pub last : S → ℕ
  -- the same server, but for the journal
  pub same : S → S → Type 0

-- its calls that put roots or remove files
pub record RootCalls (S : Type 0) : Type 1 where
  -- the second is the first after all tablets were flushed
  pub flushes : S → S → Type 0
  -- a checkpoint may get this reply
  pub checkpoints : S → Reply → S → Type 0
  -- a sweep that leaves the root's files may have this result
  pub sweeps : S → Result ℕ Refusal → S → Type 0
