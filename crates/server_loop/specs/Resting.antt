-- When a server rests at a state: its files and its mark keep it.
use Rattle.std.specs.Prelude.{◌≡◌, ◌≢◌, ◌+◌, ◌≤◌, ◌⊎◌, ℕ, false, length, Option, None, Some, IsSome, IsSomeAnd, ⊤}
use Rattle.cell_key.specs.Cells.{Cells}
use Rattle.cell_key.specs.declared.refusals.Refusal.{Refusal}
use Rattle.file_store.specs.Store.{Contents}
use Rattle.file_store.specs.declared.files.Files.{Ghosts as Files}
use Rattle.metadata_table.specs.Roots.{RootView}
use Rattle.request_codec.specs.declared.replies.Reply.{Reply}
use Rattle.request_codec.specs.declared.replies.Reply.TheVariants as codec
use Rattle.request_codec.specs.declared.requests.Request.{Request}
use Rattle.request_codec.specs.declared.requests.Request.TheVariants.{Minor, Sweep, OracleRestart, Raw, Checkpoint, Status}
use Rattle.row_atomic.specs.Roots.{HasRoot, KeepsCells, KeepsRoot}
use Rattle.si_model.specs.Machine.{IsReached, State, reopened}
use Rattle.si_model.specs.ShowsCells.{ShowsCells}
use Rattle.server_loop.specs.Server.{Shows, cluster_of, machine_places, marks_of, tending_of}
use Rattle.server_loop.specs.Tending.{IsTended, is_due}
use Rattle.server_loop.specs.declared.server.Server.{Server}

-- A root names the greatest stamp of a state, its greatest floor and the places of its tablets. The mark is not below
-- that stamp, and the cells show the state after a clean restart.
pub record TellsState (root : RootView) (cells : Cells) (mark : Option ℕ)
    (st : State) : Type 0 where
  pub top : root.top ≡ st.top
  pub floor : root.floor ≡ st.floor
  pub places : machine_places root.places ≡ st.places
  pub next : st.next_tablet ≡ length st.places + 1
  pub marked : IsSomeAnd mark (λ number. st.top ≤ number)
  pub shows : ShowsCells cells (reopened st)

-- Files and a mark keep a state: the files keep cells under a root, and root, cells and mark show the state.
pub record KeepsState {F M : Type 0} (contents : F → Option Contents) (mark : M → Option ℕ)
    (files : F) (marks : M) (st : State) : Type 0 where
  pub kept : Contents
  pub on_disk : contents files ≡ Some kept
  pub root : RootView
  pub cells : Cells
  pub keeps : KeepsCells kept root cells
  pub tells : TellsState root cells (mark marks) st

-- A server shows a state, and its files and its mark keep it. Its tablets have every file of the root, and new files
-- will get other names.
pub record RestsAt {F M W : Type 0} (contents : F → Option Contents) (mark : M → Option ℕ)
    (server : Server F M W) (st : State) : Type 0 where
  pub shows : Shows contents server st
  pub root : RootView
  pub cells : Cells
  pub keeps : KeepsRoot contents root cells (cluster_of server)
  pub tells : TellsState root cells (mark (marks_of server)) st

-- A server's files and its mark keep a state, which may differ from the one it shows by now. New files will get other
-- names than the root's.
pub record StoresState {F M W : Type 0} (contents : F → Option Contents) (mark : M → Option ℕ)
    (server : Server F M W) (st : State) : Type 0 where
  pub root : RootView
  pub cells : Cells
  pub has : HasRoot contents root cells (cluster_of server)
  pub tells : TellsState root cells (mark (marks_of server)) st

-- requests that change no state of the machine and keep every tablet's files
abbrev pub IsSparing : Request → Type 0
IsSparing (Minor tablet) = ⊤
IsSparing Sweep = ⊤
IsSparing OracleRestart = ⊤
IsSparing (Raw row family qualifier lo hi) = ⊤
IsSparing (Status tablet) = ⊤
IsSparing request = ⊥

-- The effect of an answer on the state at which a server rests.
pub record KeepsResting {F M W : Type 0} (files : Files F W) (mark : M → Option ℕ)
    (request : Request) (reply : Reply) (old new : Server F M W) : Type 0 where
  -- After an accepted checkpoint a server that shows a reached state rests at it, if the mark is known.
  pub done : request ≡ Checkpoint → reply ≡ codec.Checkpoint → (st : State) → IsReached st
      → Shows files.contents old st → IsSome (mark (marks_of old))
      → RestsAt files.contents mark new st
  -- After any other request that is refused, or a sparing one, it rests at the same state as before.
  pub refused : request ≢ Checkpoint → (refusal : Refusal) → reply ≡ codec.Refused refusal
      → (st : State) → IsReached st → RestsAt files.contents mark old st
      → RestsAt files.contents mark new st
  pub spared : IsSparing request → (st : State) → IsReached st → RestsAt files.contents mark old st
      → RestsAt files.contents mark new st
  -- If a put replaces files as a whole, a refused checkpoint leaves the state that was stored before, or stores the one
  -- that the server shows.
  pub unfinished : files.replaces → request ≡ Checkpoint → (refusal : Refusal)
      → reply ≡ codec.Refused refusal → (stored shown : State)
      → StoresState files.contents mark old stored → IsReached shown → Shows files.contents old shown
      → StoresState files.contents mark new stored ⊎ StoresState files.contents mark new shown

-- Between two requests a server keeps resting at the same state, if it doesn't merge on its own, or if no merge is due.
abbrev pub RestsBetween : {F M W : Type 0} → Files F W → (M → Option ℕ) → Type 0
RestsBetween {F} {M} {W} files mark =
    (old new : Server F M W) (st : State) → IsTended files.contents files.faults old new
    → ((tending_of old).merge ≡ None) ⊎ (is_due (tending_of old) (cluster_of old) ≡ false)
    → RestsAt files.contents mark old st → RestsAt files.contents mark new st

-- The files and the mark of a server that rests at a state keep that state.
abbrev pub RestingIsKept : {F M W : Type 0} → Files F W → (M → Option ℕ) → Type 0
RestingIsKept {F} {M} {W} files mark =
    (server : Server F M W) (st : State) → RestsAt files.contents mark server st
    → KeepsState files.contents mark (cluster_of server).files (marks_of server) st
