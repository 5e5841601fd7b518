-- The requests and replies of the machine.
use Rattle.std.specs.Prelude.{ℕ, Bool, List, Option}
use Rattle.cell_key.specs.declared.keys.Qualifier.{Qualifier}
use Rattle.cell_key.specs.declared.refusals.Refusal.{Refusal}
use Rattle.si_model.specs.State.{Value}
pub use Rattle.si_model.specs.State.{Range, Item, Valued, Locked, Unsent, Reach, ToEnd, UpTo}
use Rattle.si_model.specs.declared.replies.Cell.{Cell}

pub data Request : Type 0 where
  Begin : Request
  Get : (start : ℕ) (cell : Cell) → Request
  Set : (start : ℕ) (cell : Cell) (value : Value) → Request
  Delete : (start : ℕ) (cell : Cell) → Request
  -- reads the cells of the range, at most this number of them; with keys_only, no values
  ScanFrom : (start : ℕ) (range : Range) (keys_only : Bool) (cells : ℕ) → Request
  -- takes the session's next step
  Advance : (start : ℕ) → Request
  Stop : (start : ℕ) → Request
  CleanBegin : (cell : Cell) → Request
  CleanStep : (number : ℕ) → Request
  CollectBegin : Request
  CollectStep : (number visits : ℕ) → Request
  Minor : (tablet : ℕ) → Request
  Merge : (tablet count : ℕ) → Request
  Major : (tablet : ℕ) → Request
  Split : (row : List ℕ) → Request
  Move : (tablet server : ℕ) → Request
  Sweep : Request
  OracleRestart : Request
  Raw : (cell : Cell) (qualifier : Qualifier) (low high : ℕ) → Request
  Checkpoint : Request
  -- tells how the store is, and how this tablet is
  Status : (tablet : ℕ) → Request

pub data Reply : Type 0 where
  -- Begin
  Begun : (start : ℕ) → Reply
  -- Get
  Answered : (answer : Option Value) → Reply
  Pending : (start : ℕ) → Reply
  -- Set
  SetDone : Reply
  -- Delete
  DeleteDone : Reply
  -- ScanFrom
  Scanned : (items : List (Cell × Item)) (reach : Reach) → Reply
  -- Advance
  Held : (place count : ℕ) → Reply
  Conflict : (place : ℕ) → Reply
  Drawn : (stamp : ℕ) → Reply
  Committed : (stamp : ℕ) → Reply
  Lost : Reply
  Finished : (place count : ℕ) → Reply
  -- Stop
  StopDone : Reply
  -- CleanBegin
  NoLock : Reply
  Cleaning : (number start : ℕ) → Reply
  -- CleanStep
  Decided : Reply
  RolledForward : (stamp : ℕ) → Reply
  RolledBack : Reply
  Gone : Reply
  -- CollectBegin
  Collecting : (number floor : ℕ) → Reply
  -- CollectStep
  More : Reply
  Blocked : (cell : Cell) (start : ℕ) → Reply
  Collected : Reply
  -- the others
  MinorDone : Reply
  MergeDone : Reply
  MajorDone : Reply
  SplitOff : (tablet : ℕ) → Reply
  MoveDone : Reply
  Swept : (count : ℕ) → Reply
  RestartDone : Reply
  RawFound : (found : Option (ℕ × Value)) → Reply
  CheckpointDone : Reply
  -- Status: a text of bytes
  Reported : (report : List ℕ) → Reply
  -- any request
  Refused : (refusal : Refusal) → Reply
