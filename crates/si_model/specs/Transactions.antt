-- Requests that stand for several of the machine's: a run of its steps with nothing between, and one answer.
use Rattle.std.specs.Prelude.{◌≡◌, ◌≢◌, ℕ, ◌+◌, ◌<◌, ◌≤◌, Bool, true, false, List, [], ◌∷◌, ◌++◌, length, Option, Some, None}
use Rattle.std.specs.FinMap.{get}
use Rattle.cell_key.specs.declared.refusals.Refusal.{Refusal}
use Rattle.cell_key.specs.declared.refusals.Refusal.TheVariants.{UnknownSession, WrongPhase, BadCount}
use Rattle.si_model.specs.Sets.{◌∈◌}
use Rattle.si_model.specs.Machine.{State, Value, Change, Writes, Phase, Open, Request, Begin, Get, Set, Delete, Advance, Stop, Item, Valued, Locked, Unsent, Reply, Begun, Answered, Pending, SetDone, DeleteDone, StopDone, Refused, InPhase, Wrote, Puts, Clashes, IsStorageRefusal, Refuses, Step}
use Rattle.si_model.specs.Replies.{progress_reply}
use Rattle.si_model.specs.Scans.{found_length}
use Rattle.si_model.specs.declared.replies.Cell.{Cell}
use Rattle.si_model.specs.declared.replies.Progress.{Progress}
use Rattle.si_model.specs.declared.replies.Progress.TheVariants as progress

-- ---- requests and answers

pub data Operation : Type 0 where
  -- one request of the machine
  One : (request : Request) → Operation
  -- a transaction: these writes and a commit, in the session of a start, or in a new one if the start is 0
  Commit : (start : ℕ) (writes : Writes) → Operation
  -- reads of these cells in such a session, which then stays open or ends
  Read : (start : ℕ) (cells : List Cell) (stays_open : Bool) → Operation

pub data Answer : Type 0 where
  -- the reply to the one request, or a refusal
  Said : (reply : Reply) → Answer
  -- the transaction began at the start and is committed at the stamp
  CommitDone : (start stamp : ℕ) → Answer
  -- the transaction began at the start, and the cell at this place of the session's writes is locked, or was written
  -- since; places count from 1
  CommitConflict : (start place : ℕ) → Answer
  -- the start of the session, and what it reads in each cell, as a scan would name it
  ReadDone : (start : ℕ) (said : List (Option Item)) → Answer

-- ---- the parts of a run

-- the session of the request: the one that is named, which is open, or one that begins
pub data Opens (st : State) : ℕ → ℕ → State → Type 0 where
  is_open : {s : ℕ} → InPhase st s Open → Opens st s s st
  begins : {s : ℕ} {next : State} → Step st Begin (Begun s) next → Opens st 0 s next

-- the Set or the Delete of a write, and its reply
abbrev pub request_of : ℕ → Cell → Change → Request
request_of s x (Some value) = Set s x value
request_of s x None = Delete s x

abbrev pub reply_of : Change → Reply
reply_of (Some value) = SetDone
reply_of None = DeleteDone

-- the session takes the writes, one after the other
pub data Buffers (s : ℕ) : State → Writes → State → Type 0 where
  all_taken : {st : State} → Buffers s st [] st
  takes : {st mid next : State} {x : Cell} {v : Change} {ws : Writes}
      → Step st (request_of s x v) (reply_of v) mid → Buffers s mid ws next
      → Buffers s st ((x, v) ∷ ws) next

-- the session takes steps, one after the other, none of which is refused
pub data Advances (s : ℕ) : State → List Progress → State → Type 0 where
  rests : {st : State} → Advances s st [] st
  advances : {st mid next : State} {p : Progress} {ps : List Progress}
      → Step st (Advance s) (progress_reply p) mid → Advances s mid ps next
      → Advances s st (p ∷ ps) next

-- no session that began at s is active
abbrev pub HasEnded : State → ℕ → Type 0
HasEnded st s = get st.active s ≡ None

-- the cell at this place of the session's writes clashes, and none before it does
abbrev pub ClashesFirst : State → ℕ → ℕ → Type 0
ClashesFirst st s place =
    (ws : Writes) × (k : ℕ) × (x : Cell) × (v : Change)
    × Wrote st s ws × Puts ws k x v × (place ≡ k + 1) × Clashes st x s
    × ((j : ℕ) (y : Cell) (w : Change) → j < k → Puts ws j y w → ¬ Clashes st y s)

-- ---- transactions

-- How far a transaction has come before its commit point, and its next request.
pub data ComesTo (st : State) : ℕ → Writes → State → Request → Type 0 where
  to_begin : {ws : Writes} → ComesTo st 0 ws st Begin
  to_write : {start s : ℕ} {before : Writes} {mid far : State} {ws : Writes} (x : Cell)
      (v : Change) (after : Writes) → ws ≡ before ++ (x, v) ∷ after → Opens st start s mid
      → Buffers s mid before far → ComesTo st start ws far (request_of s x v)
  -- its first step: a later one is refused only by the store
  to_step : {start s : ℕ} {ws : Writes} {mid written : State} → Opens st start s mid
      → Buffers s mid ws written → ComesTo st start ws written (Advance s)

-- The answers of a transaction in st, and the states to which they lead: what Begin, Sets and Deletes, and all steps
-- in a row may do.
pub data Transacts (st : State) (start : ℕ) (ws : Writes) : Answer → State → Type 0 where
  -- the session takes all its steps
  commits : {s c : ℕ} {ps : List Progress} {mid written next : State} → Opens st start s mid
      → Buffers s mid ws written → Advances s written ps next → progress.Committed c ∈ ps
      → HasEnded next s → Transacts st start ws (CommitDone s c) next
  -- a cell clashes: the session ends before it holds any
  conflicts : {s place : ℕ} {mid written next : State} → Opens st start s mid
      → Buffers s mid ws written → ClashesFirst written s place
      → Step written (Stop s) StopDone next → Transacts st start ws (CommitConflict s place) next
  -- a start whose session isn't open is refused as by a Set, even without writes
  is_unknown : start ≢ 0 → get st.active start ≡ None
      → Transacts st start ws (Said (Refused UnknownSession)) st
  is_late : {p : Phase} → start ≢ 0 → InPhase st start p → p ≢ Open
      → Transacts st start ws (Said (Refused WrongPhase)) st
  -- a refusal of the store may come at any time: all is as before
  gives_up : {n : Refusal} → IsStorageRefusal n → Transacts st start ws (Said (Refused n)) st
  -- one of its requests is refused: all is as before
  refuses : {q : Request} {far : State} {n : Refusal} → ComesTo st start ws far q
      → Refuses far q n → Transacts st start ws (Said (Refused n)) st

-- ---- reads

-- the most cells of one Read
abbrev pub most_read : ℕ
most_read = 256

-- Behind this many bytes of what it says of its cells no value is sent. The marks of 255 more cells and the reply's
-- other fields then fit into 1,048,576 bytes.
abbrev pub most_told : ℕ
most_told = 1046268

-- the bytes of what it says of a cell: one for the kind, and the content
abbrev pub told_length : Option Item → ℕ
told_length None = 1
told_length (Some item) = 1 + found_length item

abbrev pub told_lengths : List (Option Item) → ℕ
told_lengths [] = 0
told_lengths (said ∷ more) = told_length said + told_lengths more

-- What a Read says for the reply of a Get, after this many bytes: a value that doesn't fit isn't sent.
pub data IsTold (used : ℕ) : Reply → Option Item → Type 0 where
  has_nothing : IsTold used (Answered None) None
  is_sent : {value : Value} → used + told_length (Some (Valued value)) ≤ most_told
      → IsTold used (Answered (Some value)) (Some (Valued value))
  is_left_out : {value : Value} → most_told < used + told_length (Some (Valued value))
      → IsTold used (Answered (Some value)) (Some Unsent)
  is_blocked : {t : ℕ} → IsTold used (Pending t) (Some (Locked t))

-- the session reads the cells, one after the other, after this many bytes were said
pub data ReadsAll (s : ℕ) : ℕ → State → List Cell → List (Option Item) → State → Type 0 where
  all_read : {used : ℕ} {st : State} → ReadsAll s used st [] [] st
  finds : {used : ℕ} {st mid next : State} {x : Cell} {xs : List Cell} {said : Option Item}
      {more : List (Option Item)} (reply : Reply) → Step st (Get s x) reply mid
      → IsTold used reply said → ReadsAll s (used + told_length said) mid xs more next
      → ReadsAll s used st (x ∷ xs) (said ∷ more) next

-- the session stays open, or ends
abbrev pub StaysOrEnds : Bool → State → ℕ → State → Type 0
StaysOrEnds true st s next = next ≡ st
StaysOrEnds false st s next = Step st (Stop s) StopDone next

-- a Read names at least one cell, and at most 256
abbrev pub IsReadCount : ℕ → Type 0
IsReadCount n = (1 ≤ n) × (n ≤ most_read)

-- The answers of a Read in st, and the states to which they lead: what Begin, Gets and Stop in a row may do.
pub data ReadsTogether (st : State) (start : ℕ) (cells : List Cell) (stays_open : Bool)
    : Answer → State → Type 0 where
  -- the number of its cells is looked at first
  miscounts : ¬ IsReadCount (length cells)
      → ReadsTogether st start cells stays_open (Said (Refused BadCount)) st
  -- a refusal of the store may come at any time: all is as before
  gives_up_reads : {n : Refusal} → IsStorageRefusal n
      → ReadsTogether st start cells stays_open (Said (Refused n)) st
  reads : {s : ℕ} {said : List (Option Item)} {mid read next : State} → IsReadCount (length cells)
      → Opens st start s mid → ReadsAll s 0 mid cells said read
      → StaysOrEnds stays_open read s next
      → ReadsTogether st start cells stays_open (ReadDone s said) next
  -- Begin is refused
  refuses_begin : {n : Refusal} → IsReadCount (length cells) → start ≡ 0 → Refuses st Begin n
      → ReadsTogether st start cells stays_open (Said (Refused n)) st
  -- the Get of a cell is refused: all is as before
  refuses_read : {s : ℕ} {before : List Cell} {x : Cell} {said : List (Option Item)}
      {mid far : State} {n : Refusal} (after : List Cell) → IsReadCount (length cells)
      → cells ≡ before ++ x ∷ after → Opens st start s mid → ReadsAll s 0 mid before said far
      → Refuses far (Get s x) n → ReadsTogether st start cells stays_open (Said (Refused n)) st
  -- the session that is named isn't active, or isn't open
  names_unknown : IsReadCount (length cells) → start ≢ 0 → get st.active start ≡ None
      → ReadsTogether st start cells stays_open (Said (Refused UnknownSession)) st
  names_late : {p : Phase} → IsReadCount (length cells) → start ≢ 0 → InPhase st start p → p ≢ Open
      → ReadsTogether st start cells stays_open (Said (Refused WrongPhase)) st

-- ---- all requests

-- From st a request may be answered so, and leads to a state.
pub data Goes (st : State) : Operation → Answer → State → Type 0 where
  steps : {q : Request} {r : Reply} {next : State} → Step st q r next
      → Goes st (One q) (Said r) next
  transacts : {start : ℕ} {ws : Writes} {a : Answer} {next : State}
      → Transacts st start ws a next → Goes st (Commit start ws) a next
  reads_together : {start : ℕ} {cells : List Cell} {stays_open : Bool} {a : Answer} {next : State}
      → ReadsTogether st start cells stays_open a next
      → Goes st (Read start cells stays_open) a next
