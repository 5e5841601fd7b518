-- Frames of clients, over a machine that knows none: the steps that each takes, and what is whose after it.
use Rattle.std.specs.Prelude.{◌≡◌, ◌⊎◌, ℕ, true, false, ◌&&◌, List, [], ◌∷◌, Option, None, Some, is_some}
use Rattle.std.specs.List.{AllByRecursion}
use Rattle.cell_key.specs.declared.refusals.Refusal.{Refusal}
use Rattle.cell_key.specs.declared.refusals.Refusal.TheVariants.{BadRequest, FrameTooLarge, NoMemory}
use Rattle.si_model.specs.Machine.{State, Stop, StopDone, Refused}
use Rattle.si_model.specs.Sets.{◌∈◌}
use Rattle.si_model.specs.Transactions.{Operation, One, Answer, Said, Goes}
use Rattle.request_codec.specs.Operations.{HasCells}
use Rattle.ownership.specs.Names.{given_kind, is_open}
use Rattle.ownership.specs.Tables.{Table, IsOrdered, owns, refusal_for, owned_after, owned_without, heir_of}
use Rattle.ownership.specs.declared.names.Name.{Name}
use Rattle.ownership.specs.declared.names.Name.TheVariants.{Session}

-- what a frame says
pub data Frame : Type 0 where
  -- a client asks for an operation
  Asks : (client : ℕ) (operation : Operation) → Frame
  -- a client is gone
  Leaves : (client : ℕ) → Frame
  -- a client sends what is no operation
  Malformed : (client : ℕ) → Frame
  -- there is no client's number
  NoClient : Frame
  -- a length past the limit
  TooLarge : Frame

-- One step of the machine, after which each name is whose it is to be.
pub record Turn (st : State) (table : Table) (client : ℕ) (operation : Operation) (answer : Answer)
    (next : State) (table' : Table) : Type 0 where
  pub goes : Goes st operation answer next
  pub noted : (other : ℕ) (name : Name)
      → owns table' other name ≡ owned_after table client operation answer next other name
  pub ordered : IsOrdered table'

-- Stops of these sessions, one after the other, none of which is refused: a run of the machine.
pub data Stops : State → List ℕ → State → Type 0 where
  none : {st : State} → Stops st [] st
  one_more : {st mid next : State} {start : ℕ} {starts : List ℕ}
      → Goes st (One (Stop start)) (Said StopDone) mid → Stops mid starts next
      → Stops st (start ∷ starts) next

-- Some sessions of a client were stopped, and are nobody's.
pub record StopsSome (client : ℕ) (st : State) (table : Table) (next : State) (table' : Table)
    : Type 0 where
  pub starts : List ℕ
  pub stopped : Stops st starts next
  pub its : AllByRecursion (λ (start : ℕ). owns table client (Session start) ≡ true) starts
  pub each : (start : ℕ) → owns table client (Session start) ≡ true
      → owns table' client (Session start) ≡ false → start ∈ starts
  pub kept : (other : ℕ) (name : Name)
      → owns table' other name ≡ (is_open next name && owns table other name)

-- The end of a client: all its sessions were stopped, and its cleaners and collectors passed to the heir.
pub record Ends (heir : ℕ) (st : State) (table : Table) (client : ℕ) (next : State) (table' : Table)
    : Type 0 where
  pub starts : List ℕ
  pub stopped : Stops st starts next
  pub its : AllByRecursion (λ (start : ℕ). owns table client (Session start) ≡ true) starts
  pub each : (start : ℕ) → owns table client (Session start) ≡ true → start ∈ starts
  pub noted : (other : ℕ) (name : Name)
      → owns table' other name ≡ owned_without heir table client other name
  pub ordered : IsOrdered table'

-- Memory is taken before the machine is asked: for the cells of the operation, or for a name that its answer may give.
abbrev pub TakesMemory : Operation → Type 0
TakesMemory operation = HasCells operation ⊎ (is_some (given_kind operation) ≡ true)

-- What a frame may be answered, to whom, and what it leads to: no step of the machine, one step, or the Stops of an
-- end. Client 0 is nobody.
pub data Handles (admin : Option ℕ) (st : State) (table : Table)
    : Frame → ℕ → Answer → State → Table → Type 0 where
  turns : {client : ℕ} {operation : Operation} {answer : Answer} {next : State} {table' : Table}
      → refusal_for admin table client operation ≡ None
      → Turn st table client operation answer next table'
      → Handles admin st table (Asks client operation) client answer next table'
  refuses : {client : ℕ} {operation : Operation} {refusal : Refusal}
      → refusal_for admin table client operation ≡ Some refusal
      → Handles admin st table (Asks client operation) client (Said (Refused refusal)) st table
  lacks_memory : {client : ℕ} {operation : Operation} → TakesMemory operation
      → Handles admin st table (Asks client operation) client (Said (Refused NoMemory)) st table
  leaves : {client : ℕ} {next : State} {table' : Table}
      → Ends (heir_of admin) st table client next table'
      → Handles admin st table (Leaves client) client (Said StopDone) next table'
  is_malformed : {client : ℕ}
      → Handles admin st table (Malformed client) client (Said (Refused BadRequest)) st table
  has_no_client : Handles admin st table NoClient 0 (Said (Refused BadRequest)) st table
  is_too_large : Handles admin st table TooLarge 0 (Said (Refused FrameTooLarge)) st table

-- a frame, the client that it is answered to, and the answer
pub record Exchange : Type 0 where
  pub frame : Frame
  pub to : ℕ
  pub answer : Answer

-- one frame after the other
abbrev pub HandlesAll : Option ℕ → State → Table → List Exchange → State → Table → Type 0
HandlesAll admin st table [] next table' = (next ≡ st) × (table' ≡ table)
HandlesAll admin st table (x ∷ more) next table' =
    (mid : State) × (middle : Table) × Handles admin st table x.frame x.to x.answer mid middle
    × HandlesAll admin mid middle more next table'
