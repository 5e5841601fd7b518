-- Tables of owners: which client's each name is.
use Rattle.std.specs.Prelude.{◌≡◌, ℕ, Bool, true, false, ◌&&◌, ◌||◌, not, List, [], Option, None, Some, nat_eq, nat_le, unwrap_or, vec_len, vec_capacity, ◌<◌, ◌+◌, if◌then◌else◌, ⊤}
use Rattle.cell_key.specs.declared.refusals.Refusal.{Refusal}
use Rattle.cell_key.specs.declared.refusals.Refusal.TheVariants.{BadRequest, TooManySessions, UnknownSession, UnknownCleaner, UnknownCollector}
use Rattle.si_model.specs.Machine.{State}
use Rattle.si_model.specs.Messages as asks
use Rattle.si_model.specs.Transactions.{Operation, One, Answer}
use Rattle.ownership.specs.Names.{name_of, given_kind, gives, is_open, is_session}
use Rattle.ownership.specs.declared.names.Kind.{Kind}
use Rattle.ownership.specs.declared.names.Kind.TheVariants as kinds
use Rattle.ownership.specs.declared.names.Name.{Name}
use Rattle.ownership.specs.declared.names.Name.TheVariants.{Session, Cleaner, Collector}
use Rattle.ownership.specs.declared.holdings.Holding.{Holding}
use Rattle.ownership.specs.Lists.{IsInOrder, holds, held_by}
use Rattle.ownership.specs.declared.holdings.Holdings.{Holdings}
use Rattle.ownership.specs.declared.owners.Owners.{Owners}

-- ---- a table

-- the sessions, cleaners and collectors that clients have
pub record Table : Type 0 where
  pub sessions : List Holding
  pub cleaners : List Holding
  pub collectors : List Holding

abbrev pub table_of : Owners → Table
table_of owners = record {
  sessions = owners.sessions.list.items;
  cleaners = owners.cleaners.list.items;
  collectors = owners.collectors.list.items;
}

-- nobody has anything
abbrev pub nobodys : Table
nobodys = record { sessions = []; cleaners = []; collectors = [] }

-- each of its lists is in order, so that no name stands there twice
pub record IsOrdered (table : Table) : Type 0 where
  pub sessions : IsInOrder table.sessions
  pub cleaners : IsInOrder table.cleaners
  pub collectors : IsInOrder table.collectors

-- a list has room for one more
abbrev pub HasRoomIn : Holdings → Type 0
HasRoomIn holdings = vec_len holdings.list < vec_capacity holdings.list

-- there is room for one more name of this kind, if there is a kind
abbrev pub HasRoom : Owners → Option Kind → Type 0
HasRoom owners None = ⊤
HasRoom owners (Some kinds.Session) = HasRoomIn owners.sessions
HasRoom owners (Some kinds.Cleaner) = HasRoomIn owners.cleaners
HasRoom owners (Some kinds.Collector) = HasRoomIn owners.collectors

-- each list that had room has room
pub record KeepsRoom (old new : Owners) : Type 0 where
  pub sessions : HasRoomIn old.sessions → HasRoomIn new.sessions
  pub cleaners : HasRoomIn old.cleaners → HasRoomIn new.cleaners
  pub collectors : HasRoomIn old.collectors → HasRoomIn new.collectors

-- how many names are a client's
abbrev pub held_in : Table → ℕ → ℕ
held_in table client =
    held_by client table.sessions + held_by client table.cleaners
    + held_by client table.collectors

-- the name is this client's
abbrev pub owns : Table → ℕ → Name → Bool
owns table client (Session start) = holds table.sessions client start
owns table client (Cleaner number) = holds table.cleaners client number
owns table client (Collector number) = holds table.collectors client number

-- exactly what is open is a client's, and of one client
pub record Knows (table : Table) (st : State) : Type 0 where
  pub owned : (name : Name) → is_open st name ≡ true
      → (client : ℕ) × (owns table client name ≡ true)
  pub is_there : (client : ℕ) (name : Name) → owns table client name ≡ true → is_open st name ≡ true
  pub one : (a b : ℕ) (name : Name) → owns table a name ≡ true → owns table b name ≡ true → a ≡ b

-- ---- what a client may ask

-- what only the administrator may ask: upkeep, and a Raw, which shows what isn't committed
abbrev pub is_upkeep : Operation → Bool
is_upkeep (One (asks.Minor tablet)) = true
is_upkeep (One (asks.Merge tablet count)) = true
is_upkeep (One (asks.Major tablet)) = true
is_upkeep (One (asks.Split row)) = true
is_upkeep (One (asks.Move tablet server)) = true
is_upkeep (One asks.Sweep) = true
is_upkeep (One asks.OracleRestart) = true
is_upkeep (One (asks.Raw cell qualifier low high)) = true
is_upkeep (One asks.Checkpoint) = true
is_upkeep operation = false

-- without an administrator each client may ask all
abbrev pub may_ask : Option ℕ → ℕ → Operation → Bool
may_ask None client operation = true
may_ask (Some admin) client operation = nat_eq admin client || not (is_upkeep operation)

-- the most sessions, cleaners and collectors of a client
abbrev pub most_sessions_each : ℕ
most_sessions_each = 64

abbrev pub most_cleaners_each : ℕ
most_cleaners_each = 64

abbrev pub most_collectors_each : ℕ
most_collectors_each = 4

-- the client has as many as it may of this kind, if there is a kind
abbrev pub has_most : Table → ℕ → Option Kind → Bool
has_most table client None = false
has_most table client (Some kinds.Session) =
    nat_le most_sessions_each (held_by client table.sessions)
has_most table client (Some kinds.Cleaner) =
    nat_le most_cleaners_each (held_by client table.cleaners)
has_most table client (Some kinds.Collector) =
    nat_le most_collectors_each (held_by client table.collectors)

-- the client has as many as it may, of what the operation would give
abbrev pub is_full : Table → ℕ → Operation → Bool
is_full table client operation = has_most table client (given_kind operation)

-- a name of nothing
abbrev pub unknown : Name → Refusal
unknown (Session start) = UnknownSession
unknown (Cleaner number) = UnknownCleaner
unknown (Collector number) = UnknownCollector

-- a name that isn't the client's is refused as one that is nobody's
abbrev pub name_refusal : Table → ℕ → Option Name → Option Refusal
name_refusal table client None = None
name_refusal table client (Some name) =
    if owns table client name then None else Some (unknown name)

-- The refusal of a client's operation, if it is refused without the machine.
abbrev pub refusal_for : Option ℕ → Table → ℕ → Operation → Option Refusal
refusal_for admin table client operation =
    if not (may_ask admin client operation) then Some BadRequest
    else (if is_full table client operation then Some TooManySessions
    else name_refusal table client (name_of operation))

-- ---- what changes

-- What is a client's after an answer to a client: what was its or was given to it, and is open.
abbrev pub owned_after : Table → ℕ → Operation → Answer → State → ℕ → Name → Bool
owned_after table asker operation answer next client name =
    is_open next name
    && (owns table client name || (nat_eq asker client && gives operation answer name))

-- what takes over the cleaners and collectors of a client that is gone: the administrator, or else client 0
abbrev pub heir_of : Option ℕ → ℕ
heir_of admin = unwrap_or admin 0

-- What is a client's after the end of one: what was its, except that the one that is gone has nothing, and the heir
-- has its cleaners and collectors.
abbrev pub owned_without : ℕ → Table → ℕ → ℕ → Name → Bool
owned_without heir table gone client name =
    (owns table client name && not (nat_eq gone client))
    || (nat_eq heir client && owns table gone name && not (is_session name))
