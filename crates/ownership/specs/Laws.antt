-- What clients can rely on: each its own.
use Rattle.std.specs.Prelude.{◌≡◌, ◌≢◌, ◌⊎◌, ⊤, ℕ, Bool, true, false, List, Option, Some}
use Rattle.std.specs.List.{AllByRecursion}
use Rattle.cell_key.specs.declared.refusals.Refusal.{Refusal}
use Rattle.cell_key.specs.declared.refusals.Refusal.TheVariants.{UnknownSession, UnknownCleaner, UnknownCollector}
use Rattle.si_model.specs.Machine.{State, Writes, IsReached, Request, Refused, Applies}
use Rattle.si_model.specs.Sets.{◌∈◌}
use Rattle.si_model.specs.Transactions.{Operation, One, Commit, Read, Answer, Said}
use Rattle.si_model.specs.declared.replies.Cell.{Cell}
use Rattle.ownership.specs.Effects.{StaysAsItWas}
use Rattle.ownership.specs.Names.{gives, is_open, is_session, name_of}
use Rattle.ownership.specs.Tables.{Knows, Table, heir_of, owns}
use Rattle.ownership.specs.Turns.{Asks, Leaves, Frame, Exchange, Handles, HandlesAll}
use Rattle.ownership.specs.declared.names.Name.{Name}
use Rattle.ownership.specs.declared.names.Name.TheVariants.{Session, Cleaner, Collector}

abbrev pub IsRefused : Answer → Type 0
IsRefused answer = (refusal : Refusal) × (answer ≡ Said (Refused refusal))

-- a frame of this client was answered with a name
abbrev pub WasGiven : List Exchange → ℕ → Name → Type 0
WasGiven xs client name =
    (x : Exchange) × (operation : Operation) × (x ∈ xs) × (x.frame ≡ Asks client operation)
    × (x.to ≡ client) × (gives operation x.answer name ≡ true)

-- a client had the name, or was given it, and left it: that client is gone, and the name is no session's
abbrev pub WasLeft : Table → List Exchange → Name → Type 0
WasLeft table xs name =
    (gone : ℕ) × (x : Exchange) × (x ∈ xs) × (x.frame ≡ Leaves gone) × (is_session name ≡ false)
    × ((owns table gone name ≡ true) ⊎ WasGiven xs gone name)

-- it is no frame of the client
abbrev pub IsOfAnother : ℕ → Frame → Type 0
IsOfAnother client (Asks other operation) = other ≢ client
IsOfAnother client (Leaves other) = other ≢ client
IsOfAnother client frame = Unit {0}

-- what is refused for the lack of a session, a cleaner or a collector names one
abbrev pub NamesWhatIsUnknown : Refusal → Option Name → Type 0
NamesWhatIsUnknown UnknownSession name = (start : ℕ) × (name ≡ Some (Session start))
NamesWhatIsUnknown UnknownCleaner name = (number : ℕ) × (name ≡ Some (Cleaner number))
NamesWhatIsUnknown UnknownCollector name = (number : ℕ) × (name ≡ Some (Collector number))
NamesWhatIsUnknown refusal name = ⊤

-- Named: each operation names what it needs to be open.
pub record EachNamesWhatItNeeds : Type 0 where
  pub requests : (st : State) (request : Request) (refusal : Refusal) → Applies st request refusal
      → NamesWhatIsUnknown refusal (name_of (One request))
  pub commits : (start : ℕ) (writes : Writes) → start ≢ 0
      → name_of (Commit start writes) ≡ Some (Session start)
  pub reads : (start : ℕ) (cells : List Cell) (stays_open : Bool) → start ≢ 0
      → name_of (Read start cells stays_open) ≡ Some (Session start)

-- Exactly what is open has an owner, after each frame; and the state is reached.
abbrev pub StaysKnown : Type 0
StaysKnown =
    (admin : Option ℕ) (st next : State) (table table' : Table) (xs : List Exchange)
    → IsReached st → Knows table st → HandlesAll admin st table xs next table'
    → IsReached next × Knows table' next

-- Own: what names another's is refused, and changes nothing.
abbrev pub OthersAreRefused : Type 0
OthersAreRefused =
    (admin : Option ℕ) (st next : State) (table table' : Table) (client to : ℕ)
    (operation : Operation) (answer : Answer) (name : Name)
    → Handles admin st table (Asks client operation) to answer next table'
    → name_of operation ≡ Some name → owns table client name ≡ false
    → (next ≡ st) × (table' ≡ table) × (to ≡ client) × IsRefused answer

-- Own: what is a client's was its before, or was given to it by an answer. The heir also has what others left.
abbrev pub EachWasGiven : Type 0
EachWasGiven =
    (admin : Option ℕ) (st next : State) (table table' : Table) (xs : List Exchange)
    (client : ℕ) (name : Name)
    → HandlesAll admin st table xs next table' → owns table' client name ≡ true
    → (owns table client name ≡ true)
    ⊎ (WasGiven xs client name ⊎ ((client ≡ heir_of admin) × WasLeft table xs name))

-- Alone: nobody else's frames touch what is a client's. It stays as it was, and the client's.
abbrev pub IsLeftAlone : Type 0
IsLeftAlone =
    (admin : Option ℕ) (st next : State) (table table' : Table) (xs : List Exchange)
    (client : ℕ) (name : Name)
    → IsReached st → Knows table st → HandlesAll admin st table xs next table'
    → AllByRecursion (λ (x : Exchange). IsOfAnother client x.frame) xs
    → owns table client name ≡ true
    → StaysAsItWas st next name × (owns table' client name ≡ true)

-- Gone: after its end no session is the client's, and each that was is closed; and unless it is the heir, nothing is
-- the client's.
abbrev pub IsGone : Type 0
IsGone =
    (admin : Option ℕ) (st next : State) (table table' : Table) (client to : ℕ)
    (answer : Answer) (name : Name)
    → IsReached st → Knows table st
    → Handles admin st table (Leaves client) to answer next table'
    → ((client ≢ heir_of admin) ⊎ (is_session name ≡ true))
    → (owns table' client name ≡ false)
    × (owns table client name ≡ true → is_session name ≡ true → is_open next name ≡ false)
