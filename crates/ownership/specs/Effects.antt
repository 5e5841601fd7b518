-- What an operation does to what is open.
use Rattle.std.specs.Prelude.{◌≡◌, ◌≢◌, ◌&&◌, not, true, false, Bool, Some}
use Rattle.std.specs.FinMap.{get}
use Rattle.si_model.specs.Machine.{State, IsReached}
use Rattle.si_model.specs.Messages as asks
use Rattle.si_model.specs.Transactions.{Operation, One, Answer, Said, Goes}
use Rattle.ownership.specs.Names.{name_of, gives, is_open}
use Rattle.ownership.specs.declared.names.Name.{Name}
use Rattle.ownership.specs.declared.names.Name.TheVariants.{Session, Cleaner, Collector}

-- What has this name is as it was: a session's phase and its writes, a cleaner, a collector's floor.
abbrev pub StaysAsItWas : State → State → Name → Type 0
StaysAsItWas st next (Session start) =
    (get next.active start ≡ get st.active start) × (get next.begun start ≡ get st.begun start)
StaysAsItWas st next (Cleaner number) = get next.cleaners number ≡ get st.cleaners number
StaysAsItWas st next (Collector number) = get next.collectors number ≡ get st.collectors number

-- reads and writes in a session don't end it
abbrev pub may_end : Operation → Bool
may_end (One (asks.Get start cell)) = false
may_end (One (asks.ScanFrom start range keys_only cells)) = false
may_end (One (asks.Set start cell value)) = false
may_end (One (asks.Delete start cell)) = false
may_end operation = true

-- a step that held a cell or drew its commit stamp doesn't end its session either
abbrev pub goes_further : Answer → Bool
goes_further (Said (asks.Held place count)) = true
goes_further (Said (asks.Drawn stamp)) = true
goes_further answer = false

-- an operation with this answer may have ended what it names
abbrev pub may_close : Operation → Answer → Bool
may_close operation answer = may_end operation && not (goes_further answer)

-- What an operation does to names. What is open and isn't named stays as it was. A name that the answer gives was
-- nobody's, and is open then; and nothing else begins to be open.
pub record TouchesItsOwn (st : State) (operation : Operation) (answer : Answer) (next : State)
    : Type 0 where
  pub others : (name : Name) → is_open st name ≡ true → name_of operation ≢ Some name
      → StaysAsItWas st next name
  pub was_new : (name : Name) → gives operation answer name ≡ true → is_open st name ≡ false
  pub is_there : (name : Name) → gives operation answer name ≡ true → is_open next name ≡ true
  pub only : (name : Name) → is_open st name ≡ false → is_open next name ≡ true
      → gives operation answer name ≡ true
  pub goes_on : (name : Name) → may_close operation answer ≡ false → is_open st name ≡ true
      → is_open next name ≡ true

abbrev pub EachTouchesItsOwn : Type 0
EachTouchesItsOwn =
    (st next : State) (operation : Operation) (answer : Answer) → IsReached st
    → Goes st operation answer next → TouchesItsOwn st operation answer next
