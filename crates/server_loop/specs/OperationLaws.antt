-- What an operation that stands for several requests leaves to cleaners, to collectors and to the tablets' places.
use Rattle.std.specs.Prelude.{◌≡◌, ℕ, ⊤}
use Rattle.cell_key.specs.Cells.{Cells}
use Rattle.clean_up.specs.Shows.{ShowsCleaners}
use Rattle.clean_up.specs.declared.cleaners.Cleaners.{Cleaners}
use Rattle.si_model.specs.Machine.{IsReached, State, Writes}
use Rattle.si_model.specs.PutCells.{all_put_cells}
use Rattle.si_model.specs.ShowsCells.{ShowsCells}
use Rattle.si_model.specs.Transactions.{Answer, CommitDone, Goes, Operation, One, Commit, Read}
use Rattle.version_collector.specs.Shows.{ShowsCollectors}
use Rattle.version_collector.specs.declared.collectors.Collectors.{Collectors}

-- it stands for several of the machine's requests: it is a Commit or a Read
abbrev pub StandsForSeveral : Operation → Type 0
StandsForSeveral (One request) = ⊥
StandsForSeveral (Commit start writes) = ⊤
StandsForSeveral (Read start cells stays_open) = ⊤

-- the same tablets at the same places, the same floor, and cleaners show the state after it if they showed the one before it
pub record KeepsPlacesAndCleaners (st next : State) : Type 0 where
  pub places : next.places ≡ st.places
  pub next_tablet : next.next_tablet ≡ st.next_tablet
  pub floor : next.floor ≡ st.floor
  pub cleaners : (cleaners : Cleaners) → ShowsCleaners cleaners st → ShowsCleaners cleaners next

-- an operation that stands for several requests, from a reached state, leaves places and cleaners unchanged
abbrev pub OperationsLeaveOthers : Type 0
OperationsLeaveOthers =
    (st next : State) (operation : Operation) (answer : Answer) → IsReached st
    → StandsForSeveral operation → Goes st operation answer next → KeepsPlacesAndCleaners st next

-- collectors show the state after it if they showed the one before it, over the same cells
abbrev pub OperationsKeepCollectors : Type 0
OperationsKeepCollectors =
    (cells : Cells) (collectors : Collectors) (st next : State) (operation : Operation)
    (answer : Answer) → IsReached st → StandsForSeveral operation
    → Goes st operation answer next → ShowsCollectors cells collectors st
    → ShowsCollectors cells collectors next

-- The same of a commit, over the cells into which data and records of any writes were put: data at the session's start,
-- which no open collector's floor is above, and records at the commit stamp, which no record had.
abbrev pub CommitsKeepCollectors : Type 0
CommitsKeepCollectors =
    (cells : Cells) (collectors : Collectors) (st next : State) (start s c : ℕ)
    (ws all : Writes) → IsReached st → ShowsCells cells st
    → Goes st (Commit start ws) (CommitDone s c) next → ShowsCollectors cells collectors st
    → ShowsCollectors (all_put_cells cells all s c) collectors next
