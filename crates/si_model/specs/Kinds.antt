-- The kinds of requests, and which part of a state each kind changes.
use Rattle.std.specs.Prelude.{◌≡◌, ◌≢◌}
use Rattle.si_model.specs.State.{State}
use Rattle.si_model.specs.Machine.{Step}
use Rattle.si_model.specs.Messages.{Request, Reply, Begin, Get, Set, Delete, ScanFrom, Advance, Stop, CleanBegin, CleanStep, CollectBegin, CollectStep, Minor, Merge, Major, Split, Move, Sweep, OracleRestart, Raw, Checkpoint, Status}

-- the subject of a request: sessions, cleaners, collectors, the places of tablets, or none of these
pub data Kind : Type 0 where
  OfSessions : Kind
  OfCleaners : Kind
  OfCollectors : Kind
  OfPlaces : Kind
  OfStorage : Kind

abbrev pub kind_of : Request → Kind
kind_of Begin = OfSessions
kind_of (Get start cell) = OfSessions
kind_of (Set start cell value) = OfSessions
kind_of (Delete start cell) = OfSessions
kind_of (ScanFrom start range keys_only cells) = OfSessions
kind_of (Advance start) = OfSessions
kind_of (Stop start) = OfSessions
kind_of (CleanBegin cell) = OfCleaners
kind_of (CleanStep number) = OfCleaners
kind_of CollectBegin = OfCollectors
kind_of (CollectStep number visits) = OfCollectors
kind_of (Split row) = OfPlaces
kind_of (Move tablet server) = OfPlaces
kind_of (Minor tablet) = OfStorage
kind_of (Merge tablet count) = OfStorage
kind_of (Major tablet) = OfStorage
kind_of Sweep = OfStorage
kind_of OracleRestart = OfStorage
kind_of (Raw cell qualifier low high) = OfStorage
kind_of Checkpoint = OfStorage
kind_of (Status tablet) = OfStorage

-- the same stamps, sessions, commits and answers
pub record SameSessions (st next : State) : Type 0 where
  pub top : next.top ≡ st.top
  pub begun : next.begun ≡ st.begun
  pub active : next.active ≡ st.active
  pub commits : next.commits ≡ st.commits
  pub reads : next.reads ≡ st.reads
  pub scans : next.scans ≡ st.scans

-- the same open cleaners and rolled-back starts
pub record SameCleaners (st next : State) : Type 0 where
  pub cleaners : next.cleaners ≡ st.cleaners
  pub next_cleaner : next.next_cleaner ≡ st.next_cleaner
  pub dead : next.dead ≡ st.dead

-- the same open collectors and floor
pub record SameCollectors (st next : State) : Type 0 where
  pub collectors : next.collectors ≡ st.collectors
  pub next_collector : next.next_collector ≡ st.next_collector
  pub floor : next.floor ≡ st.floor

-- the same tablets at the same places
pub record SamePlaces (st next : State) : Type 0 where
  pub places : next.places ≡ st.places
  pub next_tablet : next.next_tablet ≡ st.next_tablet

-- A request of one kind leaves the parts of all other kinds unchanged. Marks belong to sessions and to cleaners.
pub record LeavesOthers (kind : Kind) (st next : State) : Type 0 where
  pub sessions : kind ≢ OfSessions → SameSessions st next
  pub cleaners : kind ≢ OfCleaners → SameCleaners st next
  pub collectors : kind ≢ OfCollectors → SameCollectors st next
  pub places : kind ≢ OfPlaces → SamePlaces st next
  pub marks : kind ≢ OfSessions → kind ≢ OfCleaners → next.marks ≡ st.marks

-- each request leaves the parts of other kinds unchanged
abbrev pub EachLeavesOthers : Type 0
EachLeavesOthers =
    (st next : State) (q : Request) (r : Reply) → Step st q r next
    → LeavesOthers (kind_of q) st next
