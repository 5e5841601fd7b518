-- When the collectors show a state of the snapshot machine.
use Rattle.std.specs.Prelude.{◌≡◌, ◌≢◌, ⊤, ℕ, ◌+◌, ◌<◌, ◌≤◌, max, Bool, true, false, Option, Some, None, Result, Ok, Err}
use Rattle.std.specs.Ordering.{nat_cmp}
use Rattle.std.specs.BTreeMap as btree
use Rattle.std.specs.FinMap as finmap
use Rattle.cell_key.specs.Cells.{Cells}
use Rattle.cell_key.specs.declared.refusals.Refusal.{Refusal}
use Rattle.cell_key.specs.declared.refusals.Refusal.TheVariants.{UnknownCollector, BadCount}
use Rattle.rows.specs.Calls.{AreReadableFrom, OnlyReads, View}
use Rattle.si_model.specs.Collection.{ChangesCells}
use Rattle.si_model.specs.Kinds.{OfCollectors, kind_of}
use Rattle.si_model.specs.Machine.{State, Request, Reply, CollectBegin, Step, IsAcceptable, Refuses, end_of_stamps, most_visits}
use Rattle.si_model.specs.Servers.{IsReachedByServers}
use Rattle.si_model.specs.ShowsCells.{ShowsCells}
use Rattle.si_model.specs.declared.replies.CollectReply.{CollectReply}
use Rattle.si_model.specs.declared.replies.CollectReply.TheVariants.{Collected}
use Rattle.version_collector.specs.Visits.{Comes, HasVisited, IsTold, read_from}
use Rattle.version_collector.specs.declared.collector.Collector.{Collector}
use Rattle.version_collector.specs.declared.collector.Pass.TheVariants.{First}
use Rattle.version_collector.specs.declared.collectors.Collectors.{Collectors}

-- the collector with this number is this one, and its progress is as it says
pub record ShowsCollector (cells : Cells) (c : Collector) (i : ℕ) (st : State) : Type 0 where
  pub kept : finmap.get st.collectors i ≡ Some c.floor
  pub come : Comes cells st c

-- the entry at a number is the collector with this number, if one is open
abbrev pub ShowsAt : Cells → Option Collector → ℕ → State → Type 0
ShowsAt cells None i st = finmap.get st.collectors i ≡ None
ShowsAt cells (Some c) i st = ShowsCollector cells c i st

-- how many collectors are stored
abbrev pub collector_count : Collectors → ℕ
collector_count collectors = btree.btree_map_len collectors.collectors

-- The stored collectors are the open ones, and the next number is the machine's. The greatest floor is at most the
-- machine's: other servers may begin collectors, too.
pub record ShowsCollectors (cells : Cells) (collectors : Collectors) (st : State) : Type 0 where
  pub next : collectors.next ≡ st.next_collector
  pub floor : collectors.greatest_floor ≤ st.floor
  pub each : (i : ℕ) → ShowsAt cells (btree.get nat_cmp collectors.collectors i) i st
  pub count : finmap.len st.collectors ≡ collector_count collectors

-- the greatest floor is the machine's: no other server has begun a collector with a greater one
abbrev pub KnowsFloor : Collectors → State → Type 0
KnowsFloor collectors st = collectors.greatest_floor ≡ st.floor

-- From each reached state that is shown before, the machine may give this reply, and goes to a state that is shown
-- after. If the greatest floor was the machine's, it is that after it.
abbrev pub Steps : Cells → Collectors → Request → Reply → Cells → Collectors → Type 0
Steps cells collectors request reply cells' collectors' =
    (st : State) → IsReachedByServers st → ShowsCells cells st → ShowsCollectors cells collectors st
    → (next : State) × Step st request reply next × ShowsCells cells' next
    × ShowsCollectors cells' collectors' next
    × (KnowsFloor collectors st → KnowsFloor collectors' next)

-- it holds in each reached state that cells and collectors show
abbrev pub InEachShown : Cells → Collectors → (State → Type 0) → Type 0
InEachShown cells collectors IsSo =
    (st : State) → IsReachedByServers st → ShowsCells cells st → ShowsCollectors cells collectors st
    → IsSo st

-- From this state, shown before, the machine may give this reply to a CollectBegin, and goes to a state that is shown
-- after. If the greatest floor was the machine's, it is that after it.
abbrev pub Begins : Cells → Collectors → Collectors → Reply → State → Type 0
Begins cells collectors collectors' reply st =
    (next : State) × Step st CollectBegin reply next × ShowsCells cells next
    × ShowsCollectors cells collectors' next
    × (KnowsFloor collectors st → KnowsFloor collectors' next)

-- the state after a collector with this floor has begun
abbrev pub with_collector : State → ℕ → State
with_collector st floor =
    record st {
      collectors = finmap.insert st.collectors st.next_collector floor;
      next_collector = st.next_collector + 1;
      floor = max st.floor floor;
    }

-- Whatever the floor, a collector has begun with it and with the machine's next number, and the state with it is shown.
-- If the request is refused, it is refused by the machine, and the state is shown as before.
abbrev pub BeginsWith : Cells → Collectors → ℕ → Result ℕ Refusal → State → Type 0
BeginsWith cells collectors' floor (Ok number) st =
    IsAcceptable st CollectBegin × (number ≡ st.next_collector) × (number < end_of_stamps)
    × ShowsCells cells (with_collector st floor)
    × ShowsCollectors cells collectors' (with_collector st floor)
BeginsWith cells collectors' floor (Err refusal) st =
    Refuses st CollectBegin refusal × ShowsCollectors cells collectors' st

-- the collector stored at this number
abbrev pub kept_at : Collectors → ℕ → Option Collector
kept_at collectors i = btree.get nat_cmp collectors.collectors i

-- the entry of a collector after a step: it is closed if all is collected
abbrev pub kept_after : Result CollectReply Refusal → Collector → Option Collector
kept_after (Ok Collected) c = None
kept_after result c = Some c

-- The collector with this number has made visits for a request of n, and the stored collector is the one after them.
abbrev pub VisitsAt : ℕ → ℕ → Result CollectReply Refusal → Cells → Collectors → Cells → Collectors
    → Type 0
VisitsAt i n result cells old cells' new = (c : Collector) → kept_at old i ≡ Some c
    → (c' : Collector) × HasVisited n result cells c cells' c'
    × (kept_at new i ≡ kept_after result c')

-- and its answer is true
abbrev pub TellsAt : ℕ → ℕ → CollectReply → Cells → Collectors → Cells → Collectors → State → Type 0
TellsAt i n reply cells old cells' new st =
    (c c' : Collector) → kept_at old i ≡ Some c → kept_at new i ≡ kept_after (Ok reply) c'
    → IsTold n reply cells c cells' c' st

-- The rows that the visits of a step read are readable. After the visits, the collector with this number is at the
-- place where the last of them began.
abbrev pub IsStepReadable : {R : Type 0} → View R → R → Collectors → Collectors → ℕ → Type 0
IsStepReadable seen rows old new i =
    (c c' : Collector) → kept_at old i ≡ Some c → kept_at new i ≡ Some c'
    → AreReadableFrom seen rows (read_from c c')

-- only the collector with this number changes, and none begins
pub record ChangesOne (i : ℕ) (old new : Collectors) : Type 0 where
  pub next : new.next ≡ old.next
  pub floor : new.greatest_floor ≡ old.greatest_floor
  pub others : (j : ℕ) → j ≢ i → kept_at new j ≡ kept_at old j

-- a collector begins with this floor and the next number, and all others are unchanged
pub record Opens (floor i : ℕ) (old new : Collectors) : Type 0 where
  pub number : i ≡ old.next
  pub next : new.next ≡ i + 1
  pub greatest : new.greatest_floor ≡ max old.greatest_floor floor
  pub kept : kept_at new i
      ≡ Some (record { floor = floor; pass = First; after = None; within = None })
  pub others : (j : ℕ) → j ≢ i → kept_at new j ≡ kept_at old j

-- whether a reply closes the collector
abbrev pub is_last : CollectReply → Bool
is_last Collected = true
is_last _ = false

-- a permitted number of visits
abbrev pub IsCount : ℕ → Type 0
IsCount n = (1 ≤ n) × (n ≤ most_visits)

-- refusals before any visit
abbrev pub IsEarlyRefusal : Refusal → Type 0
IsEarlyRefusal UnknownCollector = ⊤
IsEarlyRefusal BadCount = ⊤
IsEarlyRefusal _ = ⊥

-- the same collectors, the same next number and the same greatest floor
pub record SameCollectors (old new : Collectors) : Type 0 where
  pub next : new.next ≡ old.next
  pub floor : new.greatest_floor ≡ old.greatest_floor
  pub each : (i : ℕ) → btree.get nat_cmp new.collectors i ≡ btree.get nat_cmp old.collectors i
  pub count : btree.btree_map_len new.collectors ≡ btree.btree_map_len old.collectors

-- a collector with this number that was open is still open, with the same floor
abbrev pub StaysOpen : ℕ → Collectors → Collectors → Type 0
StaysOpen i old new = (c : Collector) → kept_at old i ≡ Some c
    → (c' : Collector) × (kept_at new i ≡ Some c') × (c'.floor ≡ c.floor)

-- After a refused step for n visits the collector is still open. If one visit was requested, nothing is changed.
pub record StepLeaves {R : Type 0} (seen : View R) (i n : ℕ) (old new : Collectors) (before now : R)
    : Type 0 where
  pub stays : StaysOpen i old new
  pub same : n ≡ 1 → SameCollectors old new
  pub reads : n ≡ 1 → OnlyReads seen before now

-- no collector with this number is open
abbrev pub IsUnopened : State → ℕ → Type 0
IsUnopened st i = finmap.get st.collectors i ≡ None

-- no number is left
abbrev pub IsUsedUp : State → Type 0
IsUsedUp st = end_of_stamps ≤ st.next_collector

-- steps of others leave the state that collectors show unchanged
abbrev pub AreShownOn : Type 0
AreShownOn =
    (cells cells' : Cells) (collectors : Collectors) (st next : State) (q : Request) (r : Reply)
    → IsReachedByServers st → ShowsCells cells st → Step st q r next → kind_of q ≢ OfCollectors
    → ChangesCells cells st cells'
    → ShowsCollectors cells collectors st → ShowsCollectors cells' collectors next

-- equal collectors show the same states
abbrev pub AreShownSame : Type 0
AreShownSame =
    (cells : Cells) (old new : Collectors) (st : State) → SameCollectors old new
    → ShowsCollectors cells old st → ShowsCollectors cells new st
