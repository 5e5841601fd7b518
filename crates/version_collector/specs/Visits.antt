-- The visits of a collector, one or many in sequence, and the collector's progress after them.
use Rattle.std.specs.Prelude.{◌≡◌, ◌≢◌, ◌⊎◌, ⊤, ℕ, ◌+◌, ◌<◌, ◌≤◌, List, [], length, Option, Some, None, Result, Ok, Err}
use Rattle.std.specs.FinMap.{get}
use Rattle.cell_key.specs.Cells.{Cells}
use Rattle.cell_key.specs.Places.{Place, IsNextCell}
use Rattle.cell_key.specs.declared.keys.CellKey.{CellKey}
use Rattle.cell_key.specs.declared.keys.Qualifier.TheVariants as column
use Rattle.cell_key.specs.declared.refusals.Refusal.{Refusal}
use Rattle.si_model.specs.Collection as model
use Rattle.si_model.specs.Collection.{Collects, HasCome, IsTidy, IsUnmarkedBelow, FirstPass, SecondPass, collected_cells, dropped_cells, forgotten_cells, left_of, place_at}
use Rattle.si_model.specs.Machine.{State}
use Rattle.si_model.specs.Sets.{◌∈◌}
use Rattle.si_model.specs.Servers.{IsReachedByServers}
use Rattle.si_model.specs.ShowsCells.{at, IsThere, ShowsCells}
use Rattle.si_model.specs.declared.replies.Cell.{Cell}
use Rattle.si_model.specs.declared.replies.CollectReply.{CollectReply}
use Rattle.si_model.specs.declared.replies.CollectReply.TheVariants.{More, Blocked, Collected}
use Rattle.version_collector.specs.Versions.{AreOld, AreUnnamed, IsLoneDeletion, IsTidyFrom}
use Rattle.version_collector.specs.declared.collector.Collector.{Collector}
use Rattle.version_collector.specs.declared.collector.Pass.{Pass}
use Rattle.version_collector.specs.declared.collector.Pass.TheVariants.{First, Second}
use Rattle.version_collector.specs.declared.erasing.CellProgress.{CellProgress}

-- One visit: it looks at the next cell with a key after the position.
pub data IsVisit (cells : Cells) (floor : ℕ) : model.Pass → Option Place → CollectReply → Cells
    → model.Pass → Option Place → Type 0 where
  -- First pass. It stops at a lock below the floor, without moving the position. The position moves past a cell without
  -- one.
  stops : {after : Option Place} {x : Cell} {t : ℕ} → IsNextCell cells after (Some (place_at x))
      → IsThere cells x column.Lock t → t < floor
      → IsVisit cells floor FirstPass after (Blocked x t) cells FirstPass after
  passes : {after : Option Place} {x : Cell} → IsNextCell cells after (Some (place_at x))
      → ((t : ℕ) → t < floor → at cells x column.Lock t ≡ None)
      → IsVisit cells floor FirstPass after More cells FirstPass (Some (place_at x))
  -- with no next cell the second pass begins
  turns : {after : Option Place} → IsNextCell cells after None
      → IsVisit cells floor FirstPass after More cells SecondPass None
  -- Second pass. It erases old records with their data, or else data that no record names, or else the record of a
  -- deletion, and the position is unchanged.
  erases_records : {after : Option Place} {x : Cell} {vs : List (ℕ × ℕ)}
      → IsNextCell cells after (Some (place_at x)) → AreOld cells x floor vs → vs ≢ []
      → IsVisit cells floor SecondPass after More (collected_cells cells x vs) SecondPass after
  erases_data : {after : Option Place} {x : Cell} {ts : List ℕ}
      → IsNextCell cells after (Some (place_at x)) → AreUnnamed cells x floor ts → ts ≢ []
      → IsVisit cells floor SecondPass after More (dropped_cells cells x ts) SecondPass after
  erases_deletion : {after : Option Place} {x : Cell} {c : ℕ}
      → IsNextCell cells after (Some (place_at x)) → IsLoneDeletion cells x floor c
      → IsVisit cells floor SecondPass after More (forgotten_cells cells x c) SecondPass after
  -- the position moves past a tidy cell
  tidies : {after : Option Place} {x : Cell} → IsNextCell cells after (Some (place_at x))
      → IsTidy cells x floor
      → IsVisit cells floor SecondPass after More cells SecondPass (Some (place_at x))
  -- with no next cell all is collected
  ends : {after : Option Place} → IsNextCell cells after None
      → IsVisit cells floor SecondPass after Collected cells SecondPass after

abbrev pub pass_of : Pass → model.Pass
pass_of First = FirstPass
pass_of Second = SecondPass

abbrev pub position_of : Option Cell → Option Place
position_of None = None
position_of (Some x) = Some (place_at x)

-- a collector stays in its pass, or enters the second one
abbrev pub GoesOn : Collector → Collector → Type 0
GoesOn c c' = (c'.pass ≡ c.pass) ⊎ (c'.pass ≡ Second)

-- The place from which visits between these passes read: from the position, or from the start if the second pass has
-- begun meanwhile.
abbrev pub read_in : Pass → Pass → Option Place → Option Place
read_in First Second after = None
read_in First First after = after
read_in Second pass after = after

abbrev pub read_from : Collector → Collector → Option Place
read_from c c' = read_in c.pass c'.pass (position_of c.after)

-- the progress within a cell is right; there is none in the first pass
abbrev pub IsProgress : Cells → ℕ → Option CellProgress → Pass → Type 0
IsProgress cells floor None pass = ⊤
IsProgress cells floor (Some progress) First = ⊥
IsProgress cells floor (Some progress) Second = IsTidyFrom cells progress.cell floor progress.tidy

abbrev pub HasProgress : Cells → Collector → Type 0
HasProgress cells c = IsProgress cells c.floor c.within c.pass

-- a visit of this collector gives this reply, these cells and this collector
pub record Visits (cells : Cells) (c : Collector) (reply : CollectReply) (cells' : Cells)
    (c' : Collector) : Type 0 where
  pub floor : c'.floor ≡ c.floor
  pub progress : HasProgress cells' c'
  pub visit : IsVisit cells c.floor (pass_of c.pass) (position_of c.after) reply cells'
      (pass_of c'.pass) (position_of c'.after)

-- this many visits, each answered More
pub data AreVisits (cells : Cells) (c : Collector) : ℕ → Cells → Collector → Type 0 where
  none : AreVisits cells c 0 cells c
  then : {k : ℕ} {mid cells' : Cells} {d c' : Collector} → AreVisits cells c k mid d
      → Visits mid d More cells' c' → AreVisits cells c (k + 1) cells' c'

-- fewer than n visits
pub record AreFewVisits (n : ℕ) (cells : Cells) (c : Collector) (cells' : Cells) (c' : Collector)
    : Type 0 where
  pub count : ℕ
  pub few : count < n
  pub visits : AreVisits cells c count cells' c'

-- fewer than n visits, and then one with this reply
pub record EndsWith (n : ℕ) (reply : CollectReply) (cells : Cells) (c : Collector) (cells' : Cells)
    (c' : Collector) : Type 0 where
  pub mid : Cells
  pub before : Collector
  pub visits : AreFewVisits n cells c mid before
  pub last : Visits mid before reply cells' c'

-- The visits of a request for n visits. More comes after all of them. Visits before a refusal are kept.
abbrev pub HasVisited : ℕ → Result CollectReply Refusal → Cells → Collector → Cells → Collector
    → Type 0
HasVisited n (Ok More) cells c cells' c' = AreVisits cells c n cells' c'
HasVisited n (Ok reply) cells c cells' c' = EndsWith n reply cells c cells' c'
HasVisited n (Err refusal) cells c cells' c' = AreFewVisits n cells c cells' c'

-- ---- their effect

-- the progress of this collector from cell to cell and within a cell, and its remaining work
abbrev pub Comes : Cells → State → Collector → Type 0
Comes cells st c =
    HasCome cells st c.floor (pass_of c.pass) (position_of c.after) × HasProgress cells c

-- it holds if a reached state is shown in which this is the collector's progress
abbrev pub WhereCome : State → Cells → Collector → Type 0 → Type 0
WhereCome st cells c IsSo =
    IsReachedByServers st → ShowsCells cells st → c.floor ≤ st.floor → Comes cells st c → IsSo

abbrev pub left_by : Cells → Collector → ℕ
left_by cells c = left_of cells (pass_of c.pass) (position_of c.after)

-- keys of at most n rows change, none of them a lock, and each change is an erasure
pub record Thins (n : ℕ) (cells cells' : Cells) : Type 0 where
  pub rows : List (List ℕ)
  pub few : length rows ≤ n
  pub others : (k : CellKey) → ¬ (k.row ∈ rows) → get cells' k ≡ get cells k
  pub fewer : (k : CellKey) → (get cells' k ≡ get cells k) ⊎ (get cells' k ≡ None)
  pub locks : (k : CellKey) → k.qualifier ≡ column.Lock → get cells' k ≡ get cells k

-- The answer is true. After More, the remaining work is less by at least n. After Blocked, the cell has a lock below
-- the floor. After Collected, no mark is below the floor, and each cell is tidy.
abbrev pub IsTold : ℕ → CollectReply → Cells → Collector → Cells → Collector → State → Type 0
IsTold n More cells c cells' c' st = left_by cells' c' + n ≤ left_by cells c
IsTold n (Blocked x t) cells c cells' c' st = IsThere cells' x column.Lock t × (t < c.floor)
IsTold n Collected cells c cells' c' st =
    IsUnmarkedBelow st c.floor × ((x : Cell) → IsTidy cells' x c.floor)
