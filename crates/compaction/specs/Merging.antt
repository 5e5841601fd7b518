-- The entries of a merge, by the entries of its sources.
use Rattle.std.specs.Prelude.{◌≡◌, ◌<◌, ℕ, ◌+◌, ◌*◌, List, [], ◌∷◌, true, false, Contains, Option, Some, None, is_some, length, map, slice_index_or, if◌then◌else◌}
use Rattle.std.specs.List.{AllByRecursion, AllZip}
use Rattle.std.specs.Ordering.{is_eq}
use Rattle.cell_key.specs.Keys.{byte_cmp}
use Rattle.cell_key.specs.Entries.{Entry, Takes, merged}
use Rattle.sorted_file.specs.Source.{pending}
use Rattle.compaction.specs.Least.{entry_at}
use Rattle.compaction.specs.Order.{IsOrdered, IsReady, first_entry}
use Rattle.compaction.specs.Ties.{ties}

-- entries without their first one, if it has this key
abbrev pub past : List ℕ → List Entry → List Entry
past key [] = []
past key (e ∷ es) = if is_eq (byte_cmp key e.0) then es else (e ∷ es)

abbrev pub past_lent : Option Entry → List Entry → List Entry
past_lent None es = es
past_lent (Some e) es = past e.0 es

-- an advance to an entry, and an advance past it, each lower this number
abbrev pub one : Option Entry → ℕ
one o = if is_some o then 1 else 0

abbrev pub cost : ℕ → Option Entry → ℕ
cost left lent = 2 * left + one lent

-- the current entry of the source at this place
abbrev pub lent_at : {S : Type 0} → (S → Option Entry) → List S → ℕ → Option Entry
lent_at lent sources at = entry_at (map lent sources) at

-- the current entry of the source at the first place of an order
abbrev pub first_lent : {S : Type 0} → (S → Option Entry) → List S → List ℕ → Option Entry
first_lent lent sources order = first_entry (map lent sources) order

module _ {S : Type 0} (lent : S → Option Entry) (remaining : S → List Entry) where
  -- all entries that a source has left, with its current one
  abbrev pub waiting : S → List Entry
  waiting s = pending (lent s) (remaining s)

  -- a source without a current entry has ended
  abbrev pub HasStarted : S → Type 0
  HasStarted s = lent s ≡ None → remaining s ≡ []

  -- the entries of the sources, without entries of the merge's current key
  abbrev pub merge_remaining : List S → List ℕ → List Entry
  merge_remaining sources order =
      merged (map (λ s. past_lent (first_lent lent sources order) (waiting s)) sources)

  -- if a merge has no current entry, no source has one; if it has one, all sources have started
  abbrev pub HaveStarted : Option Entry → List S → Type 0
  HaveStarted None sources = AllByRecursion (λ s. lent s ≡ None) sources
  HaveStarted (Some e) sources = AllByRecursion HasStarted sources

  -- each source stands for its list, and their places are in order
  pub record MergeHolds (holds : S → Type 0) (sources : List S) (order : List ℕ) : Type 0 where
    pub each : AllByRecursion holds sources
    pub ready : IsReady (map lent sources) order
    pub started : HaveStarted (first_lent lent sources order) sources

  -- a source was advanced past the merge's current entry, if it was at it too
  pub record StepsTo (holds : S → Type 0) (at : Option Entry) (old new : S) : Type 0 where
    pub still : holds new
    pub goes : waiting new ≡ past_lent at (waiting old)
    pub started : HasStarted new

-- each source stands for its list over the contents, and has not been advanced
abbrev pub AreAtStart : {S : Type 0} → (S → Option Entry) → (S → Type 0) → List S → Type 0
AreAtStart lent holds sources = AllByRecursion (λ s. holds s × (lent s ≡ None)) sources

-- a source at the key of an entry makes a step, and any other is unchanged
pub data GoesPast {S : Type 0} (steps : S → S → Type 0) (lent : S → Option Entry)
    (at : Option Entry) (s t : S) : Type 0 where
  goes_past : ties at (lent s) ≡ true → steps s t → GoesPast steps lent at s t
  stays_there : ties at (lent s) ≡ false → t ≡ s → GoesPast steps lent at s t

-- the sources of a merge that are advanced: all if it has no current entry, else those at the entry's key
abbrev pub IsMoved : {S : Type 0} → (S → Option Entry) → Option Entry → S → Type 0
IsMoved lent None s = Unit {0}
IsMoved lent (Some e) s = ties (Some e) (lent s) ≡ true

abbrev pub MovesPast : {S : Type 0} → (S → S → Type 0) → (S → Option Entry) → Option Entry → S → S
    → Type 0
MovesPast steps lent None s t = steps s t
MovesPast steps lent (Some e) s t = GoesPast steps lent (Some e) s t

-- If a merge has no current entry, each source makes a step; else just those at the entry's key. Then the places are in
-- order.
pub record MergeSteps {S : Type 0} (steps : S → S → Type 0) (lent : S → Option Entry)
    (sources : List S) (order : List ℕ) (later : List S) (next : List ℕ) : Type 0 where
  pub past : AllZip (MovesPast steps lent (first_lent lent sources order)) sources later
  pub ordered : IsOrdered (map lent later) next

-- the effect of one advance on a source
pub record Advances {S : Type 0} (steps : S → S → Type 0) (lent : S → Option Entry)
    (remaining : S → List Entry) (holds : S → Type 0) (s t : S) : Type 0 where
  pub step : steps s t
  pub still : holds s → holds t
  pub takes : holds s → Takes (lent t) (remaining s) (remaining t)

-- each source at these places moved, and the others are unchanged
pub record HasMoved {S : Type 0} (moves : S → S → Type 0) (places : List ℕ)
    (sources later : List S) : Type 0 where
  pub moved : (place : ℕ) (d : S) → Contains places place → place < length sources
      → moves (slice_index_or sources place d) (slice_index_or later place d)
  pub stayed : (place : ℕ) (d : S) → ¬ Contains places place
      → slice_index_or later place d ≡ slice_index_or sources place d

-- a source at one of these places breaks off
pub record BreaksAt {S : Type 0} (breaks : S → Type 0) (places : List ℕ) (sources : List S)
    : Type 0 where
  pub place : ℕ
  pub among : Contains places place
  pub within : place < length sources
  pub here : (d : S) → breaks (slice_index_or sources place d)

-- a source that is to be advanced breaks off
pub record BreaksAmong {S : Type 0} (breaks moved : S → Type 0) (sources : List S) : Type 0 where
  pub source : S
  pub among : Contains sources source
  pub moves : moved source
  pub here : breaks source
