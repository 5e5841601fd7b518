-- The laws of scans.
use Rattle.std.specs.Prelude.{◌≡◌, ℕ, ◌≤◌, Bool, List, [], ◌∷◌, Option, Some, None}
use Rattle.cell_key.specs.Cells.{Cells}
use Rattle.cell_key.specs.Places.{HasCell}
use Rattle.si_model.specs.Machine.{State, Value, Range, Item, Valued, Locked, Unsent, Reach, ToEnd, UpTo, Scan, Reply, Get, ScanFrom, Answered, Pending, Scanned, Marked, IsSnapshot, Acts, Step}
use Rattle.si_model.specs.Scans.{place_at, IsBetween, Covers, Says, IsSo}
use Rattle.si_model.specs.Sets.{◌∈◌}
use Rattle.si_model.specs.declared.replies.Cell.{Cell}

-- the scan covered x, and this is its answer for x
pub record SaysOf (scan : Scan) (x : Cell) (said : Option Item) : Type 0 where
  pub covers : Covers scan.range scan.reach x
  pub says : Says scan.items x said

-- each scan's answers are right at its session's start, in the commits as they are now (snapshot isolation)
abbrev pub ScansSettled : State → Type 0
ScansSettled st =
    (scan : Scan) → scan ∈ st.scans → (x : Cell) (said : Option Item) → SaysOf scan x said
    → IsSo st.commits scan.start x said

-- the answers of two scans with the same start for the same cell
pub record Meet (a b : Scan) (x : Cell) : Type 0 where
  -- they agree on the value
  pub one : (v w : Value) → SaysOf a x (Some (Valued v)) → SaysOf b x (Some (Valued w)) → v ≡ w
  -- if one scan leaves the cell unnamed, the other can name it only as locked
  pub unnamed : (item : Item) → SaysOf a x None → SaysOf b x (Some item)
      → (t : ℕ) × (item ≡ Locked t)

abbrev pub ScansMeet : State → Type 0
ScansMeet st =
    (a b : Scan) → a ∈ st.scans → b ∈ st.scans → a.start ≡ b.start → (x : Cell) → Meet a b x

-- the range behind a cell
abbrev pub behind : Range → Cell → Range
behind range last = record range { after = Some last }

-- a scan that came so far is the last page, or goes on behind a cell
abbrev pub IsLastOr : (Cell → Type 0) → Type 0 → Reach → Type 0
IsLastOr GoesOn IsLast ToEnd = IsLast
IsLastOr GoesOn IsLast (UpTo last) = GoesOn last

-- The scans are the pages of a range as of a start: the first goes over the range, each next one
-- over what is behind the one before it, and the last comes to the end.
abbrev pub ArePages : State → ℕ → Range → List Scan → Type 0
ArePages st start range [] = ⊥
ArePages st start range (page ∷ rest) =
    (page ∈ st.scans) × (page.start ≡ start) × (page.range ≡ range)
    × IsLastOr (λ last. ArePages st start (behind range last) rest) (rest ≡ []) page.reach

-- one of the pages went over x, and what it said of it is so at the start
pub record HasPage (st : State) (start : ℕ) (pages : List Scan) (x : Cell) : Type 0 where
  pub page : Scan
  pub among : page ∈ pages
  pub covers : Covers page.range page.reach x
  pub so : (said : Option Item) → Says page.items x said → IsSo st.commits start x said

-- pages leave out no cell of their range
abbrev pub PagesCover : State → Type 0
PagesCover st =
    (start : ℕ) (range : Range) (pages : List Scan) → ArePages st start range pages
    → (x : Cell) → Covers range ToEnd x → HasPage st start pages x

-- a page that isn't the last one stops at a cell of its range, and so behind the page before it
abbrev pub PagesGoOn : State → Type 0
PagesGoOn st =
    (s cells : ℕ) (range : Range) (keys_only : Bool) (items : List (Cell × Item)) (last : Cell)
    (next : State) → Step st (ScanFrom s range keys_only cells) (Scanned items (UpTo last)) next
    → IsBetween range last

-- this is a possible reply to a Get
abbrev pub MayGet : State → ℕ → Cell → Reply → Type 0
MayGet st s x reply = (next : State) × Acts st (Get s x) reply next

-- the answer for x is a Get's answer
abbrev pub IsAsGet : State → ℕ → Cell → Option Item → Type 0
IsAsGet st s x None = MayGet st s x (Answered None)
IsAsGet st s x (Some (Valued value)) = MayGet st s x (Answered (Some value))
IsAsGet st s x (Some Unsent) = (value : Value) × MayGet st s x (Answered (Some value))
IsAsGet st s x (Some (Locked t)) = MayGet st s x (Pending t)

abbrev pub ScansAsGets : State → Type 0
ScansAsGets st =
    (s cells : ℕ) (range : Range) (keys_only : Bool) (items : List (Cell × Item)) (reach : Reach)
    (next : State) → Step st (ScanFrom s range keys_only cells) (Scanned items reach) next
    → (x : Cell) (said : Option Item) → Covers range reach x → Says items x said
    → IsAsGet st s x said

-- if a cell map shows a state, a cell without a key has no mark, and has no value at any stamp from the floor on
abbrev pub NothingThere : Cells → State → Type 0
NothingThere cells st =
    (x : Cell) → ¬ HasCell cells (place_at x)
    → ((t : ℕ) → ¬ Marked st x t) × ((s : ℕ) → st.floor ≤ s → IsSnapshot st.commits s x None)
