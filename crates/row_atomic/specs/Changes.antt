-- Changes to a cluster's tablets and their places by its calls. Begin with `IsOutcome` at the end of Commands.antt,
-- which uses these definitions: `IsCompacted`, `IsHalved` and `ComesTo` are the effects of a compaction, a split and a
-- move, and `IsAsBefore` the state after a refused one.
use Rattle.std.specs.Prelude.{◌≡◌, ◌≢◌, ◌<◌, ◌≤◌, ◌+◌, ◌^◌, ◌⊎◌, ℕ, List, [], ◌∷◌, ◌++◌, length, map, drop, Option, Some, IsSome, IsSomeAnd, IfSome, ⊤}
use Rattle.std.specs.List.{AllByRecursion, AllZip, Contains, slice_get}
use Rattle.cell_key.specs.Entries.{Entry}
use Rattle.cell_key.specs.Places.{HasCell, IsAfter, Place}
use Rattle.cell_key.specs.declared.refusals.Refusal.{Refusal}
use Rattle.cell_key.specs.declared.refusals.Refusal.TheVariants as refused
use Rattle.file_store.specs.Store.{Contents}
use Rattle.sorted_file.specs.Grammar.{FitsIn}
use Rattle.sorted_file.specs.declared.file.SortedFile.{SortedFile}
use Rattle.metadata_table.specs.Places.{PlaceView}
use Rattle.metadata_table.specs.Table.{Cuts, IsHolder, IsListed, moved, with_files}
use Rattle.tablet.specs.Ranges.{seen}
use Rattle.tablet.specs.Views.{Holds as HoldsAt, IsBelow, IsSameTablet, cells_at, range_of, memory_of, files_of, names_of, lists_of, with_name}
use Rattle.tablet.specs.Compactions.{compacted_of, Compacts, IsCompactionRefusal, IsUnreadable, ReadsOpen, ReadsTooMuch}
use Rattle.tablet.specs.declared.compactions.Compaction.{Compaction}
use Rattle.tablet.specs.declared.compactions.Compaction.TheVariants.{Minor, Merge, Major}
use Rattle.tablet.specs.declared.ranges.RowRange.{RowRange}
use Rattle.tablet.specs.declared.tablet.Tablet.{Tablet}
use Rattle.row_atomic.specs.Clusters.{ClusterState, InOrder, PrecedesCell, cells_in, tablet_numbered}
use Rattle.row_atomic.specs.MergeStates.{HoldsMerge}

-- ---- all tablets

-- The tablets of a cluster are in order over its files, and a merge that is under way can go on.
abbrev pub Holds : {F : Type 0} → (F → Option Contents) → ClusterState F → Type 0
Holds contents state =
    InOrder (contents state.files) state.next_name state.tablets
    × HoldsMerge (contents state.files) state.file_limit state.next_name state.merge

-- If the tablets were in order, they still are, with the same cells.
abbrev pub KeepsMap : {F : Type 0} → (F → Option Contents) → ClusterState F → ClusterState F
    → Type 0
KeepsMap contents old new =
    Holds contents old → Holds contents new
    × (cells_in (contents new.files) new.tablets ≡ cells_in (contents old.files) old.tablets)

-- the files' bytes are known, and the tablet's files are not open over them
abbrev pub IsOutOfOrder : Option Contents → Tablet → Type 0
IsOutOfOrder disk t = IfSome disk (λ m. ¬ HoldsAt m t)

-- a tablet that is out of order over the second files was already so over the first ones
abbrev pub StaysInOrder : Option Contents → Option Contents → Tablet → Tablet → Type 0
StaysInOrder first second t u = IsOutOfOrder second u → IsOutOfOrder first t

-- a tablet's range, its memtable's entries and its open files
abbrev pub parts_of : Tablet → RowRange × (List Entry × List SortedFile)
parts_of t = (range_of t, (memory_of t, files_of t))

-- the places and the tablets are unchanged
pub record IsAsBefore {F : Type 0} (old new : ClusterState F) : Type 0 where
  pub places : new.places ≡ old.places
  pub tablets : map parts_of new.tablets ≡ map parts_of old.tablets

-- each file listed in the first places is listed in the second
abbrev pub ListsAll : List PlaceView → List PlaceView → Type 0
ListsAll first second = (name : ℕ) → IsListed name first → IsListed name second

-- nothing was done: the tablets, their places, the files and the next name are unchanged
pub record IsUndone {F : Type 0} (contents : F → Option Contents)
    (old new : ClusterState F) : Type 0 where
  pub as_before : IsAsBefore old new
  pub name : new.next_name ≡ old.next_name
  pub files : contents new.files ≡ contents old.files

-- Over its files each tablet is unchanged except for its caches, and all else is unchanged.
pub record IsUncached {F : Type 0} (contents : F → Option Contents)
    (old new : ClusterState F) : Type 0 where
  pub tablets : AllZip (IsSameTablet (contents old.files)) old.tablets new.tablets
  pub rest : new ≡ record old { tablets = new.tablets }

-- the tablet with the number is at the index
pub record IsAt (n : ℕ) (tablets : List Tablet) (index : ℕ) : Type 0 where
  pub number : n ≡ index + 1
  pub tablet : Tablet
  pub there : slice_get tablets index ≡ Some tablet

-- the tablet with the number has the property
pub record Numbered (P : Tablet → Type 0) (n : ℕ) (tablets : List Tablet) : Type 0 where
  pub tablet : Tablet
  pub numbered : tablet_numbered n tablets ≡ Some tablet
  pub such : P tablet

-- the tablet with the number became another one, made from it in this way, and all others are unchanged
pub record Remakes (Made : Tablet → Tablet → Type 0) (n : ℕ) (old new : List Tablet) : Type 0 where
  pub was : Tablet
  pub is : Tablet
  pub was_numbered : tablet_numbered n old ≡ Some was
  pub is_numbered : tablet_numbered n new ≡ Some is
  pub made : Made was is
  pub others : (other : ℕ) → other ≢ n → tablet_numbered other new ≡ tablet_numbered other old

-- ---- compactions

-- the memtable was emptied, into a file of the next name if it had entries
pub record IsFlushed (next : ℕ) (t u : Tablet) : Type 0 where
  pub memory : memory_of u ≡ []
  pub names : names_of u ≡ with_name next (memory_of t) (names_of t)

-- the newest `count` files became one
pub record IsMerged (count next : ℕ) (t u : Tablet) : Type 0 where
  pub memory : memory_of u ≡ memory_of t
  pub names : names_of u ≡ next ∷ drop count (names_of t)

-- the memtable and all files became one file
pub record IsOneFile (next : ℕ) (t u : Tablet) : Type 0 where
  pub memory : memory_of u ≡ []
  pub names : names_of u ≡ next ∷ []

abbrev pub IsMade : Compaction → ℕ → Tablet → Tablet → Type 0
IsMade Minor next t u = IsFlushed next t u
IsMade (Merge count) next t u = IsMerged count next t u
IsMade Major next t u = IsOneFile next t u

-- an entry has a value
abbrev pub HasValue : Entry → Type 0
HasValue entry = IsSome entry.1

-- none of a tablet's entries is an erasure
abbrev pub LacksErasures : Option Contents → Tablet → Type 0
LacksErasures disk t = IsSomeAnd disk (λ m. AllByRecursion (AllByRecursion HasValue) (lists_of m t))

-- after a major compaction there is none
abbrev pub IsCleaned : Compaction → Option Contents → Tablet → Type 0
IsCleaned Major disk t = LacksErasures disk t
IsCleaned _ disk t = ⊤

-- The tablet with the number was compacted: its file has only keys of the tablet's range, and has erasures unless all
-- files were merged.
pub record IsCompacted {F : Type 0} (contents : F → Option Contents) (compaction : Compaction)
    (tablet : ℕ) (old new : ClusterState F) : Type 0 where
  pub made : Remakes (IsMade compaction old.next_name) tablet old.tablets new.tablets
  pub lists : Remakes (Compacts compaction
      (contents old.files) old.next_name (contents new.files)) tablet old.tablets new.tablets
  pub cleaned : Holds contents old
      → Numbered (IsCleaned compaction (contents new.files)) tablet new.tablets

-- the entries that a compaction writes
abbrev pub written_by : Compaction → Contents → Tablet → List Entry
written_by Minor m t = seen (range_of t) (memory_of t)
written_by compaction m t = compacted_of compaction m t

-- The file of these entries would exceed the limit of bytes. For a merging or major compaction this is known only if
-- the tablet's files are open.
abbrev pub IsTooLarge : ℕ → Option Contents → Compaction → Tablet → Type 0
IsTooLarge limit disk Minor t = ¬ FitsIn limit (seen (range_of t) (memory_of t))
IsTooLarge limit disk compaction t =
    IfSome disk (λ m. HoldsAt m t → ¬ FitsIn limit (written_by compaction m t))

-- the file of these entries is within the limit of bytes
abbrev pub FitsLimit : ℕ → Option Contents → Compaction → Tablet → Type 0
FitsLimit limit disk Minor t = FitsIn limit (seen (range_of t) (memory_of t))
FitsLimit limit disk compaction t =
    IfSome disk (λ m. HoldsAt m t → FitsIn limit (written_by compaction m t))

-- `count` of the tablet's files can't be merged
abbrev pub IsBadCount : ℕ → Tablet → Type 0
IsBadCount count t = ¬ ((2 ≤ count) × (count ≤ length (names_of t)))

abbrev pub MeetsBadCount : Compaction → Tablet → Type 0
MeetsBadCount (Merge count) t = IsBadCount count t
MeetsBadCount _ t = ⊥

-- the tablet has the most files it may have, and the memtable would add one
pub record IsFullTablet (t : Tablet) : Type 0 where
  pub memory : memory_of t ≢ []
  pub files : 64 ≤ length (names_of t)

abbrev pub MeetsFull : Compaction → Tablet → Type 0
MeetsFull Minor t = IsFullTablet t
MeetsFull _ t = ⊥

-- a refusal by the writing of a file; a full tablet is refused with `TooManyFiles` instead
abbrev pub ComesOfWriting : Refusal → Type 0
ComesOfWriting refused.Exhausted = ⊤
ComesOfWriting refused.FileTooLarge = ⊤
ComesOfWriting refused.Device = ⊤
ComesOfWriting refused.Damaged = ⊤
ComesOfWriting _ = ⊥

-- its memtable is empty
abbrev pub IsEmptied : Tablet → Type 0
IsEmptied t = memory_of t ≡ []

-- a compaction has nothing to write
abbrev pub WritesNone : Compaction → Tablet → Type 0
WritesNone Minor t = IsEmptied t
WritesNone _ t = ⊥

-- the refusals of a compaction of a known tablet
abbrev pub IsRefusalOf : Compaction → Refusal → Type 0
IsRefusalOf Minor refused.TooManyFiles = ⊤
IsRefusalOf Minor refusal = IsCompactionRefusal refusal
IsRefusalOf (Merge count) refused.BadCount = ⊤
IsRefusalOf (Merge count) refusal = IsCompactionRefusal refusal
IsRefusalOf Major refusal = IsCompactionRefusal refusal

-- the refusals of a compaction of a tablet given by number
abbrev pub IsNumberedRefusal : Compaction → Refusal → Type 0
IsNumberedRefusal compaction refused.UnknownTablet = ⊤
IsNumberedRefusal compaction refusal = IsRefusalOf compaction refusal

-- A compaction turned tablet `t` into `u`, with the disk and the next name before and after it. It was allowed, and
-- used the next name if it wrote a file.
pub record HasCompacted (compaction : Compaction) (limit : ℕ) (disk : Option Contents) (next : ℕ)
    (later : Option Contents) (after : ℕ) (t u : Tablet) : Type 0 where
  pub made : IsMade compaction next t u
  pub lists : Compacts compaction disk next later t u
  pub cleaned : IfSome disk (λ m. HoldsAt m t → IsBelow next t → IsCleaned compaction later u)
  pub room : ¬ MeetsFull compaction t
  pub named : 2 ^ 63 ≤ next → WritesNone compaction t
  pub fits : FitsLimit limit disk compaction t
  pub used : ¬ WritesNone compaction t → after ≡ next + 1

-- The files' bytes are known, and a compaction can't read them: those files that it reads are not all open, and their
-- bytes now can't be read to the end, or are out of order.
abbrev pub CannotRead : Option Contents → Compaction → Tablet → Type 0
CannotRead disk compaction t =
    IfSome disk (λ m. (¬ ReadsOpen compaction (Some m) t) × IsUnreadable compaction (Some m) t)

-- A compaction was refused: the refusal has a cause, and a full tablet is refused before anything is written.
pub record HasRefused (compaction : Compaction) (limit : ℕ) (disk : Option Contents) (next : ℕ)
    (later : Option Contents) (after : ℕ) (t : Tablet) (refusal : Refusal) : Type 0 where
  pub count : refusal ≡ refused.BadCount → MeetsBadCount compaction t
  pub full : refusal ≡ refused.TooManyFiles → IsFullTablet t
  pub unfilled : ComesOfWriting refusal → ¬ MeetsFull compaction t
  pub exhausted : refusal ≡ refused.Exhausted → (2 ^ 63 ≤ next) × (¬ WritesNone compaction t)
  pub large : refusal ≡ refused.FileTooLarge → IsTooLarge limit disk compaction t
  pub damaged : refusal ≡ refused.Damaged → IsOutOfOrder disk t
  pub too_much : refusal ≡ refused.FileTooLarge → ReadsTooMuch compaction limit disk t
  pub unread : refusal ≡ refused.Damaged → CannotRead disk compaction t
  pub undone : refusal ≡ refused.TooManyFiles → (after ≡ next) × (later ≡ disk)

-- ---- the tablet of a row

-- the tablet that holds the row has the property
pub record OfHolder (P : Tablet → Type 0) (row : List ℕ) (places : List PlaceView)
    (tablets : List Tablet) : Type 0 where
  pub place : PlaceView
  pub holder : IsHolder row places place
  pub tablet : Numbered P place.tablet tablets

-- ---- scans

-- if the tablet is in order, its cells after `after` are all among those found
abbrev pub HasNoMore : Option Contents → Option Place → List Place → Tablet → Type 0
HasNoMore disk after found t = IfSome disk (λ m. HoldsAt m t
    → (place : Place) → IsAfter after place → HasCell (cells_at m t) place → Contains found place)

-- A scan passes a place: all its rows come before the row of the cell `after`, or its tablet has no cells after that
-- cell except those found.
abbrev pub Passes : Option Contents → List Tablet → Option Place → List Place → PlaceView → Type 0
Passes disk tablets after found p =
    PrecedesCell p after ⊎ Numbered (HasNoMore disk after found) p.tablet tablets

-- a scan for at most `most` cells reaches a tablet that is out of order, after it passed all places before and found
-- fewer cells
pub record MeetsDamage (disk : Option Contents) (after : Option Place) (most : ℕ)
    (places : List PlaceView) (tablets : List Tablet) : Type 0 where
  pub before : List PlaceView
  pub place : PlaceView
  pub rest : List PlaceView
  pub parts : places ≡ before ++ place ∷ rest
  pub found : List Place
  pub few : length found < most
  pub passed : AllByRecursion (Passes disk tablets after found) before
  pub within : ¬ PrecedesCell place after
  pub out : Numbered (IsOutOfOrder disk) place.tablet tablets

-- ---- splits and moves

-- The tablet that holds the row got new files and was then cut there.
pub record IsCut (row : List ℕ) (left : ℕ) (old new : List PlaceView) : Type 0 where
  pub place : PlaceView
  pub holder : IsHolder row old place
  pub names : List ℕ
  pub cut : Cuts row left (with_files place.tablet names old) new

-- The tablet that holds the row was flushed and cut in two: the left part has the number `left`. Both parts have its
-- files and empty memtables. All other tablets are unchanged.
pub record IsHalved (next : ℕ) (row : List ℕ) (left : ℕ) (places : List PlaceView)
    (old new : List Tablet) : Type 0 where
  pub place : PlaceView
  pub holder : IsHolder row places place
  pub was : Tablet
  pub was_numbered : tablet_numbered place.tablet old ≡ Some was
  pub left_part : Numbered (IsFlushed next was) left new
  pub right_part : Numbered (IsFlushed next was) place.tablet new
  pub others : (other : ℕ) → other ≢ left → other ≢ place.tablet
      → tablet_numbered other new ≡ tablet_numbered other old

-- all tablets are unchanged, or the one with the number was flushed
abbrev pub MayBeFlushed : ℕ → ℕ → List Tablet → List Tablet → Type 0
MayBeFlushed next n old new =
    (map parts_of new ≡ map parts_of old) ⊎ Remakes (IsFlushed next) n old new

-- the same for the tablet that holds the row
abbrev pub MayHolderBeFlushed : ℕ → List ℕ → List PlaceView → List Tablet → List Tablet → Type 0
MayHolderBeFlushed next row places old new =
    (place : PlaceView) → IsHolder row places place → MayBeFlushed next place.tablet old new

-- the same files were opened again, with an empty memtable
pub record IsReopened (t u : Tablet) : Type 0 where
  pub memory : memory_of u ≡ []
  pub names : names_of u ≡ names_of t

-- a tablet got new files and was then put on a server
pub record IsMoved (n server : ℕ) (old new : List PlaceView) : Type 0 where
  pub names : List ℕ
  pub moved : new ≡ moved n server (with_files n names old)

-- a tablet is on a server
abbrev pub IsOn : ℕ → ℕ → List PlaceView → Type 0
IsOn n server places = (p : PlaceView) × Contains places p × (p.tablet ≡ n) × (p.server ≡ server)

-- a tablet that was on another server was flushed and put on this one
pub record IsFlushedAndPut {F : Type 0} (n server : ℕ) (old new : ClusterState F) : Type 0 where
  pub elsewhere : ¬ IsOn n server old.places
  pub moved : IsMoved n server old.places new.places
  pub flushed : Remakes (IsFlushed old.next_name) n old.tablets new.tablets

-- a tablet that is already on the server is unchanged, and nothing is done; any other is flushed and put there
abbrev pub ComesTo : {F : Type 0} → ℕ → ℕ → ClusterState F → ClusterState F → Type 0
ComesTo n server old new =
    (IsOn n server old.places × (new ≡ old)) ⊎ IsFlushedAndPut n server old new

abbrev pub IsSplitRefusal : Refusal → Type 0
IsSplitRefusal refused.BadSplit = ⊤
IsSplitRefusal refusal = IsRefusalOf Minor refusal

abbrev pub IsMoveRefusal : Refusal → Type 0
IsMoveRefusal refused.UnknownServer = ⊤
IsMoveRefusal refusal = IsNumberedRefusal Minor refusal
