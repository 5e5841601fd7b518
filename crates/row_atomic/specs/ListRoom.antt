-- Room in lists that a split or a move reserves before its minor compaction.
use Rattle.std.specs.Prelude.{◌≡◌, ◌≤◌, ◌+◌, ℕ, List, [], length, Some, vec_capacity}
use Rattle.std.specs.declared.vec.Vec.{Vec}
use Rattle.metadata_table.specs.Places.{PlaceView}
use Rattle.metadata_table.specs.Table.{Cuts, HasTablet, IsHolder, with_files}
use Rattle.tablet.specs.Views.{names_of, range_of}
use Rattle.tablet.specs.declared.tablet.Tablet.{Tablet}
use Rattle.row_atomic.specs.Clusters.{tablet_numbered}
use Rattle.row_atomic.specs.declared.cluster.split.CutRoom.{CutRoom}
use Rattle.row_atomic.specs.declared.cluster.split.OpenRoom.{OpenRoom}

-- an empty list with capacity for this many items
pub record IsEmptyFor {X Z : Type 0} (count : ℕ) (list : Vec X Z) : Type 0 where
  pub empty : list.items ≡ []
  pub room : count ≤ vec_capacity list

-- both lists of names have room for a tablet's file names and this many more
pub record HasNameRoom (room : CutRoom) (more : ℕ) (t : Tablet) : Type 0 where
  pub left : IsEmptyFor (length (names_of t) + more) room.left_names
  pub right : IsEmptyFor (length (names_of t) + more) room.right_names

-- The room fits a cut of the tablet that holds the row: its table is the one after the cut, once both parts list the
-- tablet's files.
pub record IsRoomToCut (row : List ℕ) (room : CutRoom) (places : List PlaceView)
    (tablets : List Tablet) : Type 0 where
  pub place : PlaceView
  pub holder : IsHolder row places place
  pub tablet : Tablet
  pub numbered : tablet_numbered place.tablet tablets ≡ Some tablet
  pub number : room.left ≡ length places + 1
  pub right : HasTablet place.tablet room.table
  pub left : HasTablet room.left room.table
  pub cut : Cuts row room.left places (with_files room.left (names_of tablet)
      (with_files place.tablet (names_of tablet) room.table))
  pub names : HasNameRoom room 0 tablet
  pub space : IsEmptyFor (length places + 1) room.tablets

-- The range is the tablet's, and the list has room for its files' names and this many more.
pub record HasOpenRoom (room : OpenRoom) (more : ℕ) (t : Tablet) : Type 0 where
  pub range : room.range ≡ range_of t
  pub names : IsEmptyFor (length (names_of t) + more) room.names
