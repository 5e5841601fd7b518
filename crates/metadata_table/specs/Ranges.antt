-- The range of each tablet, and the effects of the calls on it.
use Rattle.std.specs.Prelude.{◌≡◌, ◌≢◌, ◌↔◌, ℕ, List, [], ◌∷◌, ◌++◌, Option, None, Some}
use Rattle.std.specs.List.{Contains}
use Rattle.std.specs.declared.cmp.Ordering.TheVariants.{Less}
use Rattle.cell_key.specs.Keys.{byte_cmp}
use Rattle.metadata_table.specs.Places.{PlaceView, EndsBefore, IsRowAfter}
use Rattle.metadata_table.specs.Table.{IsTable, IsHolder, Cuts, moved, with_files}

-- a tablet and its rows: those after `after`, or from the start, up to and including its end
pub record TabletRange : Type 0 where
  pub tablet : ℕ
  pub after : Option (List ℕ)
  pub end : Option (List ℕ)

-- the range has the row
pub record HasRow (range : TabletRange) (row : List ℕ) : Type 0 where
  pub past : IsRowAfter range.after row
  pub within : ¬ EndsBefore range.end row

-- the ranges of places, each after the end of the one before; the first begins after `before`
abbrev pub ranges_after : Option (List ℕ) → List PlaceView → List TabletRange
ranges_after before [] = []
ranges_after before (p ∷ ps) =
    record { tablet = p.tablet; after = before; end = p.end } ∷ ranges_after p.end ps

abbrev pub ranges : List PlaceView → List TabletRange
ranges ps = ranges_after None ps

-- each row is in exactly one range
pub record IsOnlyRange (ps : List PlaceView) (row : List ℕ) (range : TabletRange) : Type 0 where
  pub there : Contains (ranges ps) range
  pub has : HasRow range row
  pub only : (other : TabletRange) → Contains (ranges ps) other → HasRow other row → other ≡ range

abbrev pub OneHolder : Type 0
OneHolder =
    (ps : List PlaceView) → IsTable ps → (row : List ℕ)
    → (range : TabletRange) × IsOnlyRange ps row range

-- the place that holds a row belongs to the tablet in whose range the row is
pub record IsRangeOf (ps : List PlaceView) (p : PlaceView) (range : TabletRange) : Type 0 where
  pub there : Contains (ranges ps) range
  pub tablet : range.tablet ≡ p.tablet
  pub end : range.end ≡ p.end

abbrev pub HolderRange : Type 0
HolderRange =
    (ps : List PlaceView) (row : List ℕ) (p : PlaceView) → IsHolder row ps p
    → (range : TabletRange) × IsRangeOf ps p range × HasRow range row

-- a tablet has only one range
abbrev pub OneRange : Type 0
OneRange =
    (ps : List PlaceView) → IsTable ps → (a b : TabletRange) → Contains (ranges ps) a
    → Contains (ranges ps) b → a.tablet ≡ b.tablet → a ≡ b

-- the two parts of a range cut at a row
abbrev pub left_range : List ℕ → ℕ → TabletRange → TabletRange
left_range row n range = record range { tablet = n; end = Some row }

abbrev pub right_range : List ℕ → TabletRange → TabletRange
right_range row range = record range { after = Some row }

-- one range, which has the row, is replaced by its parts
pub record CutsRange (row : List ℕ) (n : ℕ) (old new : List TabletRange) : Type 0 where
  pub before : List TabletRange
  pub range : TabletRange
  pub rest : List TabletRange
  pub was : old ≡ before ++ range ∷ rest
  pub is : new ≡ before ++ left_range row n range ∷ right_range row range ∷ rest
  pub has : HasRow range row

abbrev pub CutRanges : Type 0
CutRanges =
    (ps ps' : List PlaceView) (row : List ℕ) (n : ℕ) → Cuts row n ps ps'
    → CutsRange row n (ranges ps) (ranges ps')

-- the rows of the left part are the range's up to and including the row, of the right part those after it
pub record PartsRange (row : List ℕ) (n : ℕ) (range : TabletRange) : Type 0 where
  pub left : (other : List ℕ) → HasRow (left_range row n range) other
      ↔ (HasRow range other × (byte_cmp row other ≢ Less))
  pub right : (other : List ℕ) → HasRow (right_range row range) other
      ↔ (HasRow range other × (byte_cmp row other ≡ Less))

abbrev pub CutRows : Type 0
CutRows = (row : List ℕ) (n : ℕ) (range : TabletRange) → HasRow range row → PartsRange row n range

-- neither a move nor a new list of files changes a range
pub record KeepsRanges (ps : List PlaceView) : Type 0 where
  pub moves : (n server : ℕ) → ranges (moved n server ps) ≡ ranges ps
  pub files : (n : ℕ) (names : List ℕ) → ranges (with_files n names ps) ≡ ranges ps

abbrev pub SameRanges : Type 0
SameRanges = (ps : List PlaceView) → KeepsRanges ps
