-- The cells ahead of a position.
use Rattle.std.specs.Prelude.{◌+◌, Bool, List, length, Option, None, Some, if◌then◌else◌, ◌≡◌}
use Rattle.std.specs.Vec.Iter.{into_iter_items}
use Rattle.std.specs.declared.cmp.Ordering.TheVariants.{Less}
use Rattle.cell_key.specs.Cells.{Cells}
use Rattle.cell_key.specs.Places.{AreNextCells, HasCell, IsAfter, IsNextCell, Place, place_cmp}
use Rattle.si_model.specs.Collection.{place_at}
use Rattle.si_model.specs.declared.replies.Cell.{Cell}
use Rattle.version_collector.specs.declared.ahead.Ahead.{Ahead}

-- the places are the next cells after this one, and with `is_end` no cell comes after the last of them
abbrev pub Follow : Cells → Option Place → List Place → Bool → Type 0
Follow cells after places is_end =
    AreNextCells cells after (length places + (if is_end then 1 else 0)) places

-- no cell is between a position and this later place; there may be a cell at the place
pub record IsFirst (cells : Cells) (after : Option Place) (place : Place) : Type 0 where
  pub behind : IsAfter after place
  pub none : (between : Place) → IsAfter after between → place_cmp between place ≡ Less
      → ¬ (HasCell cells between)

-- The places follow the position; or they follow the doubted cell, which is the first place after the position that may
-- have a cell.
abbrev pub AreAhead : Cells → Option Place → Option Cell → List Place → Bool → Type 0
AreAhead cells after None places is_end = Follow cells after places is_end
AreAhead cells after (Some x) places is_end =
    IsFirst cells after (place_at x) × Follow cells (Some (place_at x)) places is_end

abbrev pub IsAhead : Cells → Option Place → Ahead → Type 0
IsAhead cells after ahead =
    AreAhead cells after ahead.doubted (into_iter_items ahead.places) ahead.is_end

-- a doubted cell is the next one, and the places follow it; or the places follow the position
abbrev pub IsStill : Cells → Option Place → List Place → Bool → Option Cell → Type 0
IsStill cells after places is_end None = Follow cells after places is_end
IsStill cells after places is_end (Some x) =
    IsNextCell cells after (Some (place_at x)) × Follow cells (Some (place_at x)) places is_end
