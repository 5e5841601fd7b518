-- The cells after the writes of a commit were put with their records, and no lock.
use Rattle.std.specs.Prelude.{ℕ, [], ◌∷◌}
use Rattle.std.specs.FinMap.{insert}
use Rattle.cell_key.specs.Cells.{Cells}
use Rattle.cell_key.specs.Columns.{record_text}
use Rattle.cell_key.specs.declared.keys.Qualifier.TheVariants.{Write}
use Rattle.si_model.specs.Machine.{Change, Writes}
use Rattle.si_model.specs.ShowsCells.{key_of, kind_of_change, changed_cells}
use Rattle.si_model.specs.declared.replies.Cell.{Cell}

-- the cells after a change of x by s was put: its data at s, and its record at the commit stamp c
abbrev pub put_cells : Cells → Cell → Change → ℕ → ℕ → Cells
put_cells cells x v s c =
    insert (changed_cells cells x s v) (key_of x Write c) (record_text s (kind_of_change v))

-- the cells after each of the writes was put so
abbrev pub all_put_cells : Cells → Writes → ℕ → ℕ → Cells
all_put_cells cells [] s c = cells
all_put_cells cells (w ∷ ws) s c = all_put_cells (put_cells cells w.0 w.1 s c) ws s c
