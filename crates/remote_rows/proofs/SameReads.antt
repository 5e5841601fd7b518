-- Reads of a row in cells that have the same row.
use Rattle.std.proofs.Common.{◌≡◌, ◌-◌, ℕ, Bool, List, [], ◌∷◌, Option, Some, None, sym, ◌∙◌}
use Rattle.std.specs.FinMap.{get}
use Rattle.cell_key.specs.Cells.{Cells, IsNewest, version}
use Rattle.cell_key.specs.declared.keys.CellKey.{CellKey}
use Rattle.cell_key.specs.declared.keys.Qualifier.{Qualifier}
use Rattle.rows.specs.Reads.{AreNewestFirst, HasVersion}
use Rattle.remote_rows.specs.Shown.{IsHeldOf}
use Rattle.remote_rows.specs.declared.held_row.HeldRow.{HeldRow}

-- what is newest in cells is so in cells that have the same versions
pub newest_too : (a b : Cells) (at : ℕ → CellKey) (low high : ℕ) (found : Option (ℕ × List ℕ)) → ((s : ℕ) → get b (at s) ≡ get a (at s)) → IsNewest a at low high found → IsNewest b at low high found
newest_too a b at low high None same none = λ s from to. same s ∙ none s from to
newest_too a b at low high (Some found) same (from, to, is, last) = (from, to, same found.0 ∙ is, λ s above under. same s ∙ last s above under)

pub has_too : (a b : Cells) (at : ℕ → CellKey) (low high : ℕ) (has : Bool) → ((s : ℕ) → get b (at s) ≡ get a (at s)) → HasVersion a at low high has → HasVersion b at low high has
has_too a b at low high has same is = record { found = is.found; newest = newest_too a b at low high is.found same is.newest; is = is.is }

pub first_too : (a b : Cells) (at : ℕ → CellKey) (high most : ℕ) (found : List (ℕ × List ℕ)) → ((s : ℕ) → get b (at s) ≡ get a (at s)) → AreNewestFirst a at high most found → AreNewestFirst b at high most found
first_too a b at high most [] same is = λ wanted. newest_too a b at 0 high None same (is wanted)
first_too a b at high most (one ∷ found) same is = (is.0, newest_too a b at 0 high (Some one) same is.1, is.2, first_too a b at (one.0 - 1) (most - 1) found same is.3)

-- the keys of a column of a row in memory
pub same_column : (cells : Cells) (guard : List ℕ → ℕ) (held : HeldRow) (row family : List ℕ) (qualifier : Qualifier) → held.row ≡ row → IsHeldOf cells guard held → (s : ℕ) → get cells (version row family qualifier s) ≡ get held.rows (version row family qualifier s)
same_column cells guard held row family qualifier of_row is s = sym (is.same (version row family qualifier s) (sym of_row))
