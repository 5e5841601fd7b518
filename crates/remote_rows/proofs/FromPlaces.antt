-- Rows from a place on.
use Rattle.std.proofs.Common.{ℕ, List, [], Option, Some, None}
use Rattle.std.specs.Cmp.{tied_itself}
use Rattle.std.specs.Cmp.Lexicographic.{nat_list_cmp_total}
use Rattle.cell_key.specs.Places.{Place}
use Rattle.rows.specs.Calls.{IsRowFrom}

-- there is a row from each place on
pub some_row : (after : Option Place) → (row : List ℕ) × IsRowFrom after row
some_row None = ([], tt)
some_row (Some place) = (place.0, λ less. let tied = tied_itself nat_list_cmp_total place.0 in let never : ⊥ = cc in absurd never)
