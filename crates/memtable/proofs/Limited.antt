-- Edits of a row are within the limits.
use Rattle.std.proofs.Common.{ℕ, List, [], ◌∷◌, refl}
use Rattle.std.specs.List.{AllByRecursion}
use Rattle.cell_key.specs.Cells.{IsEditOf}
use Rattle.cell_key.specs.declared.edits.Edit.{Edit}
use Rattle.memtable.specs.Edits.{IsLimited}

pub limited : (row : List ℕ) (edit : Edit) → IsEditOf row edit → IsLimited edit
limited row edit is = record { under = refl; from = is.from; to = is.to; value = is.value }

pub all_limited : (row : List ℕ) (edits : List Edit) → AllByRecursion (IsEditOf row) edits → AllByRecursion IsLimited edits
all_limited row [] all = tt
all_limited row (edit ∷ edits) all = (limited row edit all.0, all_limited row edits all.1)
