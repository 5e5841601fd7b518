use Rattle.std.proofs.Common.{sym, subst}
use Rattle.sorted_file.specs.Bounds.{IsWithin}
use Rattle.sorted_file.specs.declared.bounds.Bounds.{Bounds}
use Rattle.sorted_file.proofs.bounds.ColumnBounds.meet.Goals as goal

pub returns : goal.returns
returns c = λ no row s low high within.
    c.meets.ensures no row s low high (subst (λ (p : Bounds). IsWithin p row s) (sym c.of.ensures) within)
