use Rattle.std.proofs.Common.{ap, sym, subst, ◌∙◌}
use Rattle.sorted_file.specs.Bounds.{front, IsWithin}
use Rattle.sorted_file.specs.declared.bounds.Bounds.{Bounds}
use Rattle.sorted_file.proofs.bounds.ColumnBounds.meet_column.Goals as goal

pub returns-then-meets : goal.returns-then-meets
returns-then-meets c = λ no s low high within.
    c.has_front.ensures no c.args.key.now.row s (c.front_of.ensures ∙ ap front c.as_bytes.ensures.bytes)
    (subst (λ (p : Bounds). IsWithin p c.args.key.now.row s) (sym c.of-bounds.ensures) within)

pub returns-else-meets : goal.returns-else-meets
returns-else-meets c = λ no s low high within.
    c.meets.ensures no c.args.key.now.row s low high
    (subst (λ (p : Bounds). IsWithin p c.args.key.now.row s) (sym c.of-bounds.ensures) within)
