use Rattle.std.proofs.Common.{sym, subst}
use Rattle.cell_key.specs.Cells.{Cells}
use Rattle.rows.specs.Slots.{slot_cells}
use Rattle.cell_key.specs.Versions.{HasLimits}
use Rattle.rows.proofs.Limits.{edits_keep}
use Rattle.rows.proofs.plain.PlainRowsRows.apply.Goals as goal

pub invariant_of-self : goal.invariant_of-self
invariant_of-self c =
    record {
      full = c.apply.ensures.full;
      limits = subst (λ (m : Cells). HasLimits m) (sym c.in_err-apply.ensures.err) c.self.invariant.limits;
    }

pub invariant_of-self-2 : goal.invariant_of-self-2
invariant_of-self-2 c =
    record {
      full = c.apply.ensures.full;
      limits = subst (λ (m : Cells). HasLimits m) (sym c.in_ok-apply.ensures.ok) (edits_keep c.args._row.now (slot_cells c.self.inside.slots.entries) c.args.edits.items c.requires c.self.invariant.limits);
    }
