use Rattle.std.proofs.Common.{sym, ap, subst, ◌∙◌}
use Rattle.cell_key.specs.Cells.{Cells, after_edits}
use Rattle.rows.specs.Slots.{slot_cells}
use Rattle.cell_key.specs.Versions.{HasLimits}
use Rattle.rows.proofs.Limits.{all_keep}
use Rattle.rows.proofs.plain.PlainRowsRows.apply_all.Goals as goal

pub invariant_of-self : goal.invariant_of-self
invariant_of-self c =
    record {
      full = c.apply.ensures.full;
      limits = subst (λ (m : Cells). HasLimits m) (sym c.in_err-apply.ensures.err) c.self.invariant.limits;
    }

pub invariant_of-self-2 : goal.invariant_of-self-2
invariant_of-self-2 c =
    let cells = slot_cells c.self.inside.slots.entries in
    record {
      full = c.apply.ensures.full;
      limits = subst (λ (m : Cells). HasLimits m)
          (sym (c.in_ok-apply.ensures.ok ∙ ap (λ edits. after_edits cells edits) c.in_ok-edits.ensures))
          (all_keep cells c.args.changes.items c.requires c.self.invariant.limits);
    }
