use Rattle.std.proofs.Common.{◌≢◌, ◌∷◌, List, sym, ap, subst, ◌∙◌}
use Rattle.std.specs.List.{AllByRecursion}
use Rattle.std.specs.Vec.Iter.{into_iter_items}
use Rattle.cell_key.specs.Cells.{Cells, after_edits, edited_key}
use Rattle.cell_key.specs.declared.edits.Edit.{Edit}
use Rattle.rows.specs.Slots.{slot_cells, HasEdited}
use Rattle.rows.proofs.SlotLemmas.{slots_kept}
use Rattle.rows.proofs.slots.write_all.Goals as goal

pub write-requires : goal.write-requires
write-requires c =
    let all : AllByRecursion (HasEdited c.loop-edit.slots.entries) (c.in-Some.edit ∷ into_iter_items c.next.new.self) =
    subst (λ (es : List Edit). AllByRecursion (HasEdited c.loop-edit.slots.entries) es) c.in-Some.ensures.steps.0 c.loop-edit.invariant.slots in
    all.0

pub loop-edit-preserved : goal.loop-edit-preserved
loop-edit-preserved c =
    let rest = into_iter_items c.next.new.self in
    let first = c.in-Some.ensures.steps.0 in
    let old = c.loop-edit.slots.entries in
    let all : AllByRecursion (HasEdited old) (c.in-Some.edit ∷ rest) = subst (λ (es : List Edit). AllByRecursion (HasEdited old) es) first c.loop-edit.invariant.slots in
    record {
      cells =
          ap (λ (m : Cells). after_edits m rest) c.write.ensures.cells
          ∙ ap (after_edits (slot_cells old)) (sym first)
          ∙ c.loop-edit.invariant.cells;
      slots = slots_kept old c.write.new.slots.entries c.write.ensures.kept rest all.1;
      empties = λ q others.
          let before = c.loop-edit.invariant.empties q others in
          let left : AllByRecursion (λ (edit : Edit). edited_key edit ≢ q) (c.in-Some.edit ∷ rest) = subst (λ (es : List Edit). AllByRecursion (λ (edit : Edit). edited_key edit ≢ q) es) first before.0 in
          (left.1, λ empty. before.1 (c.write.ensures.empties q left.0 empty));
    }
