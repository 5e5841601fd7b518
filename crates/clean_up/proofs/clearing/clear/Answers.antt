use Rattle.std.proofs.Common.{◌≡◌, ◌∙◌, ℕ, List, Option, Some, None, refl, sym, ap, subst, arith}
use Rattle.std.specs.Prelude.{option_map}
use Rattle.std.specs.declared.vec.Vec.{Vec}
use Rattle.cell_key.specs.Cells.{Cells, IsNewest}
use Rattle.cell_key.specs.Versions.{stamped}
use Rattle.cell_key.specs.declared.edits.Edit.{Edit}
use Rattle.cell_key.specs.declared.keys.Qualifier.TheVariants.{Lock}
use Rattle.cell_key.specs.Columns.{IsParted}
use Rattle.cell_key.specs.declared.columns.WriteKind.{WriteKind}
use Rattle.cell_key.proofs.Passed.{passed_on}
use Rattle.rows.proofs.Calls.{applies_after}
use Rattle.si_model.specs.ShowsCells.{at, key_of}
use Rattle.si_model.specs.declared.replies.Cell.{Cell}
use Rattle.clean_up.specs.Room.{ClearsCell, IsClearing}
use Rattle.clean_up.proofs.clearing.clear.Goals as goal

module _ {Z : Type 0} (cells : Cells) (x : Cell) (s t q : ℕ) (found : Option (ℕ × Vec ℕ Z)) (text : Vec ℕ Z) (now place : List ℕ) (kind : WriteKind)
    (is : found ≡ Some (q, text)) (same : s ≡ t) (value : now ≡ text.items) (parted : IsParted now place kind) where
  stands : IsNewest cells (key_of x Lock) s s (option_map stamped found) → at cells x Lock t ≡ Some now
  stands newest =
      let found : IsNewest cells (key_of x Lock) s s (Some (q, text.items)) = subst (λ (f : Option (ℕ × Vec ℕ Z)). IsNewest cells (key_of x Lock) s s (option_map stamped f)) is newest in
      let low = found.0 in
      let high = found.1 in
      let stamp : q ≡ t = omega (arith, low, high, same) in
      ap (λ (n : ℕ). at cells x Lock n) (sym stamp) ∙ (found.2 ∙ ap (λ (l : List ℕ). Some l) (sym value))

  -- these edits clear the cell
  clears : (Holds : Type 0) (commit : Option ℕ) (edits : List Edit) → (Holds → IsNewest cells (key_of x Lock) s s (option_map stamped found)) → IsClearing x t commit kind edits → ClearsCell Holds cells x t commit x.row edits
  clears Holds None edits newest made = (refl, λ held. (now, stands (newest held)), made)
  clears Holds (Some c) edits newest made = (kind, λ held. (now, place, stands (newest held), parted), (refl, λ held. (now, stands (newest held)), made))

pub returns-clause-made : goal.returns-clause-made
returns-clause-made g c = record {
  row = c.args.cell.now.row;
  edits = c.in_ok-edits.edits.items;
  such = clears (g.R.Rows.seen.cells c.args.rows.now) c.args.cell.now c.stamp-stamp.result c.args.start c.in-Some.field-0-0 c.in_ok-lock.lock c.in-Some.text c.deref.result.now c.kind_of-kind.ensures.0 c.kind_of-kind.result
      c.in-Some.is c.stamp-stamp.ensures.stamp c.deref.ensures.value c.kind_of-kind.ensures.1 (g.R.Rows.seen.holds c.args.rows.now) c.args.commit c.in_ok-edits.edits.items
      (λ held. c.in_ok-lock.ensures.found (g.R.Rows.seen.each_readable c.args.rows.now held c.args.cell.now.row)) c.in_ok-edits.ensures.clearing;
  applied = applies_after c.in_ok-lock.ensures.reads c.in_ok-apply.ensures.ok;
}

pub returns-in_err-apply-clause-full : goal.returns-in_err-apply-clause-full
returns-in_err-apply-clause-full g c = λ is. (
  c.args.cell.now.row,
  c.in_ok-edits.edits.items,
  clears (g.R.Rows.seen.cells c.args.rows.now) c.args.cell.now c.stamp-stamp.result c.args.start c.in-Some.field-0-0 c.in_ok-lock.lock c.in-Some.text c.deref.result.now c.kind_of-kind.ensures.0 c.kind_of-kind.result
      c.in-Some.is c.stamp-stamp.ensures.stamp c.deref.ensures.value c.kind_of-kind.ensures.1 (g.R.Rows.seen.holds c.args.rows.now) c.args.commit c.in_ok-edits.edits.items
      (λ held. c.in_ok-lock.ensures.found (g.R.Rows.seen.each_readable c.args.rows.now held c.args.cell.now.row)) c.in_ok-edits.ensures.clearing,
  c.in_ok-lock.ensures.reads.room _ _ (c.in_err-apply.ensures.full (passed_on c.from_residual-in_err-apply.result _ c.in_err-apply.field-0.0 _ c.from_residual-in_err-apply.ensures.1 refl is)),
)
