use Rattle.std.proofs.Common.{◌≡◌, ◌≢◌, Some, None, refl, sym, ap, subst, ◌∙◌, is_some, false}
use Rattle.std.proofs.lemmas.Result.{IfOk-from_err}
use Rattle.cell_key.specs.declared.keys.CellKey.{CellKey}
use Rattle.cell_key.proofs.KeyLaws.{same_key}
use Rattle.rows.specs.Slots.{HasSlot, slot_at}
use Rattle.rows.proofs.SlotLemmas.{content, cells_same, absent_none, elsewhere, set_has, set_keeps}
use Rattle.rows.proofs.slots.make_slot.Goals as goal

-- an empty slot is no cell
pub returns-in_ok-insert-clause-same : goal.returns-in_ok-insert-clause-same
returns-in_ok-insert-clause-same c =
    let old = c.args.slots.now.entries in
    let new = c.insert.new.self.entries in
    let same : c.in_ok-clone.field-0 ≡ c.args.key.now = same_key c.in_ok-clone.field-0 c.args.key.now c.in_ok-clone.ensures.cases in
    let none : is_some (slot_at old c.in_ok-clone.field-0) ≡ false = ap (λ (k : CellKey). is_some (slot_at old k)) same ∙ sym c.if-not-contains_key.ensures in
    cells_same old new c.in_ok-clone.field-0 (Some None) refl (ap content (absent_none (slot_at old c.in_ok-clone.field-0) none)) c.in_ok-insert.ensures.updates.0

pub returns-in_ok-insert-clause-empties : goal.returns-in_ok-insert-clause-empties
returns-in_ok-insert-clause-empties c q apart empty =
    let same : c.in_ok-clone.field-0 ≡ c.args.key.now = same_key c.in_ok-clone.field-0 c.args.key.now c.in_ok-clone.ensures.cases in
    let differs : c.in_ok-clone.field-0 ≢ q = λ e. apart (sym same ∙ e) in
    sym (elsewhere c.args.slots.now.entries c.insert.new.self.entries c.in_ok-clone.field-0 (Some None) c.in_ok-insert.ensures.updates.0 q differs) ∙ empty

pub returns-in_ok-insert-clause-kept : goal.returns-in_ok-insert-clause-kept
returns-in_ok-insert-clause-kept c = set_keeps c.args.slots.now.entries c.insert.new.self.entries c.in_ok-clone.field-0 None c.in_ok-insert.ensures.updates.0

pub returns-in_ok-insert-clause-slot : goal.returns-in_ok-insert-clause-slot
returns-in_ok-insert-clause-slot c =
    let same : c.in_ok-clone.field-0 ≡ c.args.key.now = same_key c.in_ok-clone.field-0 c.args.key.now c.in_ok-clone.ensures.cases in
    subst (HasSlot c.insert.new.self.entries) same (set_has c.args.slots.now.entries c.insert.new.self.entries c.in_ok-clone.field-0 None c.in_ok-insert.ensures.updates.0)

pub returns-in_err-clone-clause-same : goal.returns-in_err-clone-clause-same
returns-in_err-clone-clause-same c = refl

pub returns-in_err-clone-clause-kept : goal.returns-in_err-clone-clause-kept
returns-in_err-clone-clause-kept c = λ q has. has

pub returns-in_err-clone-clause-empties : goal.returns-in_err-clone-clause-empties
returns-in_err-clone-clause-empties c = λ q apart empty. empty

pub returns-else-not-contains_key-clause-same : goal.returns-else-not-contains_key-clause-same
returns-else-not-contains_key-clause-same c = refl

pub returns-else-not-contains_key-clause-kept : goal.returns-else-not-contains_key-clause-kept
returns-else-not-contains_key-clause-kept c = λ q has. has

pub returns-else-not-contains_key-clause-empties : goal.returns-else-not-contains_key-clause-empties
returns-else-not-contains_key-clause-empties c = λ q apart empty. empty

pub returns-in_err-clone-clause-slot : goal.returns-in_err-clone-clause-slot
returns-in_err-clone-clause-slot c = IfOk-from_err c.from_residual.result _ c.from_residual.ensures.0

pub returns-in_err-insert-clause-slot : goal.returns-in_err-insert-clause-slot
returns-in_err-insert-clause-slot c = IfOk-from_err c.from_residual-in_err-insert.result _ c.from_residual-in_err-insert.ensures.0
