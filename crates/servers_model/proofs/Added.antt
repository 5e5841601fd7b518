-- Data that is added to the cells is of an active session.
use Rattle.std.proofs.Common.{◌≡◌, ℕ, List, Some, None, inl, inr, sym, subst, ◌∙◌}
use Rattle.std.proofs.lemmas.Option.{none-some}
use Rattle.cell_key.specs.Cells.{Cells}
use Rattle.cell_key.specs.Columns.{lock_text, record_text}
use Rattle.cell_key.specs.declared.keys.Qualifier.TheVariants.{Data, Lock, Write}
use Rattle.std.specs.FinMap.{insert}
use Rattle.si_model.specs.Collection.{ChangesCells, unchanged, locks_cell, records_commit, erases_lock, erases_versions}
use Rattle.si_model.specs.Machine.{State, Phase, InPhase}
use Rattle.si_model.specs.ShowsCells.{at, changed_cells, key_of, kind_of_change}
use Rattle.si_model.specs.declared.replies.Cell.{Cell}
use Rattle.si_model.proofs.ShownAt.{changed_was, erased_off, key_stamp, no_data_lock, no_data_write, put_off}

pub data_joins : (cells cells' : Cells) (st : State) → ChangesCells cells st cells' → (x : Cell) (t : ℕ) (b : List ℕ) → at cells' x Data t ≡ Some b → at cells x Data t ≡ None → (p : Phase) × InPhase st t p
data_joins cells _ st unchanged x t b h none = absurd (none-some b (sym none ∙ h))
data_joins cells _ st (locks_cell y u p v first active) x t b h none =
    let put = changed_cells cells y u v in
    let same = put_off put (key_of y Lock u) (lock_text first.row first.family (kind_of_change v)) (key_of x Data t) (no_data_lock x y t u) in
    elim (changed_was cells y u v (key_of x Data t) b (sym same ∙ h)) [
      | inl was ↦ absurd (none-some b (sym none ∙ was))
      | inr (e, given) ↦ (p, subst (λ (n : ℕ). InPhase st n p) (sym (key_stamp x y Data Data t u e)) active)
    ]
data_joins cells _ st (records_commit y u c kind m by) x t b h none =
    let put = insert cells (key_of y Write c) (record_text u kind) in
    let one = erased_off put (key_of y Lock u) (key_of x Data t) (no_data_lock x y t u) in
    let two = put_off cells (key_of y Write c) (record_text u kind) (key_of x Data t) (no_data_write x y t c) in
    absurd (none-some b (sym none ∙ (sym two ∙ (sym one ∙ h))))
data_joins cells _ st (erases_lock y u) x t b h none = absurd (none-some b (sym none ∙ (sym (erased_off cells (key_of y Lock u) (key_of x Data t) (no_data_lock x y t u)) ∙ h)))
data_joins cells _ st (erases_versions cells' collects) x t b h none = absurd (elim (collects.values x t) [
  | inl same ↦ none-some b (sym none ∙ (sym same ∙ h))
  | inr gone ↦ none-some b (sym gone.0 ∙ h)
])
