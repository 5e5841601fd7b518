-- The changes of a client's row transactions.
use Rattle.std.proofs.Common.{◌≡◌, ◌≢◌, ℕ, inl, inr, sym, ap, ◌∙◌}
use Rattle.std.specs.FinMap.{get, insert}
use Rattle.std.proofs.lemmas.Option.{none-some}
use Rattle.cell_key.specs.Cells.{Cells}
use Rattle.cell_key.specs.declared.keys.CellKey.{CellKey}
use Rattle.cell_key.specs.declared.keys.Qualifier.TheVariants.{Data, Lock, Write}
use Rattle.cell_key.specs.Columns.{lock_text, record_text}
use Rattle.cell_key.specs.declared.columns.WriteKind.{WriteKind}
use Rattle.si_model.specs.Machine.{Change}
use Rattle.si_model.specs.declared.replies.Cell.{Cell}
use Rattle.si_model.specs.ShowsCells.{key_of, kind_of_change, changed_cells, held_cells, recorded_cells, erased_cells, Touches}
use Rattle.si_model.proofs.ShownAt.{cases_key, put_at, put_off, erased_off, changed_off, changed_there}

module _ (cells : Cells) (x : Cell) (s c : ℕ) where
  pub touches_held : (v : Change) (first : Cell) → Touches cells (held_cells cells x s v first) x.row s c
  touches_held v first = record {
    others = λ q ne. off q (λ e. ne (ap (λ (k : CellKey). k.row) e)) ∙ changed_off cells x s v q (λ e. ne (ap (λ (k : CellKey). k.row) e));
    joins = λ q b none some. elim (cases_key q (key_of x Lock s)) [
      | inl e ↦ inl (ap (λ (k : CellKey). k.stamp) e)
      | inr ne ↦ elim (cases_key q (key_of x Data s)) [
        | inl e ↦ inl (ap (λ (k : CellKey). k.stamp) e)
        | inr ne' ↦ absurd (none-some b (sym none ∙ (sym (off q ne ∙ changed_off cells x s v q ne') ∙ some)))
      ]
    ];
    goes = λ q b some none. elim (cases_key q (key_of x Lock s)) [
      | inl e ↦ ap (λ (k : CellKey). k.qualifier) e
      | inr ne ↦ let stays = changed_there cells x s v q b some in absurd (none-some stays.0 (sym none ∙ (off q ne ∙ stays.1)))
    ];
  }
    where
      off : (q : CellKey) → q ≢ key_of x Lock s → get (held_cells cells x s v first) q ≡ get (changed_cells cells x s v) q
      off q ne = put_off (changed_cells cells x s v) (key_of x Lock s) (lock_text first.row first.family (kind_of_change v)) q ne

  pub touches_recorded : (kind : WriteKind) → Touches cells (recorded_cells cells x s c kind) x.row s c
  touches_recorded kind = record {
    others = λ q ne. erased_off (insert cells (key_of x Write c) (record_text s kind)) (key_of x Lock s) q (λ e. ne (ap (λ (k : CellKey). k.row) e)) ∙ put_off cells (key_of x Write c) (record_text s kind) q (λ e. ne (ap (λ (k : CellKey). k.row) e));
    joins = λ q b none some. elim (cases_key q (key_of x Write c)) [
      | inl e ↦ inr (ap (λ (k : CellKey). k.stamp) e)
      | inr ne ↦ elim (cases_key q (key_of x Lock s)) [
        | inl e ↦ inl (ap (λ (k : CellKey). k.stamp) e)
        | inr ne' ↦ absurd (none-some b (sym none ∙ (sym (erased_off (insert cells (key_of x Write c) (record_text s kind)) (key_of x Lock s) q ne' ∙ put_off cells (key_of x Write c) (record_text s kind) q ne) ∙ some)))
      ]
    ];
    goes = λ q b some none. elim (cases_key q (key_of x Lock s)) [
      | inl e ↦ ap (λ (k : CellKey). k.qualifier) e
      | inr ne' ↦ elim (cases_key q (key_of x Write c)) [
        | inl e ↦ absurd (none-some (record_text s kind) (sym none ∙ (erased_off (insert cells (key_of x Write c) (record_text s kind)) (key_of x Lock s) q ne' ∙ (ap (get (insert cells (key_of x Write c) (record_text s kind))) e ∙ put_at cells (key_of x Write c) (record_text s kind)))))
        | inr ne ↦ absurd (none-some b (sym none ∙ ((erased_off (insert cells (key_of x Write c) (record_text s kind)) (key_of x Lock s) q ne' ∙ put_off cells (key_of x Write c) (record_text s kind) q ne) ∙ some)))
      ]
    ];
  }

  pub touches_erased : Touches cells (erased_cells cells x s) x.row s c
  touches_erased = record {
    others = λ q ne. erased_off cells (key_of x Lock s) q (λ e. ne (ap (λ (k : CellKey). k.row) e));
    joins = λ q b none some. elim (cases_key q (key_of x Lock s)) [
      | inl e ↦ inl (ap (λ (k : CellKey). k.stamp) e)
      | inr ne ↦ absurd (none-some b (sym none ∙ (sym (erased_off cells (key_of x Lock s) q ne) ∙ some)))
    ];
    goes = λ q b some none. elim (cases_key q (key_of x Lock s)) [
      | inl e ↦ ap (λ (k : CellKey). k.qualifier) e
      | inr ne ↦ absurd (none-some b (sym none ∙ (erased_off cells (key_of x Lock s) q ne ∙ some)))
    ];
  }
