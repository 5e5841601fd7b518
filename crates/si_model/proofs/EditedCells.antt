-- The effect of a row transaction's edits on the cells.
use Rattle.std.proofs.Common.{◌≡◌, ◌∙◌, ℕ, List, [], ◌∷◌, ap}
use Rattle.std.specs.FinMap.{insert, remove}
use Rattle.cell_key.specs.Cells.{Cells, after_edits}
use Rattle.cell_key.specs.declared.edits.Edit.{Edit}
use Rattle.cell_key.specs.declared.edits.Edit.TheVariants.{Put, Erase}
use Rattle.cell_key.specs.declared.keys.CellKey.{CellKey}
use Rattle.cell_key.specs.LockEdits.{IsPut, IsErase, IsRecording, IsErasing}
use Rattle.cell_key.specs.declared.columns.WriteKind.{WriteKind}
use Rattle.si_model.specs.Edits.{MakeCells}
use Rattle.si_model.specs.ShowsCells.{recorded_cells, erased_cells}
use Rattle.si_model.specs.declared.replies.Cell.{Cell}

pub put_so : (cells : Cells) (e : Edit) (es : List Edit) (key : CellKey) (bytes : List ℕ) → IsPut e key bytes → after_edits cells (e ∷ es) ≡ after_edits (insert cells key bytes) es
put_so cells (Put at value) es key bytes (same, text) = ap (λ (k : CellKey). after_edits (insert cells k value.items) es) same ∙ ap (λ (b : List ℕ). after_edits (insert cells key b) es) text
put_so cells (Erase at) es key bytes is = absurd is

erase_so : (cells : Cells) (e : Edit) (es : List Edit) (key : CellKey) → IsErase e key → after_edits cells (e ∷ es) ≡ after_edits (remove cells key) es
erase_so cells (Erase at) es key same = ap (λ (k : CellKey). after_edits (remove cells k) es) same
erase_so cells (Put at value) es key is = absurd is

recording_makes : (cells : Cells) (x : Cell) (t c : ℕ) (kind : WriteKind) (edits : List Edit) → IsRecording x.row x.family t c kind edits → after_edits cells edits ≡ recorded_cells cells x t c kind
recording_makes cells x t c kind [] is = absurd is
recording_makes cells x t c kind (a ∷ []) is = absurd is
recording_makes cells x t c kind (a ∷ b ∷ []) (written, lock) = put_so cells a (b ∷ []) _ _ written ∙ erase_so _ b [] _ lock
recording_makes cells x t c kind (a ∷ b ∷ d ∷ es) is = absurd is

erasing_makes : (cells : Cells) (x : Cell) (t : ℕ) (edits : List Edit) → IsErasing x.row x.family t edits → after_edits cells edits ≡ erased_cells cells x t
erasing_makes cells x t [] is = absurd is
erasing_makes cells x t (a ∷ []) lock = erase_so cells a [] _ lock
erasing_makes cells x t (a ∷ b ∷ es) is = absurd is

pub make_cells : (cells : Cells) (x : Cell) (t : ℕ) (edits : List Edit) → MakeCells cells x t edits
make_cells cells x t edits = record { recorded = λ c kind. recording_makes cells x t c kind edits; erased = erasing_makes cells x t edits }
