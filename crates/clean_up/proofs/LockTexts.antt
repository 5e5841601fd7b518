-- The kind of a write in the lock of a shown mark.
use Rattle.std.proofs.Common.{◌≡◌, ℕ, sym, ◌∙◌, subst}
use Rattle.std.proofs.lemmas.Option.{same_Some}
use Rattle.cell_key.specs.Cells.{Cells}
use Rattle.cell_key.specs.Columns.{IsLockText}
use Rattle.cell_key.specs.declared.columns.WriteKind.{WriteKind}
use Rattle.cell_key.proofs.LockTexts.{one_part}
use Rattle.si_model.specs.Machine.{State}
use Rattle.si_model.specs.ShowsCells.{ShowsMark, kind_of_change}
use Rattle.si_model.specs.declared.replies.Cell.{Cell}
use Rattle.clean_up.specs.Locks.{TellsKind}

-- the kind in the lock of a shown mark is the kind of its start's write
pub told_kind : (cells : Cells) (st : State) (x : Cell) (t : ℕ) (kind : WriteKind) → (m : ShowsMark cells st x t) → TellsKind cells x t kind → kind ≡ kind_of_change m.change
told_kind cells st x t kind m (text, place, there, parted) =
    (one_part m.first.row m.first.family (kind_of_change m.change) kind text place (subst (IsLockText m.first.row m.first.family (kind_of_change m.change)) (same_Some m.text text (sym m.lock ∙ there)) m.is_text) parted).1
