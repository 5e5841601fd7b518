-- What reads and edits of remote rows leave.
use Rattle.std.proofs.Common.{◌≡◌, ℕ, List, Option, Some, None, IfSome, refl, sym, ap, subst, ◌∙◌}
use Rattle.std.specs.Prelude.{unwrap_or}
use Rattle.std.specs.FinMap.{empty, get}
use Rattle.cell_key.specs.Cells.{Cells, after_edits}
use Rattle.cell_key.specs.declared.edits.Edit.{Edit}
use Rattle.rows.specs.Calls.{Applies, OnlyReads, View}
use Rattle.rows.specs.Storage.{no_storage}
use Rattle.remote_rows.specs.Shown.{IsHeldOf, IsShown, Shows, shown_cells}
use Rattle.remote_rows.specs.Wires.{KeepsRows, Makes, WireView}
use Rattle.remote_rows.specs.declared.held_row.HeldRow.{HeldRow}

module _ {W : Type 0} (seen : WireView W) where
  pub keeps_then : (a b c : W) → KeepsRows seen a b → KeepsRows seen b c → KeepsRows seen a c
  keeps_then a b c first second = record { cells = second.cells ∙ first.cells; guard = λ row. second.guard row ∙ first.guard row }

  pub keeps_same : (a b : W) → b ≡ a → KeepsRows seen a b
  keeps_same a b is = record { cells = ap seen.cells is; guard = λ row. ap (λ (w : W). seen.guard w row) is }

  -- a row in memory is one of the cells that are told, as long as those are kept
  still_held : (cells : Cells) (a b : W) (held : Option HeldRow) → KeepsRows seen a b → IfSome held (IsHeldOf cells (seen.guard a)) → IfSome held (IsHeldOf cells (seen.guard b))
  still_held cells a b None keeps is = tt
  still_held cells a b (Some held) keeps is = record { guard_is = is.guard_is ∙ sym (keeps.guard held.row); same = is.same }

  pub told_cells : (wire : W) (held : Option HeldRow) (cells : Cells) → Shows seen wire held cells → shown_cells seen wire ≡ cells
  told_cells wire held cells shows = ap (λ (o : Option Cells). unwrap_or o empty) shows.told

  pub nothing_held : (held : Option HeldRow) (P : HeldRow → Type 0) → held ≡ None → IfSome held P
  nothing_held held P none = subst (λ (o : Option HeldRow). IfSome o P) (sym none) tt

  module _ {R : Type 0} (wire : R → W) (held : R → Option HeldRow) where
    abbrev pub remote_view : View R
    remote_view = record {
      holds = λ rows. IsShown seen (wire rows) (held rows);
      readable = λ rows _. IsShown seen (wire rows) (held rows);
      each_readable = λ _ shown _. shown;
      cells = λ rows. shown_cells seen (wire rows);
      overfills = λ _ _ _. ⊥;
      storage = λ _. no_storage;
    }

    still_shown : (a b : R) → KeepsRows seen (wire a) (wire b) → ((cells : Cells) → Shows seen (wire a) (held a) cells → IfSome (held b) (IsHeldOf cells (seen.guard (wire a)))) → IsShown seen (wire a) (held a) → IsShown seen (wire b) (held b)
    still_shown a b keeps one (cells, shows) = (cells, record { told = keeps.cells ∙ shows.told; one = still_held cells (wire a) (wire b) (held b) keeps (one cells shows) })

    pub reads : (a b : R) → KeepsRows seen (wire a) (wire b) → ((cells : Cells) → Shows seen (wire a) (held a) cells → IfSome (held b) (IsHeldOf cells (seen.guard (wire a)))) → OnlyReads remote_view a b
    reads a b keeps one = record {
      still = still_shown a b keeps one;
      readable = λ row shown. still_shown a b keeps one shown;
      kept = ap (λ (o : Option Cells). unwrap_or o empty) keeps.cells;
      room = λ row later never. never;
      stays = refl;
    }

    -- the row in memory is as it was
    pub reads_apart : (a b : R) → KeepsRows seen (wire a) (wire b) → held b ≡ held a → OnlyReads remote_view a b
    reads_apart a b keeps same = reads a b keeps (λ cells shows. subst (λ (o : Option HeldRow). IfSome o (IsHeldOf cells (seen.guard (wire a)))) (sym same) shows.one)

    -- no row is in memory then
    pub reads_none : (a b : R) → KeepsRows seen (wire a) (wire b) → held b ≡ None → OnlyReads remote_view a b
    reads_none a b keeps none = reads a b keeps (λ cells shows. nothing_held (held b) (IsHeldOf cells (seen.guard (wire a))) none)

    -- the edits of a row were made with the guard that it was read with
    made : (row : List ℕ) (edits : List Edit) (cells : Cells) (w w' : W) → seen.cells w ≡ Some cells → IfSome (seen.cells w) (λ cells. seen.cells w' ≡ Some (after_edits cells edits)) → seen.cells w' ≡ Some (after_edits cells edits)
    made row edits cells w w' told is = subst (λ (o : Option Cells). IfSome o (λ cells. seen.cells w' ≡ Some (after_edits cells edits))) told is

    then_told : (row : List ℕ) (edits : List Edit) (one : HeldRow) (a b : R) (w : W) → KeepsRows seen (wire a) w → one.row ≡ row → ((cells : Cells) → Shows seen (wire a) (held a) cells → IsHeldOf cells (seen.guard (wire a)) one) → Makes seen row one.guard edits w (wire b) → (cells : Cells) → Shows seen (wire a) (held a) cells → seen.cells (wire b) ≡ Some (after_edits cells edits)
    then_told row edits one a b w keeps of_row is makes cells shows =
        let guard = (is cells shows).guard_is ∙ (ap (seen.guard (wire a)) of_row ∙ sym (keeps.guard row)) in
        made row edits cells w (wire b) (keeps.cells ∙ shows.told) (makes guard)

    pub applies : (row : List ℕ) (edits : List Edit) (one : HeldRow) (a b : R) (w : W) → KeepsRows seen (wire a) w → one.row ≡ row → ((cells : Cells) → Shows seen (wire a) (held a) cells → IsHeldOf cells (seen.guard (wire a)) one) → Makes seen row one.guard edits w (wire b) → held b ≡ None → Applies remote_view row edits a b
    applies row edits one a b w keeps of_row is makes none =
        let then : IsShown seen (wire a) (held a) → IsShown seen (wire b) (held b) = λ (cells, shows). (after_edits cells edits, record { told = then_told row edits one a b w keeps of_row is makes cells shows; one = nothing_held (held b) (IsHeldOf (after_edits cells edits) (seen.guard (wire b))) none }) in
        record {
          still = then;
          readable = λ row shown. then shown;
          made = λ (cells, shows).
              ap (λ (o : Option Cells). unwrap_or o empty) (then_told row edits one a b w keeps of_row is makes cells shows)
              ∙ ap (λ (c : Cells). after_edits c edits) (sym (told_cells (wire a) (held a) cells shows));
          room = λ r later never. absurd never;
          stays = refl;
        }

-- a row in memory after it was looked at
pub held_too : (cells : Cells) (guard : List ℕ → ℕ) (held : HeldRow) (rows : Cells) → rows ≡ held.rows → IsHeldOf cells guard held → IsHeldOf cells guard (record { row = held.row; guard = held.guard; rows = rows })
held_too cells guard held rows same is = record {
  guard_is = is.guard_is;
  same = λ key under. ap (λ (cs : Cells). get cs key) same ∙ is.same key under;
}
