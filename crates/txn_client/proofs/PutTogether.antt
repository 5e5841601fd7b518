-- The edits of writes that are put with their records.
use Rattle.std.proofs.Common.{◌≡◌, ◌∙◌, ℕ, [], ◌∷◌, ◌++◌, zero, List, length, Option, Some, None, refl, sym, subst, ap, arith}
use Rattle.std.specs.Prelude.{option_to_list}
use Rattle.std.specs.List.{AllByRecursion}
use Rattle.std.proofs.lemmas.Grind.{flat_map-append}
use Rattle.std.proofs.lemmas.List.{append_assoc, append-nil, length-append}
use Rattle.cell_key.specs.Cells.{Cells, after_edits}
use Rattle.cell_key.specs.declared.edits.Edit.{Edit}
use Rattle.cell_key.specs.declared.edits.Edit.TheVariants.{Put, Erase}
use Rattle.rows.specs.Room.{OverfillsOne}
use Rattle.rows.specs.RowEdits.{AreOfTheirRow, all_edits}
use Rattle.rows.specs.declared.row_edits.RowEdits.{RowEdits}
use Rattle.si_model.specs.Machine.{Change, Writes}
use Rattle.si_model.specs.PutCells.{all_put_cells, put_cells}
use Rattle.si_model.specs.declared.replies.Cell.{Cell}
use Rattle.si_model.proofs.EditedCells.{put_so}
use Rattle.txn_client.specs.Puts.{ArePuttings, IsPutting}
use Rattle.txn_client.specs.Writes.{write_of}
use Rattle.txn_client.specs.declared.writes.Write.{Write}

putting_makes : (cells : Cells) (x : Cell) (s c : ℕ) (v : Change) (edits : List Edit) → IsPutting x s c v edits → after_edits cells edits ≡ put_cells cells x v s c
putting_makes cells x s c (Some v) [] is = absurd is
putting_makes cells x s c (Some v) (a ∷ []) is = absurd is
putting_makes cells x s c (Some v) (a ∷ b ∷ []) (value, text) = put_so cells a (b ∷ []) _ _ value ∙ put_so _ b [] _ _ text
putting_makes cells x s c (Some v) (a ∷ b ∷ d ∷ es) is = absurd is
putting_makes cells x s c None [] is = absurd is
putting_makes cells x s c None (a ∷ []) text = put_so cells a [] _ _ text
putting_makes cells x s c None (a ∷ b ∷ es) is = absurd is

edits_then : (es fs : List Edit) (cells : Cells) → after_edits cells (es ++ fs) ≡ after_edits (after_edits cells es) fs
edits_then [] fs cells = refl
edits_then (Put k v ∷ es) fs cells = edits_then es fs _
edits_then (Erase k ∷ es) fs cells = edits_then es fs _

-- the edits of one more write, and then those of the writes that are left
pub made_more : (s c : ℕ) (w : Write) (rest all : Writes) (changes now : List RowEdits) (change : RowEdits) → IsPutting w.cell s c w.value change.edits.items → now ≡ changes ++ change ∷ []
    → ((cells : Cells) → all_put_cells (after_edits cells (all_edits changes)) (write_of w ∷ rest) s c ≡ all_put_cells cells all s c) → (cells : Cells) → all_put_cells (after_edits cells (all_edits now)) rest s c ≡ all_put_cells cells all s c
made_more s c w rest all changes now change putting is made cells =
    ap (λ (m : Cells). all_put_cells m rest s c)
    (ap (λ (l : List RowEdits). after_edits cells (all_edits l)) is
    ∙ (ap (after_edits cells) (flat_map-append (λ (k : RowEdits). k.edits.items) changes (change ∷ []))
    ∙ (edits_then (all_edits changes) (all_edits (change ∷ [])) cells
    ∙ (edits_then change.edits.items [] (after_edits cells (all_edits changes))
    ∙ putting_makes (after_edits cells (all_edits changes)) w.cell s c w.value change.edits.items putting))))
    ∙ made cells

pub under_more : (changes now : List RowEdits) (change : RowEdits) → now ≡ changes ++ change ∷ [] → AllByRecursion AreOfTheirRow changes → AreOfTheirRow change → AllByRecursion AreOfTheirRow now
under_more changes now change is all one = subst (AllByRecursion AreOfTheirRow) (sym is) (joined changes all)
  where
    joined : (l : List RowEdits) → AllByRecursion AreOfTheirRow l → AllByRecursion AreOfTheirRow (l ++ change ∷ [])
    joined [] h = (one, tt)
    joined (k ∷ l) h = (h.0, joined l h.1)

pub puttings_more : (s c : ℕ) (w : Write) (rest all : Writes) (changes now : List RowEdits) (change : RowEdits) → change.row ≡ w.cell.row → IsPutting w.cell s c w.value change.edits.items → now ≡ changes ++ change ∷ []
    → ((more : List RowEdits) → ArePuttings s c (write_of w ∷ rest) more → ArePuttings s c all (changes ++ more)) → (more : List RowEdits) → ArePuttings s c rest more → ArePuttings s c all (now ++ more)
puttings_more s c w rest all changes now change row putting is so more h =
    subst (ArePuttings s c all) (sym (ap (λ (l : List RowEdits). l ++ more) is ∙ append_assoc changes (change ∷ []) more)) (so (change ∷ more) (row, putting, h))

-- the only change of a list is the one that was taken from its end
pub only_change : (changes rest : List RowEdits) (last : Option RowEdits) (change : RowEdits) → length changes ≡ 1 → changes ≡ rest ++ option_to_list last → last ≡ Some change → changes ≡ change ∷ []
only_change changes [] last change one is some = is ∙ ap option_to_list some
only_change changes (y ∷ ys) last change one is some =
    let n = ap length is in
    let m = length-append ys (option_to_list last) in
    let k = ap (λ (o : Option RowEdits). length (option_to_list o)) some in
    absurd (omega (arith, one, n, m, k))

-- the edits of one row exceed a limit
pub overfills_one : {R : Type 0} (overfills : R → List ℕ → List Edit → Type 0) (rows : R) (change : RowEdits) → overfills rows change.row change.edits.items → OverfillsOne overfills (change ∷ []) rows
overfills_one overfills rows change over = record { change = change; among = (zero, omega arith, refl); over = subst (overfills rows change.row) (sym (append-nil change.edits.items)) over }

-- each row of the edits is readable
pub each_row : (Readable : List ℕ → Type 0) → ((row : List ℕ) → Readable row) → (changes : List RowEdits) → AllByRecursion (λ (change : RowEdits). Readable change.row) changes
each_row R each [] = tt
each_row R each (change ∷ changes) = (each change.row, each_row R each changes)
