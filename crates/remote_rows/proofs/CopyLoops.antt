-- Copies of edits, one after the other.
use Rattle.std.proofs.Common.{◌≡◌, ◌≤◌, ◌<◌, ◌^◌, ℕ, List, [], ◌∷◌, ◌+◌, suc, length, drop, get_or, inl, inr, refl, sym, ap, subst, ◌∙◌, arith, drop-cons, length-drop}
use Rattle.std.proofs.lemmas.List.{nil_from_length}
use Rattle.std.specs.FinMap.{empty, get}
use Rattle.std.specs.List.{AllByRecursion}
use Rattle.cell_key.specs.Cells.{Cells, IsEditOf, after_edit, after_edits, edited_key}
use Rattle.cell_key.specs.declared.edits.Edit.{Edit}
use Rattle.cell_key.specs.declared.keys.CellKey.{CellKey}
use Rattle.rows.proofs.PushedLists.{each_push}
use Rattle.remote_rows.specs.Copies.{Appends, AppendsIfOf, IsCopyOf}
use Rattle.remote_rows.specs.Wires.{IsEdit}
use Rattle.remote_rows.proofs.EditsAt.{agree, joined, off_edited}

edit_too : (edit copy : Edit) → IsCopyOf edit copy → IsEdit edit → IsEdit copy
edit_too edit copy is whole = record {
  under = refl;
  from = subst (λ (k : CellKey). 1 ≤ k.stamp) (sym is.key) whole.from;
  to = subst (λ (k : CellKey). k.stamp < 2 ^ 63) (sym is.key) whole.to;
  value = subst (λ (n : ℕ). n ≤ 65536) (sym is.value) whole.value;
}

-- the copies so far, and then the edits that are left, make what all edits make
pub record AreCopied (all left found : List Edit) : Type 0 where
  pub made : after_edits (after_edits empty found) left ≡ after_edits empty all
  pub each : AllByRecursion IsEdit found
  pub rest : AllByRecursion IsEdit left

pub copied_none : (all left found : List Edit) → found ≡ [] → left ≡ all → AllByRecursion IsEdit all → AreCopied all left found
copied_none all left found none same whole = record {
  made = ap (λ (es : List Edit). after_edits (after_edits empty es) left) none ∙ ap (after_edits empty) same;
  each = subst (λ (es : List Edit). AllByRecursion IsEdit es) (sym none) tt;
  rest = subst (λ (es : List Edit). AllByRecursion IsEdit es) (sym same) whole;
}

pub copied_one : (all left rest found new : List Edit) (edit : Edit) → left ≡ edit ∷ rest → Appends edit found new → AreCopied all left found → AreCopied all rest new
copied_one all left rest found new edit first (copy, is, appended) so =
    let whole : AllByRecursion IsEdit (edit ∷ rest) = subst (λ (es : List Edit). AllByRecursion IsEdit es) first so.rest in
    let made : after_edits (after_edits empty found) (edit ∷ rest) ≡ after_edits empty all = subst (λ (es : List Edit). after_edits (after_edits empty found) es ≡ after_edits empty all) first so.made in
    record {
      made =
          ap (λ (es : List Edit). after_edits (after_edits empty es) rest) appended
          ∙ (ap (λ (cells : Cells). after_edits cells rest) (joined empty found (copy ∷ []) ∙ is.made (after_edits empty found))
          ∙ made);
      each = subst (λ (es : List Edit). AllByRecursion IsEdit es) (sym appended) (each_push IsEdit found copy so.each (edit_too edit copy is whole.0));
      rest = whole.1;
    }

-- the same for the edits of one row, at the keys of that row
pub record AreCopiedOf (row : List ℕ) (all left found : List Edit) : Type 0 where
  pub made : (key : CellKey) → key.row ≡ row → get (after_edits (after_edits empty found) left) key ≡ get (after_edits empty all) key
  pub each : AllByRecursion (IsEditOf row) found
  pub rest : AllByRecursion IsEdit left

pub copied_none_of : (row : List ℕ) (all left found : List Edit) → found ≡ [] → left ≡ all → AllByRecursion IsEdit all → AreCopiedOf row all left found
copied_none_of row all left found none same whole = record {
  made = λ key under. ap (λ (es : List Edit). get (after_edits (after_edits empty es) left) key) none ∙ ap (λ (es : List Edit). get (after_edits empty es) key) same;
  each = subst (λ (es : List Edit). AllByRecursion (IsEditOf row) es) (sym none) tt;
  rest = subst (λ (es : List Edit). AllByRecursion IsEdit es) (sym same) whole;
}

of_row : (row : List ℕ) (edit : Edit) → (edited_key edit).row ≡ row → IsEdit edit → IsEditOf row edit
of_row row edit is whole = record { under = is; from = whole.from; to = whole.to; value = whole.value }

pub copied_one_of : (row : List ℕ) (all left rest found new : List Edit) (edit : Edit) → left ≡ edit ∷ rest → AppendsIfOf row edit found new → AreCopiedOf row all left found → AreCopiedOf row all rest new
copied_one_of row all left rest found new edit first (inl (here, (copy, is, appended))) so =
    let whole : AllByRecursion IsEdit (edit ∷ rest) = subst (λ (es : List Edit). AllByRecursion IsEdit es) first so.rest in
    record {
      made = λ key under.
          ap (λ (es : List Edit). get (after_edits (after_edits empty es) rest) key) appended
          ∙ (ap (λ (cells : Cells). get (after_edits cells rest) key) (joined empty found (copy ∷ []) ∙ is.made (after_edits empty found))
          ∙ subst (λ (es : List Edit). get (after_edits (after_edits empty found) es) key ≡ get (after_edits empty all) key) first (so.made key under));
      each = subst (λ (es : List Edit). AllByRecursion (IsEditOf row) es) (sym appended) (each_push (IsEditOf row) found copy so.each (of_row row copy (ap (λ (k : CellKey). k.row) is.key ∙ here) (edit_too edit copy is whole.0)));
      rest = whole.1;
    }
copied_one_of row all left rest found new edit first (inr (elsewhere, same)) so =
    let whole : AllByRecursion IsEdit (edit ∷ rest) = subst (λ (es : List Edit). AllByRecursion IsEdit es) first so.rest in
    record {
      made = λ key under.
          ap (λ (es : List Edit). get (after_edits (after_edits empty es) rest) key) same
          ∙ (sym (agree (after_edit (after_edits empty found) edit) (after_edits empty found) rest key (off_edited (after_edits empty found) edit key (λ is. elsewhere (ap (λ (k : CellKey). k.row) (sym is) ∙ under))))
          ∙ subst (λ (es : List Edit). get (after_edits (after_edits empty found) es) key ≡ get (after_edits empty all) key) first (so.made key under));
      each = subst (λ (es : List Edit). AllByRecursion (IsEditOf row) es) (sym same) so.each;
      rest = whole.1;
    }

-- the element at an index, and those after it
pub next_edit : (edits : List Edit) (i : ℕ) (edit : Edit) → i < length edits → edit ≡ get_or edits i edit → drop i edits ≡ edit ∷ drop (i + 1) edits
next_edit edits i edit less is =
    let on : suc i ≡ i + 1 = omega arith in
    drop-cons edits i edit less ∙ (ap (λ (e : Edit). e ∷ drop (suc i) edits) (sym is) ∙ ap (λ (n : ℕ). edit ∷ drop n edits) on)

-- nothing is left at the end
pub none_left : (edits : List Edit) (i : ℕ) → length edits ≤ i → drop i edits ≡ []
none_left edits i long = nil_from_length (drop i edits) (grind (arith, length-drop))
