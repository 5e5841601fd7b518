-- The cells of a page that are before its end.
use Rattle.std.proofs.Common.{◌≡◌, List, [], ◌∷◌, Option, None, inl, inr, sym, ap, subst, ◌∙◌}
use Rattle.std.specs.FinMap.{empty, get, get-empty}
use Rattle.cell_key.specs.Cells.{Cells, after_edit, after_edits, edited_key}
use Rattle.cell_key.specs.Keys.{key_cmp}
use Rattle.cell_key.specs.Places.{Place, place_of}
use Rattle.cell_key.specs.declared.edits.Edit.{Edit}
use Rattle.cell_key.specs.declared.keys.CellKey.{CellKey}
use Rattle.remote_rows.specs.Pages.{IsBefore, MakesBefore}
use Rattle.remote_rows.proofs.EditsAt.{agree, off_edited}

-- the edits that are left make the target before the end, and nothing is there from it on
pub record IsOnTheWay (end : Option Place) (all left : List Edit) (rows : Cells) : Type 0 where
  pub same : (key : CellKey) → IsBefore end (place_of key) → get (after_edits rows left) key ≡ get (after_edits empty all) key
  pub none : (key : CellKey) → ¬ IsBefore end (place_of key) → get rows key ≡ None

pub begins : (end : Option Place) (all left : List Edit) (rows : Cells) → rows ≡ empty → left ≡ all → IsOnTheWay end all left rows
begins end all left rows is same = record {
  same = λ key before. ap (λ (cells : Cells). get (after_edits cells left) key) is ∙ ap (λ (edits : List Edit). get (after_edits empty edits) key) same;
  none = λ key after. ap (λ (cells : Cells). get cells key) is ∙ get-empty key_cmp key;
}

pub ends : (end : Option Place) (all left : List Edit) (rows : Cells) → left ≡ [] → IsOnTheWay end all left rows → (key : CellKey) → IsBefore end (place_of key) → get rows key ≡ get (after_edits empty all) key
ends end all left rows is way key before = subst (λ (edits : List Edit). get (after_edits rows edits) key ≡ get (after_edits empty all) key) is (way.same key before)

-- the next edit is made
makes_next : (end : Option Place) (all left rest : List Edit) (edit : Edit) (rows new : Cells) → left ≡ edit ∷ rest → new ≡ after_edit rows edit → IsBefore end (place_of (edited_key edit)) → IsOnTheWay end all left rows → IsOnTheWay end all rest new
makes_next end all left rest edit rows new first is before way = record {
  same = λ key at.
      ap (λ (cells : Cells). get (after_edits cells rest) key) is
      ∙ subst (λ (edits : List Edit). get (after_edits rows edits) key ≡ get (after_edits empty all) key) first (way.same key at);
  none = λ key after.
      ap (λ (cells : Cells). get cells key) is
      ∙ (off_edited rows edit key (λ same. after (subst (λ (k : CellKey). IsBefore end (place_of k)) (sym same) before)) ∙ way.none key after);
}

-- the next edit is left out
leaves_next : (end : Option Place) (all left rest : List Edit) (edit : Edit) (rows : Cells) → left ≡ edit ∷ rest → ¬ IsBefore end (place_of (edited_key edit)) → IsOnTheWay end all left rows → IsOnTheWay end all rest rows
leaves_next end all left rest edit rows first behind way = record {
  same = λ key at.
      sym (agree (after_edit rows edit) rows rest key (off_edited rows edit key (λ same. behind (subst (λ (k : CellKey). IsBefore end (place_of k)) same at))))
      ∙ subst (λ (edits : List Edit). get (after_edits rows edits) key ≡ get (after_edits empty all) key) first (way.same key at);
  none = way.none;
}

pub goes_on : (end : Option Place) (all left rest : List Edit) (edit : Edit) (rows new : Cells) → left ≡ edit ∷ rest → MakesBefore end edit rows new → IsOnTheWay end all left rows → IsOnTheWay end all rest new
goes_on end all left rest edit rows new first (inl made) way = makes_next end all left rest edit rows new first made.1 made.0 way
goes_on end all left rest edit rows new first (inr same) way = subst (λ (cells : Cells). IsOnTheWay end all rest cells) (sym same.1) (leaves_next end all left rest edit rows first same.0 way)
