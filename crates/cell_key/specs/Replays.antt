-- The effect of a replay of edits, such as a log's records, on cells.
use Rattle.std.specs.Prelude.{◌≡◌, ◌≢◌, List, ◌++◌}
use Rattle.std.specs.List.{AllByRecursion}
use Rattle.std.specs.FinMap.{get}
use Rattle.cell_key.specs.Cells.{Cells, after_edits, edited_key}
use Rattle.cell_key.specs.declared.edits.Edit.{Edit}
use Rattle.cell_key.specs.declared.keys.CellKey.{CellKey}

-- no edit has this key
abbrev pub IsUntouched : CellKey → List Edit → Type 0
IsUntouched key edits = AllByRecursion (λ edit. edited_key edit ≢ key) edits

-- the two cell maps are equal at all keys without an edit
abbrev pub AgreeBeside : List Edit → Cells → Cells → Type 0
AgreeBeside edits a b = (key : CellKey) → IsUntouched key edits → get a key ≡ get b key

pub record Replays : Type 0 where
  -- edits applied in two parts
  pub joined : (cells : Cells) (first then : List Edit)
      → after_edits cells (first ++ then) ≡ after_edits (after_edits cells first) then
  -- the effect of edits depends only on the cells at keys without an edit
  pub beside : (a b : Cells) (edits : List Edit) → AgreeBeside edits a b
      → after_edits a edits ≡ after_edits b edits
  -- applying the same edits again changes nothing
  pub again : (cells : Cells) (edits : List Edit)
      → after_edits (after_edits cells edits) edits ≡ after_edits cells edits
