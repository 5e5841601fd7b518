-- Pages of keys, and the part of the cells that one tells.
use Rattle.std.specs.FinMap.{empty, get}
use Rattle.std.specs.Prelude.{◌≡◌, ◌⊎◌, ◌-◌, Bool, true, false, List, length, slice_get, Option, Some, None, option_map, ⊤}
use Rattle.std.specs.declared.cmp.Ordering.TheVariants.{Less}
use Rattle.cell_key.specs.Cells.{Cells, after_edit, after_edits, edited_key}
use Rattle.cell_key.specs.Places.{IsAfter, Place, place_cmp, place_of}
use Rattle.cell_key.specs.declared.edits.Edit.{Edit}
use Rattle.cell_key.specs.declared.keys.CellKey.{CellKey}
use Rattle.remote_rows.specs.declared.wire.Page.{Page}
use Rattle.remote_rows.specs.declared.span.Span.{Span}

-- a place comes before another one; all places come before None
abbrev pub IsBefore : Option Place → Place → Type 0
IsBefore None place = ⊤
IsBefore (Some end) place = place_cmp place end ≡ Less

-- two cell maps are the same between two places
abbrev pub AgreeBetween : Option Place → Option Place → Cells → Cells → Type 0
AgreeBetween after end a b =
    (key : CellKey) → IsAfter after (place_of key) → IsBefore end (place_of key)
    → get b key ≡ get a key

-- the place of the last of some edits
abbrev pub last_edited : List Edit → Option Place
last_edited edits =
    option_map (λ edit. place_of (edited_key edit)) (slice_get edits (length edits - 1))

-- where the whole cells of a page end: at its last cell, of which keys may be left behind, unless it is the last page
abbrev pub end_of : Bool → List Edit → Option Place
end_of true edits = None
end_of false edits = last_edited edits

-- a page has all keys after a place and before its end
abbrev pub IsPageOf : Cells → Option Place → Page → Type 0
IsPageOf cells after page =
    AgreeBetween after (end_of page.is_last page.edits.items) cells
    (after_edits empty page.edits.items)

-- the cells are those of some edits up to the end, and there are none from it on
pub record IsUpTo (end : Option Place) (edits : List Edit) (cells : Cells) : Type 0 where
  pub same : (key : CellKey) → IsBefore end (place_of key)
      → get cells key ≡ get (after_edits empty edits) key
  pub none : (key : CellKey) → ¬ IsBefore end (place_of key) → get cells key ≡ None

-- an edit is made if its place is before the end, and left out otherwise
abbrev pub MakesBefore : Option Place → Edit → Cells → Cells → Type 0
MakesBefore end edit old new =
    (IsBefore end (place_of (edited_key edit)) × (new ≡ after_edit old edit))
    ⊎ ((¬ IsBefore end (place_of (edited_key edit))) × (new ≡ old))

-- A span of the cells after a place: they are the same up to its end, and it has none from there on.
pub record IsSpanOf (cells : Cells) (after : Option Place) (span : Span) : Type 0 where
  pub same : AgreeBetween after span.end cells span.rows
  pub none : (key : CellKey) → ¬ IsBefore span.end (place_of key) → get span.rows key ≡ None
