-- The fields of a scan's request and of its reply.
use Rattle.std.specs.Prelude.{◌≡◌, ℕ, List, [], ◌∷◌, ◌++◌, ◌<◌, ◌^◌, length, Bool, true, false, IfSome}
use Rattle.std.specs.List.{AllByRecursion, flat_map}
use Rattle.si_model.specs.Messages.{Range, Item, Valued, Locked, Unsent, Reach, ToEnd, UpTo}
use Rattle.si_model.specs.Reads.{cell_of}
use Rattle.si_model.specs.Takings.{IsNamed}
use Rattle.si_model.specs.declared.replies.Cell.{Cell}
use Rattle.request_codec.specs.Fields.{number, field, optional, cell_fields, FitsField, FitsCell}
use Rattle.request_codec.specs.declared.read_items.LentItem.{LentItem}
use Rattle.request_codec.specs.declared.read_items.LentFound.{LentFound}
use Rattle.request_codec.specs.declared.read_items.LentFound.TheVariants as lent
use Rattle.request_codec.specs.declared.read_items.LentReach.{LentReach}
use Rattle.request_codec.specs.declared.read_items.LentReach.TheVariants as reached

-- whether only keys are asked for
abbrev pub flag_number : Bool → ℕ
flag_number false = 0x00
flag_number true = 0x01

-- the range of a scan
unfoldable pub range_fields : Range → List ℕ
range_fields range =
    optional cell_fields range.after ++ (optional field range.end ++ optional field range.family)

-- the length of each field of bytes fits its field
pub record FitsRange (range : Range) : Type 0 where
  pub after : IfSome range.after (λ cell. FitsCell cell)
  pub end : IfSome range.end (λ row. FitsField row)
  pub family : IfSome range.family (λ family. FitsField family)

-- how far the scan went
abbrev pub reach_fields : Reach → List ℕ
reach_fields ToEnd = 0x01 ∷ []
reach_fields (UpTo cell) = 0x02 ∷ cell_fields cell

-- the result for a cell
abbrev pub said_fields : Item → List ℕ
said_fields (Valued value) = 0x01 ∷ field value
said_fields (Locked start) = 0x02 ∷ number 8 start
said_fields Unsent = 0x03 ∷ []

-- an item: a cell, and the result for it
unfoldable pub item_fields : Cell × Item → List ℕ
item_fields item = cell_fields item.0 ++ said_fields item.1

abbrev pub items_fields : List (Cell × Item) → List ℕ
items_fields items = flat_map item_fields items

-- the start of a mark fits its field
abbrev pub StartFits : Item → Type 0
StartFits (Locked start) = start < 2 ^ 64
StartFits other = Unit {0}

-- the result for a cell fits its fields
abbrev pub SaidFits : Item → Type 0
SaidFits (Valued value) = FitsField value
SaidFits (Locked start) = start < 2 ^ 64
SaidFits Unsent = Unit {0}

-- an item alone fits
pub record ItemFits (item : Cell × Item) : Type 0 where
  pub named : IsNamed item.0
  pub said : SaidFits item.1

-- the bytes are the fields of count items
pub record AreItems (count : ℕ) (bytes : List ℕ) : Type 0 where
  pub items : List (Cell × Item)
  pub many : length items ≡ count
  pub fit : AllByRecursion ItemFits items
  pub whole : bytes ≡ items_fields items

-- the same, as borrowed from a body
abbrev pub lent_said : LentFound → Item
lent_said (lent.Value value) = Valued value.now
lent_said (lent.Pending start) = Locked start
lent_said lent.Unsent = Unsent

abbrev pub lent_item : LentItem → Cell × Item
lent_item item = (cell_of item.row.now item.family.now, lent_said item.found)

abbrev pub lent_reach : LentReach → Reach
lent_reach reached.End = ToEnd
lent_reach (reached.More row family) = UpTo (cell_of row.now family.now)
