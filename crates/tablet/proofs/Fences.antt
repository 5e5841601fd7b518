-- The entries between the fences of a range are the entries that the range sees.
use Rattle.std.proofs.Common.{◌≡◌, ℕ, Bool, true, cond, List, [], ◌∷◌, ◌&&◌, Option, Some, None, refl, sym, ap, ◌∙◌}
use Rattle.std.specs.Prelude.{option_map}
use Rattle.std.specs.List.{AllByRecursion}
use Rattle.std.specs.declared.cmp.Ordering.{Ordering}
use Rattle.std.specs.declared.cmp.Ordering.TheVariants.{Less, Equal, Greater}
use Rattle.std.specs.Ordering.{is_le, is_lt, ordering_reverse}
use Rattle.cell_key.specs.Texts.{row_fence}
use Rattle.cell_key.specs.Keys.{byte_cmp, text, IsStored}
use Rattle.cell_key.specs.Entries.{Entry, IsEntry, key_of_text}
use Rattle.cell_key.specs.declared.keys.CellKey.{CellKey}
use Rattle.cell_key.proofs.Order.{fences_rows}
use Rattle.cell_key.proofs.EntryLaws.{key_of_text-text}
use Rattle.compaction.specs.Ends.{is_below}
use Rattle.cell_key.proofs.EntryLists.{total}
use Rattle.tablet.specs.Ranges.{is_after, is_up_to, has_row, seen, fence_after, lower_fence, upper_fence}
use Rattle.tablet.specs.Sources.{entries_between}
use Rattle.tablet.specs.declared.ranges.RowRange.{RowRange}
use Rattle.tablet.proofs.Filters.{is_between, filter_twice}

turned : (o : Ordering) → is_le (ordering_reverse (cond (is_le o) Less Greater)) ≡ is_lt (ordering_reverse o)
turned Less = refl
turned Equal = refl
turned Greater = refl

straight : (o : Ordering) → is_lt (cond (is_le o) Less Greater) ≡ is_le o
straight Less = refl
straight Equal = refl
straight Greater = refl

from_none : (name : List ℕ) → is_le (byte_cmp [] name) ≡ true
from_none [] = refl
from_none (b ∷ name) = refl

module _ (key : CellKey) (stored : IsStored key) where
  after_fence : (after : Option (List ℕ)) → is_le (byte_cmp (fence_after after) (text key)) ≡ is_after after key.row
  after_fence None = from_none (text key)
  after_fence (Some row) =
      ap is_le (total.antisymm (row_fence row) (text key) ∙ ap ordering_reverse (fences_rows key row stored))
      ∙ turned (byte_cmp key.row row)
      ∙ sym (ap is_lt (total.antisymm row key.row))

  before_fence : (end : Option (List ℕ)) → is_below (option_map row_fence end) (text key) ≡ is_up_to end key.row
  before_fence None = refl
  before_fence (Some row) = ap is_lt (fences_rows key row stored) ∙ straight (byte_cmp key.row row)

  -- a key's text is between the fences of a range if and only if the range has its row
  pub between_fences : (range : RowRange) → is_between (lower_fence range) (upper_fence range) (text key) ≡ has_row range key.row
  between_fences range =
      ap (λ (b : Bool). b && is_below (upper_fence range) (text key)) (after_fence range.after)
      ∙ ap (λ (b : Bool). is_after range.after key.row && b) (before_fence range.end)

entry_between : (range : RowRange) (e : Entry) → IsEntry e → is_between (lower_fence range) (upper_fence range) e.0 ≡ has_row range (key_of_text e.0).row
entry_between range e is =
    ap (is_between (lower_fence range) (upper_fence range)) is.named
    ∙ between_fences is.key is.stored range
    ∙ ap (λ (k : CellKey). has_row range k.row) (sym (key_of_text-text is.key is.stored))
    ∙ ap (λ (n : List ℕ). has_row range (key_of_text n).row) (sym is.named)

-- the part of a list between a range's fences is the part that the range sees
pub seen_between : (range : RowRange) (es : List Entry) → AllByRecursion IsEntry es → entries_between (lower_fence range) (upper_fence range) es ≡ seen range es
seen_between range es each = filter_twice (λ e. is_below (upper_fence range) e.0) (λ e. is_le (byte_cmp (lower_fence range) e.0)) (λ e. has_row range (key_of_text e.0).row) IsEntry (entry_between range) es each
