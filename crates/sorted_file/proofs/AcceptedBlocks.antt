-- A block that can be the next one, by its first entry.
use Rattle.std.proofs.Common.{◌≡◌, List, ◌∷◌, ◌++◌, drop, slice_get, Some, sym, subst}
use Rattle.std.specs.declared.cmp.Ordering.TheVariants.{Less}
use Rattle.cell_key.specs.Entries.{Entry, IsEntryList, IsRising}
use Rattle.cell_key.specs.Keys.{byte_cmp}
use Rattle.sorted_file.specs.Check.{IsFollowed, IsNext, IsOpening}
use Rattle.sorted_file.specs.Index.{blocks_of, entries_in, IsFirstText}
use Rattle.sorted_file.specs.declared.check.Opening.{Opening}
use Rattle.sorted_file.specs.declared.format.RowRef.{RowRef}
use Rattle.sorted_file.proofs.Halves.{drop_at}
use Rattle.sorted_file.proofs.Joining.{rises_behind}
use Rattle.sorted_file.proofs.Starts.{seam, some_text}

module _ (o : Opening) (row : RowRef) (es : List Entry) (e : Entry) (opening : IsOpening o) (list : IsEntryList es) (first : slice_get es 0 ≡ Some e) where
  cut : es ≡ e ∷ drop 1 es
  cut = drop_at es 0 e first

  pub next_above : IsNext o row es → byte_cmp o.last.items e.0 ≡ Less
  next_above n =
      let each = subst IsEntryList cut list in
      seam (entries_in (blocks_of o.rows.items)) e (drop 1 es) o.last.items (some_text e each.each.0) (subst (λ (l : List Entry). IsRising (entries_in (blocks_of o.rows.items) ++ l)) cut n.rising) opening.last

  pub is_next : row.offset ≡ o.end → row.first.now ≡ e.0 → IsFollowed (blocks_of o.rows.items) (e ∷ drop 1 es) → byte_cmp o.last.items e.0 ≡ Less → IsNext o row es
  is_next offset name followed above = record {
    offset = offset;
    first = subst (IsFirstText row.first.now) (sym cut) name;
    followed = subst (IsFollowed (blocks_of o.rows.items)) (sym cut) followed;
    rising = subst (λ (l : List Entry). IsRising (entries_in (blocks_of o.rows.items) ++ l)) (sym cut)
        (rises_behind (entries_in (blocks_of o.rows.items)) e (drop 1 es) o.last.items opening.last opening.list.rising (subst IsEntryList cut list).rising above);
  }
