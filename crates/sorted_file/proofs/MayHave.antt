-- What memory keeps of an open file rules out no entry of it.
use Rattle.std.proofs.Common.{◌≡◌, ◌≤◌, ℕ, zero, suc, Bool, true, cond, List, [], ◌∷◌, length, slice_get, Option, Some, None, refl, sym, ap, subst, ◌∙◌, arith}
use Rattle.std.specs.declared.cmp.Ordering.{Ordering}
use Rattle.std.specs.declared.cmp.Ordering.TheVariants.{Less}
use Rattle.std.specs.Ordering.{is_le}
use Rattle.cell_key.specs.Keys.{byte_cmp, text, IsKey, IsStored}
use Rattle.cell_key.specs.Entries.{Entry, IsEntry, entries_from, entry_of_key}
use Rattle.cell_key.specs.declared.keys.CellKey.{CellKey}
use Rattle.cell_key.proofs.Order.{plain_key, stored_plain, text_exact}
use Rattle.file_store.specs.Store.{Contents}
use Rattle.sorted_file.specs.Index.{block_of, IsBoundedRow}
use Rattle.sorted_file.specs.Block.{first_from}
use Rattle.sorted_file.specs.Bounds.{IsBounded}
use Rattle.sorted_file.specs.File.{IsOpen, MayHaveInBlock, MayHaveKey, listed}
use Rattle.sorted_file.specs.Newest.{at_stamp, IsOfColumn, IsOutside}
use Rattle.sorted_file.specs.Numbers.{IsLockKeyNumbered, IsNumbered}
use Rattle.sorted_file.specs.declared.block.BlockRow.{BlockRow}
use Rattle.sorted_file.specs.declared.file.SortedFile.{SortedFile}
use Rattle.sorted_file.proofs.LookUps.{block_in, of_row}
use Rattle.sorted_file.proofs.Newest.{first_held, held}
use Rattle.sorted_file.proofs.OpenBlocks.{open_named}
use Rattle.sorted_file.proofs.Rows.{IsNamed}

-- there is no element at an index past the end
pub none_at : (rows : List BlockRow) (n : ℕ) → length rows ≤ n → slice_get rows n ≡ None
none_at [] zero le = refl
none_at [] (suc n) le = refl
none_at (r ∷ rows) zero le = absurd (omega (arith, le))
none_at (r ∷ rows) (suc n) le = none_at rows n (omega (arith, le))

module _ (m : Contents) (file : SortedFile) (o : IsOpen m file) where
  -- an entry's key is within the limits
  stored_in : (key : CellKey) → IsKey key → (v : Option (List ℕ)) → entry_of_key (listed m file) (text key) ≡ Some v → IsStored key
  stored_in key is v e =
      let entry = held IsEntry (listed m file) o.list.each (text key) v e in
      subst IsStored (sym (text_exact key entry.key (plain_key key is) (stored_plain entry.key entry.stored) entry.named)) entry.stored

  module _ (key : CellKey) (is : IsKey key) where
    may_have : (v : Option (List ℕ)) → entry_of_key (listed m file) (text key) ≡ Some v → MayHaveKey file key
    may_have v e =
        let stored = stored_in key is v e in
        record {
          column = held (IsNumbered file.numbers) (listed m file) o.numbered (text key) v e;
          lock = held (IsLockKeyNumbered file.lock_keys) (listed m file) o.keyed (text key) v e key stored refl;
          bounds = held (IsBounded file.bounds) (listed m file) o.bounds (text key) v e key stored refl;
        }

    pub none_in_file : ¬ MayHaveKey file key → entry_of_key (listed m file) (text key) ≡ None
    none_in_file out = go (entry_of_key (listed m file) (text key)) refl
      where
        go : (found : Option (Option (List ℕ))) → entry_of_key (listed m file) (text key) ≡ found → found ≡ None
        go None e = refl
        go (Some v) e = absurd (out (may_have v e))

  module _ (key : CellKey) (is : IsKey key) (lo : ℕ) (n : ℕ) (row : BlockRow) (at : slice_get file.rows.items n ≡ Some row) (ruled_out : (s : ℕ) → lo ≤ s → s ≤ key.stamp → ¬ MayHaveInBlock row key lo s) where
    named : IsNamed row
    named = of_row IsNamed file.rows.items n row at (open_named m file o)

    -- if a block begins above a text, its first entry is the first at or above the text
    begins : byte_cmp (text key) row.first.items ≡ Less → first_from (text key) (block_of row) ≡ Some named.entry
    begins less =
        ap (first_from (text key)) named.block
        ∙ ap (λ (o : Ordering). slice_get (cond (is_le o) (named.entry ∷ entries_from (text key) named.more) (entries_from (text key) named.more)) 0)
        (ap (byte_cmp (text key)) (sym named.first) ∙ less)

    outside : (e : Entry) → first_from (text key) (block_of row) ≡ Some e → IsOutside key lo e.0
    outside e first s a b same =
        let list = (block_in m file o n row at).list in
        let entry = first_held IsEntry (text key) (block_of row) list.each e first in
        let small = is.stamp in
        let one = text_exact entry.key (at_stamp key s) (stored_plain entry.key entry.stored)
        (plain_key (at_stamp key s) (record { row = is.row; family = is.family; stamp = omega (arith, small, b) })) (sym entry.named ∙ same) in
        let bounded = first_held (IsBounded row.bounds) (text key) (block_of row) (of_row IsBoundedRow file.rows.items n row at o.bounded) e first in
        ruled_out s a b (record {
          bounds = bounded (at_stamp key s) (subst IsStored one entry.stored) same;
          first = λ less out.
              let here : named.entry ≡ e = (let q = sym (begins less) ∙ first in cc) in
              out s a b (named.first ∙ ap (λ (x : Entry). x.0) here ∙ same);
        })

    -- a block that is ruled out begins, at or above the key's text, with none of the column's entries
    pub none_in_block : IsOfColumn key lo (first_from (text key) (block_of row)) None
    none_in_block = go (first_from (text key) (block_of row)) refl
      where
        go : (found : Option Entry) → first_from (text key) (block_of row) ≡ found → IsOfColumn key lo found None
        go None e = refl
        go (Some x) e = outside x e
