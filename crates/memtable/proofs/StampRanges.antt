-- The range of the stamps of all keys of an entry list.
use Rattle.std.proofs.Common.{◌≡◌, ◌≤◌, inl, inr, ℕ, suc, Bool, true, false, cond, List, [], ◌∷◌, Option, Some, None, refl, sym, ap, subst, ◌∙◌, arith}
use Rattle.std.specs.List.{All, AllByRecursion}
use Rattle.std.specs.Ordering.{eq_by_cmp}
use Rattle.std.specs.declared.cmp.Ordering.{Ordering}
use Rattle.std.specs.declared.cmp.Ordering.TheVariants.{Less, Equal, Greater}
use Rattle.std.specs.FinMap.{get}
use Rattle.std.specs.FinMap.Entries.{find, put}
use Rattle.cell_key.specs.Cells.{IsNewest, version}
use Rattle.cell_key.specs.Entries.{Entry, IsEntry, cells_of, entry_of_key, value_of}
use Rattle.cell_key.specs.Keys.{byte_cmp, text, IsKey, IsStored}
use Rattle.cell_key.specs.declared.edits.Edit.{Edit}
use Rattle.cell_key.specs.declared.edits.Edit.TheVariants.{Put, Erase}
use Rattle.cell_key.specs.declared.keys.CellKey.{CellKey}
use Rattle.cell_key.specs.declared.keys.Qualifier.{Qualifier}
use Rattle.cell_key.proofs.EntryLaws.{get-cells_of, no_cell, stored_key}
use Rattle.cell_key.proofs.Order.{plain_key, stored_plain, text_exact}
use Rattle.cell_key.proofs.TextPlaces.{equal, one_text}
use Rattle.memtable.specs.Edits.{edit_entry, with_edits, HasStoredKey}
use Rattle.memtable.specs.StampRanges.{HasStamp, IsEditWithin, IsEntryWithin, IsOutside}
use Rattle.memtable.specs.declared.stamp_range.StampRange.{StampRange}

-- ---- edits keep the range

module _ (range : StampRange) where
  put_within : (name : List ℕ) (v : Option (List ℕ)) (es : List Entry) → IsEntryWithin range (name, v) → AllByRecursion (IsEntryWithin range) es → AllByRecursion (IsEntryWithin range) (put byte_cmp name v es)
  put_within name v [] one all = (one, tt)
  put_within name v (e ∷ es) one all = go (put_within name v es one all.1) (byte_cmp name e.0) refl
    where
      go : AllByRecursion (IsEntryWithin range) (put byte_cmp name v es) → (o : Ordering) → byte_cmp name e.0 ≡ o → AllByRecursion (IsEntryWithin range) (put byte_cmp name v (e ∷ es))
      go h Less p = rw p (one, all)
      go h Equal p = rw p (subst (λ (n : List ℕ). IsEntryWithin range (n, v)) (one_text name e.0 p) one, all.1)
      go h Greater p = rw p (all.0, h)

  text_within : (key : CellKey) → IsStored key → HasStamp range key.stamp → (v : Option (List ℕ)) → IsEntryWithin range (text key, v)
  text_within key stored has v other is same =
      subst (λ (k : CellKey). HasStamp range k.stamp) (text_exact key other (stored_plain key stored) (stored_plain other is) same) has

  edit_within : (edit : Edit) → HasStoredKey edit → IsEditWithin range edit → IsEntryWithin range (edit_entry edit)
  edit_within (Put key value) stored has = text_within key stored has (Some value.items)
  edit_within (Erase key) stored has = text_within key stored has None

  edits_within : (edits : List Edit) (es : List Entry) → AllByRecursion HasStoredKey edits → All (IsEditWithin range) edits → AllByRecursion (IsEntryWithin range) es → AllByRecursion (IsEntryWithin range) (with_edits es edits)
  edits_within [] es stored has all = all
  edits_within (edit ∷ edits) es stored has all =
      edits_within edits _ stored.1 (λ i d less. has (suc i) d (omega (arith, less)))
      (put_within (edit_entry edit).0 (edit_entry edit).1 es (edit_within edit stored.0 (has 0 edit (omega arith))) all)

wider : (old new : StampRange) → new.least ≤ old.least → old.greatest ≤ new.greatest → (es : List Entry) → AllByRecursion (IsEntryWithin old) es → AllByRecursion (IsEntryWithin new) es
wider old new below above [] all = tt
wider old new below above (e ∷ es) all =
    ((λ key stored is. let has = all.0 key stored is in let low = has.0 in let high = has.1 in (omega (arith, low, below), omega (arith, high, above))), wider old new below above es all.1)

-- all entries are within a range that is widened to the stamps of the edits
pub stamps_after : (old new : StampRange) (edits : List Edit) (base es : List Entry) → es ≡ with_edits base edits → AllByRecursion HasStoredKey edits → new.least ≤ old.least → old.greatest ≤ new.greatest → All (IsEditWithin new) edits → AllByRecursion (IsEntryWithin old) base → AllByRecursion (IsEntryWithin new) es
stamps_after old new edits base es made stored below above has all =
    subst (λ (xs : List Entry). AllByRecursion (IsEntryWithin new) xs) (sym made) (edits_within new edits base stored has (wider old new below above base all))

-- ---- stamps outside the range

never : (range : StampRange) (stamp : ℕ) → IsOutside range stamp stamp → HasStamp range stamp → ⊥
never range stamp (inl low) has = let from = has.0 in omega (arith, low, from)
never range stamp (inr high) has = let to = has.1 in omega (arith, high, to)

module _ (range : StampRange) (key : CellKey) (is : IsKey key) (out : IsOutside range key.stamp key.stamp) where
  not_named : (e : Entry) → IsEntry e → IsEntryWithin range e → text key ≡ e.0 → ⊥
  not_named e entry within same =
      let one : entry.key ≡ key = text_exact entry.key key (stored_plain entry.key entry.stored) (plain_key key is) (sym entry.named ∙ sym same) in
      let stored = subst (λ (k : CellKey). IsStored k) one entry.stored in
      never range key.stamp out (within key stored (sym same))

  -- a list has no entry of a key outside its range
  pub none_outside : (es : List Entry) → AllByRecursion IsEntry es → AllByRecursion (IsEntryWithin range) es → entry_of_key es (text key) ≡ None
  none_outside [] each all = refl
  none_outside (e ∷ es) each all = go (none_outside es each.1 all.1) (eq_by_cmp byte_cmp (text key) e.0) refl
    where
      go : find byte_cmp (text key) es ≡ None → (b : Bool) → eq_by_cmp byte_cmp (text key) e.0 ≡ b → cond b (Some e.1) (find byte_cmp (text key) es) ≡ None
      go rest false p = rest
      go rest true p = absurd (not_named e each.0 all.0 (one_text (text key) e.0 (equal _ p)))

module _ (range : StampRange) (es : List Entry) (each : AllByRecursion IsEntry es) (all : AllByRecursion (IsEntryWithin range) es) (key : CellKey) (out : IsOutside range key.stamp key.stamp) where
  hidden : (v : List ℕ) → get (cells_of es) key ≡ Some v → IsStored key → ⊥
  hidden v there is =
      let none = get-cells_of es each key is ∙ ap value_of (none_outside range key (stored_key key is) out es each all) in
      let no : Some v ≡ None = sym there ∙ none in
      cc

  no_cell_outside : get (cells_of es) key ≡ None
  no_cell_outside = go (get (cells_of es) key) refl
    where
      go : (o : Option (List ℕ)) → get (cells_of es) key ≡ o → get (cells_of es) key ≡ None
      go None e = e
      go (Some v) e = no_cell es each key (hidden v e)

narrower : (range : StampRange) (lo hi s : ℕ) → IsOutside range lo hi → lo ≤ s → s ≤ hi → IsOutside range s s
narrower range lo hi s (inl low) a b = inl (omega (arith, low, b))
narrower range lo hi s (inr high) a b = inr (omega (arith, high, a))

-- so a column has no version at stamps outside the range
pub newest_outside : (range : StampRange) (es : List Entry) → AllByRecursion IsEntry es → AllByRecursion (IsEntryWithin range) es → (row family : List ℕ) (q : Qualifier) (lo hi : ℕ) → IsOutside range lo hi → IsNewest (cells_of es) (version row family q) lo hi None
newest_outside range es each all row family q lo hi out s a b =
    no_cell_outside range es each all (version row family q s) (narrower range lo hi s out a b)
