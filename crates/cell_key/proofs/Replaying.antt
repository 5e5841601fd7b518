-- The effect of a replay of edits on cells.
use Rattle.std.proofs.Common.{◌≡◌, ◌≢◌, Bool, true, false, cond, List, [], ◌∷◌, ◌++◌, Some, None, ◌⊎◌, inl, inr, refl, sym, ap, ◌∙◌}
use Rattle.std.specs.declared.cmp.Ordering.{Ordering}
use Rattle.std.specs.declared.cmp.Ordering.TheVariants.{Less, Equal, Greater}
use Rattle.std.specs.Ordering.{is_eq, eq_by_cmp}
use Rattle.std.specs.Cmp.{tied_itself}
use Rattle.std.specs.FinMap.{get, insert, remove, get-insert, get-remove, same_map}
use Rattle.cell_key.specs.Keys.{key_cmp, key_cmp_total}
use Rattle.cell_key.specs.Cells.{Cells, after_edit, after_edits, edited_key}
use Rattle.cell_key.specs.Replays.{AgreeBeside, IsUntouched, Replays}
use Rattle.cell_key.specs.declared.edits.Edit.{Edit}
use Rattle.cell_key.specs.declared.edits.Edit.TheVariants.{Put, Erase}
use Rattle.cell_key.specs.declared.keys.CellKey.{CellKey}
use Rattle.cell_key.proofs.KeyLaws.{exact_keys}

-- ---- one edit

tied : (r : Ordering) → is_eq r ≡ true → r ≡ Equal
tied Less e = cc
tied Equal e = refl
tied Greater e = cc

itself : (k : CellKey) → eq_by_cmp key_cmp k k ≡ true
itself k = ap is_eq (tied_itself key_cmp_total k)

by_test : (q k : CellKey) (b : Bool) → eq_by_cmp key_cmp q k ≡ b → (q ≡ k) ⊎ (q ≢ k)
by_test q k true e = inl (exact_keys q k (tied (key_cmp q k) e))
by_test q k false e = inr (λ f. cc (itself k, ap (λ (x : CellKey). eq_by_cmp key_cmp x k) f, e))

cases_key : (q k : CellKey) → (q ≡ k) ⊎ (q ≢ k)
cases_key q k = by_test q k (eq_by_cmp key_cmp q k) refl

untrue : (b : Bool) → (b ≡ true → ⊥) → b ≡ false
untrue true h = absurd (h refl)
untrue false h = refl

apart : (q k : CellKey) → q ≢ k → eq_by_cmp key_cmp q k ≡ false
apart q k ne = untrue (eq_by_cmp key_cmp q k) (λ e. ne (exact_keys q k (tied (key_cmp q k) e)))

-- the cell at an edit's key after the edit doesn't depend on the cells before it
at_edited : (a b : Cells) (edit : Edit) → get (after_edit a edit) (edited_key edit) ≡ get (after_edit b edit) (edited_key edit)
at_edited a b (Put key value) = put_at a ∙ sym (put_at b)
  where
    put_at : (cells : Cells) → get (insert cells key value.items) key ≡ Some value.items
    put_at cells = get-insert key_cmp_total cells key value.items key ∙ ap (λ (b : Bool). cond b (Some value.items) (get cells key)) (itself key)
at_edited a b (Erase key) = erased_at a ∙ sym (erased_at b)
  where
    erased_at : (cells : Cells) → get (remove cells key) key ≡ None
    erased_at cells = get-remove key_cmp_total cells key key ∙ ap (λ (b : Bool). cond b None (get cells key)) (itself key)

off_edited : (a : Cells) (edit : Edit) (q : CellKey) → q ≢ edited_key edit → get (after_edit a edit) q ≡ get a q
off_edited a (Put key value) q ne = get-insert key_cmp_total a key value.items q ∙ ap (λ (b : Bool). cond b (Some value.items) (get a q)) (apart q key ne)
off_edited a (Erase key) q ne = get-remove key_cmp_total a key q ∙ ap (λ (b : Bool). cond b None (get a q)) (apart q key ne)

-- ---- many edits

joined : (cells : Cells) (first then : List Edit) → after_edits cells (first ++ then) ≡ after_edits (after_edits cells first) then
joined cells [] then = refl
joined cells (edit ∷ first) then = joined (after_edit cells edit) first then

-- agreement at a key is kept
keeps : (a b : Cells) (edits : List Edit) (q : CellKey) → get a q ≡ get b q → get (after_edits a edits) q ≡ get (after_edits b edits) q
keeps a b [] q same = same
keeps a b (edit ∷ edits) q same = keeps (after_edit a edit) (after_edit b edit) edits q (elim (cases_key q (edited_key edit)) [
  | inl is ↦ ap (get (after_edit a edit)) is ∙ (at_edited a b edit ∙ ap (get (after_edit b edit)) (sym is))
  | inr ne ↦ off_edited a edit q ne ∙ (same ∙ sym (off_edited b edit q ne))
])

-- and arises if an edit has the key
agree_at : (a b : Cells) (edits : List Edit) (q : CellKey) → (IsUntouched q edits → get a q ≡ get b q) → get (after_edits a edits) q ≡ get (after_edits b edits) q
agree_at a b [] q same = same tt
agree_at a b (edit ∷ edits) q same = elim (cases_key q (edited_key edit)) [
  | inl is ↦ keeps (after_edit a edit) (after_edit b edit) edits q (ap (get (after_edit a edit)) is ∙ (at_edited a b edit ∙ ap (get (after_edit b edit)) (sym is)))
  | inr ne ↦ agree_at (after_edit a edit) (after_edit b edit) edits q (λ rest. off_edited a edit q ne ∙ (same (λ e. ne (sym e), rest) ∙ sym (off_edited b edit q ne)))
]

beside : (a b : Cells) (edits : List Edit) → AgreeBeside edits a b → after_edits a edits ≡ after_edits b edits
beside a b edits agree = same_map key_cmp_total exact_keys (after_edits a edits) (after_edits b edits) (λ q. agree_at a b edits q (agree q))

-- edits leave the cells at all other keys unchanged
untouched : (cells : Cells) (edits : List Edit) (q : CellKey) → IsUntouched q edits → get (after_edits cells edits) q ≡ get cells q
untouched cells [] q none = refl
untouched cells (edit ∷ edits) q none = untouched (after_edit cells edit) edits q none.1 ∙ off_edited cells edit q (λ e. none.0 (sym e))

pub replays : Replays
replays = record {
  joined = joined;
  beside = beside;
  again = λ cells edits. beside (after_edits cells edits) cells edits (untouched cells edits);
}
