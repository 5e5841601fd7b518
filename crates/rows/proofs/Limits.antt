-- The limits of stamps and values are kept.
use Rattle.std.proofs.Common.{◌≡◌, ℕ, Bool, true, false, cond, List, [], ◌∷◌, ◌++◌, Option, Some, None, IfSome, refl, sym, subst, ◌∙◌}
use Rattle.std.proofs.lemmas.Option.{same_Some}
use Rattle.std.specs.declared.vec.Vec.{Vec}
use Rattle.std.specs.Ordering.{eq_by_cmp}
use Rattle.std.specs.FinMap.{empty, get, get-empty, get-insert, get-remove}
use Rattle.std.specs.List.{AllByRecursion}
use Rattle.cell_key.specs.Keys.{key_cmp, key_cmp_total}
use Rattle.cell_key.specs.Cells.{Cells, IsNewest, IsEditOf, after_edit, after_edits, version}
use Rattle.cell_key.specs.declared.keys.CellKey.{CellKey}
use Rattle.cell_key.specs.declared.keys.Qualifier.{Qualifier}
use Rattle.cell_key.specs.declared.edits.Edit.{Edit}
use Rattle.cell_key.specs.declared.edits.Edit.TheVariants.{Put, Erase}
use Rattle.cell_key.specs.Versions.{IsVersion, IsVersionIn, HasLimits}
use Rattle.rows.specs.RowEdits.{AreOfTheirRow, all_edits}
use Rattle.rows.specs.declared.row_edits.RowEdits.{RowEdits}
use Rattle.rows.specs.Slots.{AreKept}
use Rattle.rows.proofs.SlotLemmas.{same_at, not_empty}

nothing : {A : Type 0} (x : A) (o : Option A) → o ≡ None → o ≡ Some x → ⊥
nothing x o n e = cc

-- no slots at all
pub kept_none : {Z : Type 0} (slots : List (CellKey × Option (Vec ℕ Z))) → slots ≡ [] → AreKept slots
kept_none {Z} slots e =
    subst (λ (es : List (CellKey × Option (Vec ℕ Z))). AreKept es) (sym e)
    (record {
      full = λ key h. not_empty None refl h;
      limits = λ key value h. absurd (nothing value (get empty key) (get-empty key_cmp key) h);
    })

edit_keeps : (row : List ℕ) (cells : Cells) (edit : Edit) → IsEditOf row edit → HasLimits cells → HasLimits (after_edit cells edit)
edit_keeps row cells (Put key value) one limits q bytes h = go (eq_by_cmp key_cmp q key) refl (sym (get-insert key_cmp_total cells key value.items q) ∙ h)
  where
    go : (b : Bool) → eq_by_cmp key_cmp q key ≡ b → cond b (Some value.items) (get cells q) ≡ Some bytes → IsVersion q.stamp bytes
    go true e found =
        let same : q ≡ key = same_at q key e in
        let here : IsVersion key.stamp value.items = record { from = one.from; to = one.to; value = one.value } in
        subst (λ (k : CellKey). IsVersion k.stamp bytes) (sym same) (subst (λ (v : List ℕ). IsVersion key.stamp v) (same_Some value.items bytes found) here)
    go false e found = limits q bytes found
edit_keeps row cells (Erase key) one limits q bytes h = go (eq_by_cmp key_cmp q key) refl (sym (get-remove key_cmp_total cells key q) ∙ h)
  where
    go : (b : Bool) → eq_by_cmp key_cmp q key ≡ b → cond b None (get cells q) ≡ Some bytes → IsVersion q.stamp bytes
    go true e found = absurd (nothing bytes None refl found)
    go false e found = limits q bytes found

pub edits_keep : (row : List ℕ) (cells : Cells) (edits : List Edit) → AllByRecursion (IsEditOf row) edits → HasLimits cells → HasLimits (after_edits cells edits)
edits_keep row cells [] all limits = limits
edits_keep row cells (edit ∷ edits) all limits = edits_keep row (after_edit cells edit) edits all.1 (edit_keeps row cells edit all.0 limits)

-- edits after others
pub after_both : (cells : Cells) (xs ys : List Edit) → after_edits cells (xs ++ ys) ≡ after_edits (after_edits cells xs) ys
after_both cells [] ys = refl
after_both cells (x ∷ xs) ys = after_both (after_edit cells x) xs ys

pub all_keep : (cells : Cells) (changes : List RowEdits) → AllByRecursion AreOfTheirRow changes → HasLimits cells → HasLimits (after_edits cells (all_edits changes))
all_keep cells [] all limits = limits
all_keep cells (change ∷ changes) all limits =
    subst (λ (cs : Cells). HasLimits cs) (sym (after_both cells change.edits.items (all_edits changes)))
    (all_keep (after_edits cells change.edits.items) changes all.1 (edits_keep change.row cells change.edits.items all.0 limits))

-- a version of a cell map is within the limits
pub answered : (cells : Cells) (row family : List ℕ) (qualifier : Qualifier) (lo hi : ℕ) (found : Option (ℕ × List ℕ)) → HasLimits cells → IsNewest cells (version row family qualifier) lo hi found → IfSome found (IsVersionIn lo hi)
answered cells row family qualifier lo hi None limits newest = tt
answered cells row family qualifier lo hi (Some found) limits newest =
    record { low = newest.0; high = newest.1; limits = limits (version row family qualifier found.0) found.1 newest.2 }
