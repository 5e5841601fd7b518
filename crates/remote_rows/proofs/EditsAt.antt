-- Edits, seen at one key.
use Rattle.std.proofs.Common.{◌≡◌, ◌≢◌, Bool, true, false, cond, ℕ, List, [], ◌∷◌, ◌++◌, Option, Some, None, refl, sym, ap, ◌∙◌}
use Rattle.std.specs.List.{AllByRecursion}
use Rattle.std.specs.declared.cmp.Ordering.{Ordering}
use Rattle.std.specs.declared.cmp.Ordering.TheVariants.{Less, Equal, Greater}
use Rattle.std.specs.Ordering.{is_eq, eq_by_cmp}
use Rattle.std.specs.FinMap.{get, get-insert, get-remove}
use Rattle.cell_key.specs.Cells.{Cells, IsEditOf, after_edit, after_edits, edited_key}
use Rattle.cell_key.specs.Keys.{key_cmp, key_cmp_total}
use Rattle.cell_key.specs.declared.edits.Edit.{Edit}
use Rattle.cell_key.specs.declared.edits.Edit.TheVariants.{Put, Erase}
use Rattle.cell_key.specs.declared.keys.CellKey.{CellKey}
use Rattle.cell_key.proofs.KeyLaws.{exact_keys}

-- cells that agree at a key agree there after an edit
pub edited : (a b : Cells) (edit : Edit) (q : CellKey) → get a q ≡ get b q → get (after_edit a edit) q ≡ get (after_edit b edit) q
edited a b (Put key value) q same =
    get-insert key_cmp_total a key value.items q ∙ (ap (λ (o : Option (List ℕ)). cond (eq_by_cmp key_cmp q key) (Some value.items) o) same ∙ sym (get-insert key_cmp_total b key value.items q))
edited a b (Erase key) q same = get-remove key_cmp_total a key q ∙ (ap (λ (o : Option (List ℕ)). cond (eq_by_cmp key_cmp q key) None o) same ∙ sym (get-remove key_cmp_total b key q))

-- and after edits
pub agree : (a b : Cells) (edits : List Edit) (q : CellKey) → get a q ≡ get b q → get (after_edits a edits) q ≡ get (after_edits b edits) q
agree a b [] q same = same
agree a b (edit ∷ edits) q same = agree (after_edit a edit) (after_edit b edit) edits q (edited a b edit q same)

tied : (r : Ordering) → is_eq r ≡ true → r ≡ Equal
tied Less e = cc
tied Equal e = refl
tied Greater e = cc

untrue : (b : Bool) → (b ≡ true → ⊥) → b ≡ false
untrue true h = absurd (h refl)
untrue false h = refl

apart : (q k : CellKey) → q ≢ k → eq_by_cmp key_cmp q k ≡ false
apart q k ne = untrue (eq_by_cmp key_cmp q k) (λ e. ne (exact_keys q k (tied (key_cmp q k) e)))

-- an edit leaves other keys
pub off_edited : (a : Cells) (edit : Edit) (q : CellKey) → q ≢ edited_key edit → get (after_edit a edit) q ≡ get a q
off_edited a (Put key value) q ne = get-insert key_cmp_total a key value.items q ∙ ap (λ (b : Bool). cond b (Some value.items) (get a q)) (apart q key ne)
off_edited a (Erase key) q ne = get-remove key_cmp_total a key q ∙ ap (λ (b : Bool). cond b None (get a q)) (apart q key ne)

-- edits of a row leave other rows
pub off_row : (cells : Cells) (row : List ℕ) (edits : List Edit) (q : CellKey) → AllByRecursion (IsEditOf row) edits → q.row ≢ row → get (after_edits cells edits) q ≡ get cells q
off_row cells row [] q under other = refl
off_row cells row (edit ∷ edits) q under other =
    off_row (after_edit cells edit) row edits q under.1 other ∙ off_edited cells edit q (λ is. other (ap (λ (k : CellKey). k.row) is ∙ under.0.under))

-- edits in two parts
pub joined : (cells : Cells) (first then : List Edit) → after_edits cells (first ++ then) ≡ after_edits (after_edits cells first) then
joined cells [] then = refl
joined cells (edit ∷ first) then = joined (after_edit cells edit) first then
