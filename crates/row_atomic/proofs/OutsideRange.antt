-- A tablet shows no cell outside its range, whatever its files contain.
use Rattle.std.proofs.Common.{◌≡◌, ℕ, Bool, true, false, cond, List, [], ◌∷◌, ◌++◌, map, length, refl, sym, ap, subst, ◌∙◌, arith}
use Rattle.std.specs.Prelude.{Option, Some, None, flat_map}
use Rattle.std.specs.List.{AllByRecursion}
use Rattle.std.specs.Ordering.{eq_by_cmp}
use Rattle.std.specs.declared.cmp.Ordering.TheVariants.{Less, Equal, Greater}
use Rattle.std.specs.Cmp.Lexicographic.{nat_list_cmp_total}
use Rattle.std.specs.FinMap.{empty, entries, entries-insert, from_entries, get, get-empty, get-insert, get-remove, len-empty, len-entries}
use Rattle.std.specs.FinMap.Entries.{by_order, put}
use Rattle.cell_key.specs.Keys.{byte_cmp, key_cmp, key_cmp_total}
use Rattle.cell_key.specs.Entries.{Entry, cells_of, key_of_text, merged}
use Rattle.cell_key.specs.declared.keys.CellKey.{CellKey}
use Rattle.cell_key.proofs.KeyLaws.{exact_keys}
use Rattle.cell_key.proofs.TextPlaces.{equal}
use Rattle.file_store.specs.Store.{Contents}
use Rattle.tablet.specs.Ranges.{has_row, seen}
use Rattle.tablet.specs.Views.{cells_at, lists_of, range_of}
use Rattle.tablet.specs.declared.ranges.RowRange.{RowRange}
use Rattle.tablet.specs.declared.tablet.Tablet.{Tablet}

clash : (b : Bool) → b ≡ true → b ≡ false → ⊥
clash b e h = cc

no_entry : {A : Type 0} (es : List A) → length es ≡ 0 → es ≡ []
no_entry [] e = refl
no_entry (x ∷ es) e = absurd (omega arith)

entries-empty : entries (empty {K = List ℕ} {X = Option (List ℕ)} {R = byte_cmp}) ≡ []
entries-empty = no_entry _ (sym (len-entries empty) ∙ len-empty byte_cmp (Option (List ℕ)))

module _ (range : RowRange) where
  -- the row of an entry's key is in the range
  abbrev IsInside : Entry → Type 0
  IsInside e = has_row range (key_of_text e.0).row ≡ true

  each_seen : (es : List Entry) → AllByRecursion IsInside (seen range es)
  each_seen [] = tt
  each_seen (e ∷ es) =
      elim (has_row range (key_of_text e.0).row) as (λ b. has_row range (key_of_text e.0).row ≡ b → AllByRecursion IsInside (cond b (e ∷ seen range es) (seen range es))) [
        | true ↦ λ is. (is, each_seen es)
        | false ↦ λ is. each_seen es
      ] refl

  each-++ : (es more : List Entry) → AllByRecursion IsInside es → AllByRecursion IsInside more → AllByRecursion IsInside (es ++ more)
  each-++ [] more h k = k
  each-++ (e ∷ es) more h k = (h.0, each-++ es more h.1 k)

  each_list : (lists : List (List Entry)) → AllByRecursion IsInside (flat_map (λ es. es) (map (seen range) lists))
  each_list [] = tt
  each_list (es ∷ lists) = each-++ (seen range es) _ (each_seen es) (each_list lists)

  each_put : (name : List ℕ) (v : Option (List ℕ)) (es : List Entry) → IsInside (name, v) → AllByRecursion IsInside es → AllByRecursion IsInside (put byte_cmp name v es)
  each_put name v [] one all = (one, tt)
  each_put name v (e ∷ es) one all =
      elim (byte_cmp name e.0) as (λ o. AllByRecursion IsInside (by_order o ((name, v) ∷ e ∷ es) ((e.0, v) ∷ es) (e ∷ put byte_cmp name v es))) [
        | Less ↦ (one, all)
        | Equal ↦ all
        | Greater ↦ (all.0, each_put name v es one all.1)
      ]

  each_entry : (es : List Entry) → AllByRecursion IsInside es → AllByRecursion IsInside (entries (from_entries {R = byte_cmp} es))
  each_entry [] h = subst (AllByRecursion IsInside) (sym entries-empty) tt
  each_entry (e ∷ es) h = subst (AllByRecursion IsInside) (sym (entries-insert nat_list_cmp_total (from_entries es) e.0 e.1)) (each_put e.0 e.1 _ h.0 (each_entry es h.1))

  module _ (q : CellKey) (outside : has_row range q.row ≡ false) where
    another : (name : List ℕ) → has_row range (key_of_text name).row ≡ true → (b : Bool) → eq_by_cmp key_cmp q (key_of_text name) ≡ b → b ≡ false
    another name inside true t =
        let same : q ≡ key_of_text name = exact_keys q (key_of_text name) (equal (key_cmp q (key_of_text name)) t) in
        absurd (clash (has_row range q.row) (ap (λ (k : CellKey). has_row range k.row) same ∙ inside) outside)
    another name inside false t = refl

    none_of : (es : List Entry) → AllByRecursion IsInside es → get (cells_of es) q ≡ None
    none_of [] all = get-empty key_cmp q
    none_of ((name, None) ∷ es) all =
        get-remove key_cmp_total (cells_of es) (key_of_text name) q
        ∙ ap (λ (b : Bool). cond b None (get (cells_of es) q)) (another name all.0 (eq_by_cmp key_cmp q (key_of_text name)) refl)
        ∙ none_of es all.1
    none_of ((name, Some value) ∷ es) all =
        get-insert key_cmp_total (cells_of es) (key_of_text name) value q
        ∙ ap (λ (b : Bool). cond b (Some value) (get (cells_of es) q)) (another name all.0 (eq_by_cmp key_cmp q (key_of_text name)) refl)
        ∙ none_of es all.1

pub outside_none : (m : Contents) (t : Tablet) (q : CellKey) → has_row (range_of t) q.row ≡ false → get (cells_at m t) q ≡ None
outside_none m t q outside =
    none_of (range_of t) q outside (merged (map (seen (range_of t)) (lists_of m t)))
    (each_entry (range_of t) (flat_map (λ es. es) (map (seen (range_of t)) (lists_of m t))) (each_list (range_of t) (lists_of m t)))
