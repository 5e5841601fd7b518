-- Proofs that a ghost member cites; nothing is promised here.
-- Entry lists without the least of their first entries.
use Rattle.std.proofs.Common.{◌≡◌, ℕ, true, false, cond, T, List, [], ◌∷◌, map, refl, sym, ap, subst, ◌∙◌}
use Rattle.std.specs.Prelude.{Some, flat_map}
use Rattle.std.specs.List.{AllByRecursion}
use Rattle.std.specs.Ordering.{is_lt, is_eq, is_le, eq_by_cmp}
use Rattle.std.specs.declared.cmp.Ordering.TheVariants.{Less, Equal, Greater}
use Rattle.std.specs.FinMap.{entries_sorted}
use Rattle.std.specs.FinMap.Entries.{find, below_all, same_entries}
use Rattle.cell_key.specs.Keys.{byte_cmp}
use Rattle.cell_key.specs.Entries.{Entry, IsRising, meaning, merged, or_else}
use Rattle.cell_key.proofs.EntryLaws.{find-++}
use Rattle.cell_key.proofs.EntryLists.{below-++, below-entries, both, find-merged, total}
use Rattle.cell_key.proofs.TextPlaces.{below_less, equal, first, one_text}
use Rattle.compaction.specs.Merging.{past}

-- without a first entry of k, another key has the same entry
find-past : (k q : List ℕ) (es : List Entry) → eq_by_cmp byte_cmp q k ≡ false
    → find byte_cmp q (past k es) ≡ find byte_cmp q es
find-past k q [] n = refl
find-past k q (e ∷ es) n =
    elim (is_eq (byte_cmp k e.0)) as (λ b. is_eq (byte_cmp k e.0) ≡ b
    → find byte_cmp q (cond b es (e ∷ es)) ≡ find byte_cmp q (e ∷ es)) [
      | true ↦ λ t. sym
          (ap (λ b. cond b (Some e.1) (find byte_cmp q es))
          (ap (eq_by_cmp byte_cmp q) (sym (one_text k e.0 (equal _ t))) ∙ n))
      | false ↦ λ _. refl
    ] refl

find-all_past : (k q : List ℕ) (lists : List (List Entry)) → eq_by_cmp byte_cmp q k ≡ false
    → find byte_cmp q (flat_map (λ es. es) (map (past k) lists))
    ≡ find byte_cmp q (flat_map (λ es. es) lists)
find-all_past k q [] n = refl
find-all_past k q (es ∷ lists) n =
    find-++ q (past k es) _
    ∙ ap (λ o. or_else o (find byte_cmp q (flat_map (λ es. es) (map (past k) lists))))
    (find-past k q es n)
    ∙ ap (or_else (find byte_cmp q es)) (find-all_past k q lists n) ∙ sym (find-++ q es _)

-- no entry of the list is below the key
abbrev pub HeadFrom : List ℕ → List Entry → Type 0
HeadFrom k [] = Unit {0}
HeadFrom k (e ∷ es) = T (is_le (byte_cmp k e.0))

below-past : (k : List ℕ) (es : List Entry) → IsRising es → HeadFrom k es
    → T (below_all byte_cmp k (past k es))
below-past k [] r h = tt
below-past k (e ∷ es) r h =
    elim (byte_cmp k e.0) as (λ o. byte_cmp k e.0 ≡ o → T (is_le o)
    → T (below_all byte_cmp k (cond (is_eq o) es (e ∷ es)))) [
      | Less ↦ λ p _. both _ _ (subst (λ r. T (is_lt r)) (sym p) tt)
          (below_less k e.0 es p (first _ _ r))
      | Equal ↦ λ p _. subst (λ k. T (below_all byte_cmp k es)) (sym (one_text k e.0 p))
          (first _ _ r)
      | Greater ↦ λ p g. absurd g
    ] refl h

below-all_past : (k : List ℕ) (lists : List (List Entry)) → AllByRecursion IsRising lists
    → AllByRecursion (HeadFrom k) lists
    → T (below_all byte_cmp k (flat_map (λ es. es) (map (past k) lists)))
below-all_past k [] r h = tt
below-all_past k (es ∷ lists) r h =
    below-++ k (past k es) _ (below-past k es r.0 h.0) (below-all_past k lists r.1 h.1)

-- The least entry comes first, and then the merge of the lists without its key.
pub least_first : (lists : List (List Entry)) (e : Entry) → AllByRecursion IsRising lists
    → AllByRecursion (HeadFrom e.0) lists → find byte_cmp e.0 (flat_map (λ es. es) lists) ≡ Some e.1
    → merged lists ≡ e ∷ merged (map (past e.0) lists)
least_first lists e r h f =
    same_entries byte_cmp total
    one_text (merged lists) (e ∷ merged (map (past e.0) lists)) (entries_sorted (meaning lists))
    (both _ _ (below-entries e.0 _ (below-all_past e.0 lists r h))
    (entries_sorted (meaning (map (past e.0) lists))))
    (λ q. find-merged q lists
    ∙ elim (eq_by_cmp byte_cmp q e.0) as (λ b. eq_by_cmp byte_cmp q e.0 ≡ b
    → find byte_cmp q (flat_map (λ es. es) lists)
    ≡ cond b (Some e.1) (find byte_cmp q (merged (map (past e.0) lists)))) [
      | true ↦ λ t. ap (λ k. find byte_cmp k (flat_map (λ es. es) lists))
          (one_text q e.0 (equal _ t)) ∙ f
      | false ↦ λ n. sym (find-merged q (map (past e.0) lists) ∙ find-all_past e.0 q lists n)
    ] refl)
