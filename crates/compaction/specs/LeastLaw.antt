-- Proofs that a ghost member cites; nothing is promised here.
-- Laws of the least current entry and all entries.
use Rattle.std.proofs.Common.{◌≡◌, ℕ, zero, suc, true, cond, T, List, [], ◌∷◌, ◌++◌, map, refl, sym, ap, subst, ◌∙◌}
use Rattle.std.specs.Prelude.{Option, Some, None, flat_map}
use Rattle.std.specs.List.{AllByRecursion}
use Rattle.std.specs.Ordering.{is_lt, is_eq, is_le}
use Rattle.std.specs.declared.cmp.Ordering.{Ordering}
use Rattle.std.specs.declared.cmp.Ordering.TheVariants.{Less, Equal, Greater}
use Rattle.std.specs.FinMap.Entries.{find}
use Rattle.cell_key.specs.Keys.{byte_cmp}
use Rattle.cell_key.specs.Entries.{Entry, IsRising, merged, or_else}
use Rattle.cell_key.proofs.EntryLaws.{find-++}
use Rattle.sorted_file.specs.Source.{pending}
use Rattle.compaction.specs.Least.{IsAbove, IsNotBelow, IsLeast, entry_at}
use Rattle.compaction.specs.Merging.{past, lent_at, waiting, HasStarted}
use Rattle.cell_key.proofs.EntryLists.{both, merged_none, ties_itself}
use Rattle.cell_key.proofs.TextPlaces.{below_less, find_below, first}
use Rattle.compaction.specs.PastLaw.{HeadFrom, least_first}

lower : (r : Ordering) → r ≡ Less → T (is_le r)
lower r p = subst (λ r. T (is_le r)) (sym p) tt

level : (r : Ordering) → is_eq r ≡ true → T (is_le r)
level Less p = tt
level Equal p = tt
level Greater p = cc

some_same : (f e : Entry) → Some f ≡ Some e → f ≡ e
some_same f e is = cc

-- no entry is below the least one
pub not_below : (os : List (Option Entry)) (at : ℕ) (e : Entry) → IsLeast os at
    → entry_at os at ≡ Some e → AllByRecursion (IsNotBelow e) os
not_below [] at e l is = cc
not_below (None ∷ os) zero e l is = cc
not_below (Some f ∷ os) zero e l is =
    subst (λ e. AllByRecursion (IsNotBelow e) (Some f ∷ os)) (some_same f e is)
    (level _ (ties_itself f.0), l)
not_below (None ∷ os) (suc at) e l is = (tt, not_below os at e l.1 is)
not_below (Some f ∷ os) (suc at) e l is =
    let above : IsAbove (Some e) (Some f) = subst (λ o. IsAbove o (Some f)) is l.0 in
    (lower _ above, not_below os at e l.1 is)

module _ {S : Type 0} (lent : S → Option Entry) (remaining : S → List Entry) where
  waits_above : (s : S) (e : Entry) (o : Option Entry) → lent s ≡ o
      → HasStarted lent remaining s → IsRising (waiting lent remaining s) → IsAbove (Some e) o
      → find byte_cmp e.0 (waiting lent remaining s) ≡ None
  waits_above s e None is started r above =
      ap (λ o. find byte_cmp e.0 (pending o (remaining s))) is ∙ ap (find byte_cmp e.0) (started is)
  waits_above s e (Some f) is started r above =
      ap (λ o. find byte_cmp e.0 (pending o (remaining s))) is
      ∙ find_below e.0 (f ∷ remaining s)
      (both _ _ (subst (λ r. T (is_lt r)) (sym above) tt)
      (below_less e.0 f.0 (remaining s) above
      (first _ _ (subst (λ o. IsRising (pending o (remaining s))) is r))))

  -- the first list with an entry of the least key gives the current entry
  found : (sources : List S) (at : ℕ) (e : Entry) → IsLeast (map lent sources) at
      → lent_at lent sources at ≡ Some e → AllByRecursion (HasStarted lent remaining) sources
      → AllByRecursion (λ s. IsRising (waiting lent remaining s)) sources
      → find byte_cmp e.0 (flat_map (λ es. es) (map (waiting lent remaining) sources)) ≡ Some e.1
  found [] at e l is h r = cc
  found (s ∷ sources) zero e l is h r =
      ap (λ o. find byte_cmp e.0 (pending o (remaining s)
      ++ flat_map (λ es. es) (map (waiting lent remaining) sources))) is
      ∙ ap (λ b. cond b (Some e.1) (find byte_cmp e.0 (remaining s
      ++ flat_map (λ es. es) (map (waiting lent remaining) sources)))) (ties_itself e.0)
  found (s ∷ sources) (suc at) e l is h r =
      find-++ e.0 (waiting lent remaining s) _
      ∙ ap (λ o. or_else o
      (find byte_cmp e.0 (flat_map (λ es. es) (map (waiting lent remaining) sources))))
      (waits_above s e (lent s) refl h.0 r.0 (subst (λ o. IsAbove o (lent s)) is l.0))
      ∙ found sources at e l.1 is h.1 r.1

  head_from : (s : S) (e : Entry) (o : Option Entry) → lent s ≡ o
      → HasStarted lent remaining s → IsNotBelow e o → HeadFrom e.0 (waiting lent remaining s)
  head_from s e None is started n =
      subst (λ es. HeadFrom e.0 es) (sym (ap (λ o. pending o (remaining s)) is ∙ started is)) tt
  head_from s e (Some f) is started n =
      subst (λ o. HeadFrom e.0 (pending o (remaining s))) (sym is) n

  heads_from : (sources : List S) (e : Entry) → AllByRecursion (IsNotBelow e) (map lent sources)
      → AllByRecursion (HasStarted lent remaining) sources
      → AllByRecursion (HeadFrom e.0) (map (waiting lent remaining) sources)
  heads_from [] e n h = tt
  heads_from (s ∷ sources) e n h =
      (head_from s e (lent s) refl h.0 n.0, heads_from sources e n.1 h.1)

  rising_lists : (sources : List S)
      → AllByRecursion (λ s. IsRising (waiting lent remaining s)) sources
      → AllByRecursion IsRising (map (waiting lent remaining) sources)
  rising_lists [] r = tt
  rising_lists (s ∷ sources) r = (r.0, rising_lists sources r.1)

  past_all : (k : List ℕ) (sources : List S) → map (past k) (map (waiting lent remaining) sources)
      ≡ map (λ s. past k (waiting lent remaining s)) sources
  past_all k [] = refl
  past_all k (s ∷ sources) = ap (λ es. past k (waiting lent remaining s) ∷ es) (past_all k sources)

  none_waiting : (sources : List S) → AllByRecursion (λ o. o ≡ None) (map lent sources)
      → AllByRecursion (HasStarted lent remaining) sources
      → AllByRecursion (λ es. es ≡ []) (map (waiting lent remaining) sources)
  none_waiting [] n h = tt
  none_waiting (s ∷ sources) n h =
      (ap (λ o. pending o (remaining s)) n.0 ∙ h.0 n.0, none_waiting sources n.1 h.1)

  -- the entries of all sources, when the merge is at an entry
  pub whole_some : (sources : List S) (at : ℕ) (e : Entry) → IsLeast (map lent sources) at
      → lent_at lent sources at ≡ Some e → AllByRecursion (HasStarted lent remaining) sources
      → AllByRecursion (λ s. IsRising (waiting lent remaining s)) sources
      → merged (map (waiting lent remaining) sources)
      ≡ e ∷ merged (map (λ s. past e.0 (waiting lent remaining s)) sources)
  whole_some sources at e l is h r =
      least_first (map (waiting lent remaining) sources) e (rising_lists sources r)
      (heads_from sources e (not_below (map lent sources) at e l is) h)
      (found sources at e l is h r)
      ∙ ap (λ lists. e ∷ merged lists) (past_all e.0 sources)

  pub whole_none : (sources : List S) → AllByRecursion (λ o. o ≡ None) (map lent sources)
      → AllByRecursion (HasStarted lent remaining) sources
      → merged (map (waiting lent remaining) sources) ≡ []
  whole_none sources none h = merged_none _ (none_waiting sources none h)
