-- Proofs that a ghost member cites; nothing is promised here.
-- One step of a merge, by the steps of its sources.
use Rattle.std.proofs.Common.{◌≡◌, ℕ, inr, true, false, cond, List, [], ◌∷◌, map, refl, sym, ap, subst, ◌∙◌}
use Rattle.std.specs.Prelude.{Option, Some, None}
use Rattle.std.specs.List.{AllByRecursion, AllZip}
use Rattle.cell_key.specs.Entries.{Entry, IsEntryList, IsRising, merged, Takes}
use Rattle.sorted_file.specs.Source.{pending}
use Rattle.compaction.specs.Order.{IsOrdered, IsReady}
use Rattle.compaction.specs.OrderLaw.{ordered_least, ordered_none, ready_least}
use Rattle.compaction.specs.Ties.{ties}
use Rattle.compaction.specs.Merging.{past, past_lent, first_lent, waiting, HasStarted, HaveStarted, merge_remaining, MergeHolds, StepsTo}
use Rattle.compaction.specs.LeastLaw.{whole_some, whole_none}
use Rattle.cell_key.proofs.EntryLists.{merged_list}

module _ {S : Type 0} (lent : S → Option Entry) (remaining : S → List Entry) (holds : S
    → Type 0) where
  taken : (a b : Option Entry) (s t : S) → lent s ≡ a
      → lent t ≡ b → Takes b (remaining s) (remaining t) → waiting lent remaining t ≡ remaining s
  taken a None s t p q k = ap (λ o. pending o (remaining t)) q ∙ k.1 ∙ sym k.0
  taken a (Some e) s t p q k = ap (λ o. pending o (remaining t)) q ∙ sym k

  ended : (b : Option Entry) (s t : S) → lent t ≡ b → Takes b (remaining s) (remaining t)
      → HasStarted lent remaining t
  ended None s t q k = λ _. k.1
  ended (Some e) s t q k = λ n. cc

  -- a source without a current entry was advanced
  pub step_none : (s t : S) → lent s ≡ None → holds t → Takes (lent t) (remaining s) (remaining t)
      → StepsTo lent remaining holds None s t
  step_none s t p h k = record {
    still = h;
    goes = taken None (lent t) s t p refl k ∙ sym (ap (λ o. pending o (remaining s)) p);
    started = ended (lent t) s t refl k;
  }

  tied_past : (at o : Option Entry) (es : List Entry) → ties at o ≡ true
      → past_lent at (pending o es) ≡ es
  tied_past None o es t = cc
  tied_past (Some e) None es t = cc
  tied_past (Some e) (Some f) es t = ap (λ b. cond b es (f ∷ es)) t

  -- a source at the entry was advanced
  pub step_tie : (at : Option Entry) (s t : S) → ties at (lent s) ≡ true
      → holds t → Takes (lent t) (remaining s) (remaining t) → StepsTo lent remaining holds at s t
  step_tie at s t p h k = record {
    still = h;
    goes = taken (lent s) (lent t) s t refl refl k ∙ sym (tied_past at (lent s) (remaining s) p);
    started = ended (lent t) s t refl k;
  }

  untied_past : (at o : Option Entry) (es : List Entry) → ties at o ≡ false → (o ≡ None → es ≡ [])
      → past_lent at (pending o es) ≡ pending o es
  untied_past None o es t n = refl
  untied_past (Some e) None es t n = ap (past e.0) (n refl) ∙ sym (n refl)
  untied_past (Some e) (Some f) es t n = ap (λ b. cond b es (f ∷ es)) t

  -- a source not at the entry was left alone
  pub step_same : (at : Option Entry) (s : S) → ties at (lent s) ≡ false
      → holds s → HasStarted lent remaining s → StepsTo lent remaining holds at s s
  step_same at s p h n = record {
    still = h;
    goes = sym (untied_past at (lent s) (remaining s) p n);
    started = n;
  }

  zip_lists : (at : Option Entry) (olds news : List S)
      → AllZip (StepsTo lent remaining holds at) olds news
      → map (λ s. past_lent at (waiting lent remaining s)) olds ≡ map (waiting lent remaining) news
  zip_lists at [] [] z = refl
  zip_lists at [] (t ∷ ts) z = absurd z
  zip_lists at (s ∷ ss) [] z = absurd z
  zip_lists at (s ∷ ss) (t ∷ ts) z =
      ap (λ es. es ∷ map (λ s. past_lent at (waiting lent remaining s)) ss) (sym z.0.goes)
      ∙ ap (λ l. waiting lent remaining t ∷ l) (zip_lists at ss ts z.1)

  pub zip_still : (at : Option Entry) (olds news : List S)
      → AllZip (StepsTo lent remaining holds at) olds news → AllByRecursion holds news
  zip_still at [] [] z = tt
  zip_still at [] (t ∷ ts) z = absurd z
  zip_still at (s ∷ ss) [] z = absurd z
  zip_still at (s ∷ ss) (t ∷ ts) z = (z.0.still, zip_still at ss ts z.1)

  pub zip_started : (at : Option Entry) (olds news : List S)
      → AllZip (StepsTo lent remaining holds at) olds news
      → AllByRecursion (HasStarted lent remaining) news
  zip_started at [] [] z = tt
  zip_started at [] (t ∷ ts) z = absurd z
  zip_started at (s ∷ ss) [] z = absurd z
  zip_started at (s ∷ ss) (t ∷ ts) z = (z.0.started, zip_started at ss ts z.1)

  rising_each : ((s : S) → holds s → IsRising (waiting lent remaining s))
      → (sources : List S) → AllByRecursion holds sources
      → AllByRecursion (λ s. IsRising (waiting lent remaining s)) sources
  rising_each r [] h = tt
  rising_each r (s ∷ sources) h = (r s h.0, rising_each r sources h.1)

  unmapped : (sources : List S) → AllByRecursion (λ o. o ≡ None) (map lent sources)
      → AllByRecursion (λ s. lent s ≡ None) sources
  unmapped [] n = tt
  unmapped (s ∷ sources) n = (n.0, unmapped sources n.1)

  -- if a merge whose places are in order has no current entry, no source has one
  pub none_at : (sources : List S) (order : List ℕ) → IsOrdered (map lent sources) order
      → first_lent lent sources order ≡ None → AllByRecursion (λ s. lent s ≡ None) sources
  none_at sources order l is = unmapped sources (ordered_none (map lent sources) order l is)

  have_started : (sources : List S) (order : List ℕ) (o : Option Entry)
      → first_lent lent sources order ≡ o → IsOrdered (map lent sources) order
      → AllByRecursion (HasStarted lent remaining) sources → HaveStarted lent remaining o sources
  have_started sources order None is l h = none_at sources order l is
  have_started sources order (Some e) is l h = h

  lends : (sources : List S) (order : List ℕ) (o : Option Entry)
      → first_lent lent sources order ≡ o → IsOrdered (map lent sources) order
      → AllByRecursion (HasStarted lent remaining) sources
      → AllByRecursion (λ s. IsRising (waiting lent remaining s)) sources
      → Takes o (merged (map (waiting lent remaining) sources))
      (merged (map (λ s. past_lent o (waiting lent remaining s)) sources))
  lends sources order None is l h r =
      let none : merged (map (waiting lent remaining) sources)
      ≡ [] = whole_none lent remaining sources (ordered_none (map lent sources) order l is) h in
      (none, none)
  lends sources order (Some e) is l h r =
      let first = ordered_least (map lent sources) order e l is in
      whole_some lent remaining sources first.place e first.least first.is h r

  -- The sources were advanced past the entry, and the merge is at the least of their current entries.
  pub merge_takes : ((s : S) → holds s → IsRising (waiting lent remaining s))
      → (olds news : List S) (old new : List ℕ)
      → AllZip (StepsTo lent remaining holds (first_lent lent olds old)) olds news
      → IsOrdered (map lent news) new
      → Takes (first_lent lent news new)
      (merge_remaining lent remaining olds old) (merge_remaining lent remaining news new)
  merge_takes r olds news old new z l =
      subst (λ all. Takes (first_lent lent news new) (merged all)
      (merge_remaining lent remaining news new))
      (sym (zip_lists (first_lent lent olds old) olds news z))
      (lends news new (first_lent lent news new) refl l (zip_started _ olds news z)
      (rising_each r news (zip_still _ olds news z)))

  pub merge_holds : (olds news : List S) (at : Option Entry) (new : List ℕ)
      → AllZip (StepsTo lent remaining holds at) olds news → IsOrdered (map lent news) new
      → MergeHolds lent remaining holds news new
  merge_holds olds news at new z l = record {
    each = zip_still at olds news z;
    ready = inr l;
    started = have_started news new (first_lent lent news new) refl l (zip_started at olds news z);
  }

  each_list : ((s : S) → holds s → IsEntryList (waiting lent remaining s))
      → (sources : List S) → AllByRecursion holds sources
      → AllByRecursion IsEntryList (map (waiting lent remaining) sources)
  each_list list [] h = tt
  each_list list (s ∷ sources) h = (list s h.0, each_list list sources h.1)

  list_at : (sources : List S) (order : List ℕ) (o : Option Entry)
      → first_lent lent sources order ≡ o → IsReady (map lent sources) order
      → HaveStarted lent remaining o sources
      → AllByRecursion (λ s. IsRising (waiting lent remaining s)) sources
      → IsEntryList (merged (map (waiting lent remaining) sources))
      → IsEntryList (pending o (merged (map (λ s. past_lent o (waiting lent remaining s)) sources)))
  list_at sources order None is l h r list = list
  list_at sources order (Some e) is l h r list =
      let first = ready_least (map lent sources) order e l is in
      subst IsEntryList (whole_some lent remaining sources first.place e first.least first.is h r)
      list

  -- the entries of a merge are an entry list
  pub merge_list : ((s : S) → holds s → IsEntryList (waiting lent remaining s))
      → (sources : List S) (order : List ℕ) → MergeHolds lent remaining holds sources order
      → IsEntryList
      (pending (first_lent lent sources order) (merge_remaining lent remaining sources order))
  merge_list list sources order h =
      list_at sources order (first_lent lent sources order) refl h.ready h.started
      (rising_each (λ s k. (list s k).rising) sources h.each)
      (merged_list (map (waiting lent remaining) sources) (each_list list sources h.each))
