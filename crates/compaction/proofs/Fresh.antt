-- A merge of sources without current entries.
use Rattle.std.proofs.Common.{◌≡◌, inl, List, [], ◌∷◌, map, refl, ap, ◌∙◌}
use Rattle.std.specs.Prelude.{Option, None}
use Rattle.std.specs.List.{AllByRecursion}
use Rattle.cell_key.specs.Entries.{Entry, merged}
use Rattle.sorted_file.specs.Source.{pending}
use Rattle.compaction.specs.Merging.{AreAtStart, waiting, merge_remaining, MergeHolds}

module _ {S : Type 0} (lent : S → Option Entry) (remaining : S → List Entry) (holds : S → Type 0) where
  fresh_each : (xs : List S) → AreAtStart lent holds xs → AllByRecursion holds xs
  fresh_each [] h = tt
  fresh_each (x ∷ xs) h = (h.0.0, fresh_each xs h.1)

  fresh_none : (xs : List S) → AreAtStart lent holds xs → AllByRecursion (λ s. lent s ≡ None) xs
  fresh_none [] h = tt
  fresh_none (x ∷ xs) h = (h.0.1, fresh_none xs h.1)

  fresh_lists : (xs : List S) → AreAtStart lent holds xs → map (waiting lent remaining) xs ≡ map remaining xs
  fresh_lists [] h = refl
  fresh_lists (x ∷ xs) h = ap (λ o. pending o (remaining x) ∷ map (waiting lent remaining) xs) h.0.1 ∙ ap (λ l. remaining x ∷ l) (fresh_lists xs h.1)

  pub fresh_holds : (xs : List S) → AreAtStart lent holds xs → MergeHolds lent remaining holds xs []
  fresh_holds xs h = record { each = fresh_each xs h; ready = inl refl; started = fresh_none xs h }

  pub fresh_remaining : (xs : List S) → AreAtStart lent holds xs → merge_remaining lent remaining xs [] ≡ merged (map remaining xs)
  fresh_remaining xs h = ap merged (fresh_lists xs h)
