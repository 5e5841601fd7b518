-- The newest versions of a column, found by a search from above.
use Rattle.std.proofs.Common.{◌≡◌, ℕ, ◌-◌, ◌≤◌, List, [], ◌∷◌, ◌++◌, None, Some, append_assoc, sym, subst}
use Rattle.std.proofs.lemmas.List.{append-nil}
use Rattle.cell_key.specs.Cells.{Cells, IsNewest}
use Rattle.cell_key.specs.declared.keys.CellKey.{CellKey}
use Rattle.rows.specs.Reads.{AreNewestFirst}

module _ (cells : Cells) (at : ℕ → CellKey) (hi most : ℕ) where
  -- these are the newest versions, if the remaining ones from a stamp down are appended
  abbrev pub AreFollowed : ℕ → ℕ → List (ℕ × List ℕ) → Type 0
  AreFollowed last left found = (rest : List (ℕ × List ℕ)) → AreNewestFirst cells at last left rest → AreNewestFirst cells at hi most (found ++ rest)

  pub newest_more : (last left s : ℕ) (b : List ℕ) (found items : List (ℕ × List ℕ)) → AreFollowed last left found → 1 ≤ left → IsNewest cells at 0 last (Some (s, b)) → 1 ≤ s → items ≡ found ++ (s, b) ∷ [] → AreFollowed (s - 1) (left - 1) items
  newest_more last left s b found items so some newest one is = λ rest after.
      subst (λ (xs : List (ℕ × List ℕ)). AreNewestFirst cells at hi most (xs ++ rest)) (sym is)
      (subst (AreNewestFirst cells at hi most) (sym (append_assoc found ((s, b) ∷ []) rest)) (so ((s, b) ∷ rest) (some, newest, one, after)))

  pub newest_end : (last left : ℕ) (found : List (ℕ × List ℕ)) → AreFollowed last left found → (1 ≤ left → IsNewest cells at 0 last None) → AreNewestFirst cells at hi most found
  newest_end last left found so none = subst (AreNewestFirst cells at hi most) (append-nil found) (so [] none)
