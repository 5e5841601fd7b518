-- A search for a mark below a floor.
use Rattle.std.proofs.Common.{◌≡◌, ℕ, ◌<◌, ◌≤◌, List, [], ◌∷◌, map, sym, subst, arith}
use Rattle.si_model.specs.Reads.{cell_of}
use Rattle.si_model.specs.Sets.{◌∈◌, here, there}
use Rattle.si_model.specs.declared.replies.Cell.{Cell}
use Rattle.audit.specs.Marks.{mark_of}
use Rattle.audit.specs.Spans.{Name}

-- one of the marks has a start below the floor
abbrev pub HasEarly : ℕ → List (Name × ℕ) → Type 0
HasEarly floor entries = (x : Cell) × (t : ℕ) × ((x, t) ∈ map mark_of entries) × (t < floor)

module _ (floor : ℕ) (s u : List (Name × ℕ)) (name : Name) (t : ℕ) (is : s ≡ (name, t) ∷ u) where
  pub early_here : t < floor → HasEarly floor s
  early_here low = subst (HasEarly floor) (sym is) (cell_of name.0 name.1, t, here, low)

  pub early_behind : HasEarly floor u → HasEarly floor s
  early_behind (x, v, m, low) = subst (HasEarly floor) (sym is) (x, v, there m, low)

  not_here : floor ≤ t → HasEarly floor ((name, t) ∷ u) → HasEarly floor u
  not_here high (_, _, here, low) = absurd (omega (arith, high, low))
  not_here high (x, v, there m, low) = (x, v, m, low)

  pub early_rest : floor ≤ t → HasEarly floor s → HasEarly floor u
  early_rest high early = not_here high (subst (HasEarly floor) is early)

pub none_early : (floor : ℕ) (s : List (Name × ℕ)) → s ≡ [] → ¬ HasEarly floor s
none_early floor s is early = elim ((subst (HasEarly floor) is early).2) [ ]
