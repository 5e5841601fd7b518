-- The least of several current entries.
use Rattle.std.specs.Prelude.{◌≡◌, ℕ, zero, suc, List, [], ◌∷◌, Option, Some, None, T, IsSomeAnd, slice_index_or}
use Rattle.std.specs.List.{AllByRecursion}
use Rattle.std.specs.Ordering.{is_le}
use Rattle.std.specs.declared.cmp.Ordering.TheVariants.{Less}
use Rattle.cell_key.specs.Keys.{byte_cmp}
use Rattle.cell_key.specs.Entries.{Entry}

-- the second key, if there is one, is above the first
abbrev pub IsAbove : Option Entry → Option Entry → Type 0
IsAbove best None = Unit {0}
IsAbove None (Some f) = ⊥
IsAbove (Some e) (Some f) = byte_cmp e.0 f.0 ≡ Less

-- the second key, if there is one, isn't below the first
abbrev pub IsNotBelow : Entry → Option Entry → Type 0
IsNotBelow e None = Unit {0}
IsNotBelow e (Some f) = T (is_le (byte_cmp e.0 f.0))

abbrev pub entry_at : List (Option Entry) → ℕ → Option Entry
entry_at lents at = slice_index_or lents at None

-- the place of the first entry of the least key, or the length if there is no entry
abbrev pub IsLeast : List (Option Entry) → ℕ → Type 0
IsLeast [] at = at ≡ 0
IsLeast (o ∷ os) zero = IsSomeAnd o (λ e. AllByRecursion (IsNotBelow e) os)
IsLeast (o ∷ os) (suc at) = IsAbove (entry_at os at) o × IsLeast os at
