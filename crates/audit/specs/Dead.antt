-- The set kept beside the starts that an audit's cleaners have rolled back.
use Rattle.std.specs.Prelude.{◌≡◌, ◌↔◌, ℕ, cond, List, Some, IsSome}
use Rattle.std.specs.BTreeMap as btree
use Rattle.std.specs.Ordering.{is_eq, nat_cmp}
use Rattle.si_model.specs.Sets.{◌∈◌}

-- the set, as a map of each start to itself
abbrev pub StartSet : Type 0
StartSet = btree.BTreeMap ℕ ℕ

-- the set has these starts and no others
abbrev pub IsSetOf : List ℕ → StartSet → Type 0
IsSetOf starts set = (t : ℕ) → IsSome (btree.get nat_cmp set t) ↔ (t ∈ starts)

-- the start is put into the set
abbrev pub IsPut : StartSet → StartSet → ℕ → Type 0
IsPut old new t = (q : ℕ) → btree.get nat_cmp new q
    ≡ cond (is_eq (nat_cmp t q)) (Some t) (btree.get nat_cmp old q)
