-- The answer for a cell as of a stamp.
use Rattle.std.specs.Prelude.{◌≡◌, ℕ, ◌<◌, ◌≤◌, ◌⊎◌, List, Option, None}
use Rattle.si_model.specs.Sets.{◌∈◌}
use Rattle.si_model.specs.State.{Value, Commit, Gives, Names}
use Rattle.si_model.specs.declared.replies.Cell.{Cell}

-- The answer for x as of s: the change of x by the newest commit with a stamp at most s that writes x, that is its
-- value, or nothing if it deletes x; nothing if there is no such commit. (Snapshot isolation.)
abbrev pub IsSnapshot : List Commit → ℕ → Cell → Option Value → Type 0
IsSnapshot commits s x answer =
    ((a : Commit) × (a ∈ commits) × Gives a.writes x answer × (a.stamp ≤ s)
    × ((b : Commit) → b ∈ commits → Names b.writes x → b.stamp ≤ s → b.stamp ≤ a.stamp))
    ⊎ ((answer ≡ None) × ((b : Commit) → b ∈ commits → Names b.writes x → s < b.stamp))
