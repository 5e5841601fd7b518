-- The greatest stamps kept with an audit's commits, by which a search ends early.
use Rattle.std.specs.Prelude.{◌≡◌, ℕ, max, List, [], ◌∷◌, ⊤}
use Rattle.audit.specs.declared.audit.parts.Commit.{Commit}

-- each commit keeps the greatest of low and the stamps up to its own
abbrev pub AreMarked : ℕ → List Commit → Type 0
AreMarked low [] = ⊤
AreMarked low (commit ∷ commits) =
    (commit.latest ≡ max low commit.stamp) × AreMarked commit.latest commits

-- the greatest stamp kept with the last commit, or low if there are no commits
abbrev pub latest_of : ℕ → List Commit → ℕ
latest_of low [] = low
latest_of low (commit ∷ commits) = latest_of commit.latest commits
