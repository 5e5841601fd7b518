-- The visits that a collector makes for a request.
use Rattle.std.specs.Prelude.{◌||◌, ℕ, if◌then◌else◌, nat_eq, nat_lt}
use Rattle.si_model.specs.Machine.{most_visits}

-- The number of visits that are made for a request of n: one. A number that is refused is asked for as it is.
abbrev pub visits_of : ℕ → ℕ
visits_of n = if nat_eq n 0 || nat_lt most_visits n then n else 1
