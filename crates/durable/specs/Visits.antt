-- The visits that a collector makes for a request of a server with a log.
use Rattle.std.specs.Prelude.{◌≡◌, ⊤, ℕ, if◌then◌else◌, nat_le, nat_lt}
use Rattle.request_codec.specs.declared.requests.Request.{Request}
use Rattle.request_codec.specs.declared.requests.Request.TheVariants.{CollectStep}
use Rattle.si_model.specs.Machine.{most_visits}

-- The number of visits for which a collector is asked inside for a request of n: at most 4. A number that is refused is
-- asked for as it is.
abbrev pub visits_of : ℕ → ℕ
visits_of n = if nat_le n 4 then n else (if nat_lt most_visits n then n else 4)

-- it asks a collector for no more visits than that
abbrev pub AsksForFew : Request → Type 0
AsksForFew (CollectStep collector n) = visits_of n ≡ n
AsksForFew request = ⊤
