-- Stamps that are drawn from the other end of a wire.
use Rattle.std.specs.Prelude.{ℕ, Option, unwrap_or}

-- the last stamp that the other end tells, or else the last one that was drawn here
abbrev pub last_stamp : Option ℕ → ℕ → ℕ
last_stamp told drawn = unwrap_or told drawn
