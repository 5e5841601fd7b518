-- The condition under which a root is put without a request.
use Rattle.std.specs.Prelude.{◌≡◌, ◌≤◌, ◌<◌, ◌+◌, ◌-◌, ◌^◌, ◌⊎◌, ℕ, min}
use Rattle.request_codec.specs.declared.replies.Reply.{Reply}
use Rattle.request_codec.specs.declared.replies.Reply.TheVariants.{Refused}
use Rattle.durable.specs.declared.server.DurableServer.{DurableServer}

-- The journal has reached the size that was set. A refused root is due again once the journal has grown
-- by 8,388,608 bytes, or has shrunk, since then a root was put meanwhile. A journal of 50,331,648 bytes may
-- have no room to grow so much: there it is due again once 1,024 requests were answered without a try.
abbrev pub IsRootDue : {S M L : Type 0} → DurableServer S M L → ℕ → Type 0
IsRootDue server written =
    (server.root_bytes ≤ written)
    × ((written < server.tried_bytes) ⊎ (server.tried_bytes ≡ 0)
    ⊎ (server.tried_bytes + 8388608 ≤ written)
    ⊎ ((50331648 ≤ written) × (1024 ≤ server.answered)))

-- The size from which the next try is counted, by the reply to a root that was due: the journal's size if
-- it was refused, 0 if it was put.
abbrev pub tried_at : Reply → ℕ → ℕ
tried_at (Refused refusal) written = written
tried_at reply written = 0

-- a count of requests after one more was answered
abbrev pub one_more : ℕ → ℕ
one_more count = min (count + 1) (2 ^ 64 - 1)

-- it is due by the same sizes and the same count, with the same upkeep
abbrev pub IsDueAlike : {S M L : Type 0} → DurableServer S M L → DurableServer S M L → Type 0
IsDueAlike old new =
    (new.root_bytes ≡ old.root_bytes) × (new.tried_bytes ≡ old.tried_bytes)
    × (new.upkeep ≡ old.upkeep) × (new.answered ≡ old.answered)
