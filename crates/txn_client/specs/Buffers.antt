-- The bytes of the writes that sessions buffer: what a call makes of their number.
use Rattle.std.specs.Prelude.{◌≡◌, ◌≢◌, ℕ, ◌+◌, ◌-◌, Option, Some, None}
use Rattle.std.specs.Ordering.{nat_cmp}
use Rattle.std.specs.BTreeMap as btree
use Rattle.txn_client.specs.Writes.{bytes_of}
use Rattle.txn_client.specs.declared.session.Session.{Session}
use Rattle.txn_client.specs.declared.sessions.Clients.{Clients}

-- the bytes of a session's writes; no session has none
abbrev pub session_bytes : Option Session → ℕ
session_bytes None = 0
session_bytes (Some session) = bytes_of session.writes

-- the bytes of the writes of the session that began at t
abbrev pub bytes_at : Clients → ℕ → ℕ
bytes_at clients t = session_bytes (btree.get nat_cmp clients.sessions t)

-- The number changes as the bytes of the session at t do, and the limit stays.
pub record Buffers (old new : Clients) (t : ℕ) : Type 0 where
  pub bytes : new.buffered ≡ old.buffered + bytes_at new t - bytes_at old t
  pub limit : new.most_buffered ≡ old.most_buffered

-- The session at t has no bytes now, the number is less by those that it had, and the limit stays.
pub record BuffersNone (old new : Clients) (t : ℕ) : Type 0 where
  pub empty : bytes_at new t ≡ 0
  pub bytes : new.buffered ≡ old.buffered - bytes_at old t
  pub limit : new.most_buffered ≡ old.most_buffered

-- the same for a request that names the session at t, or none if t is 0: then the number stays
pub record BuffersNamed (old new : Clients) (t : ℕ) : Type 0 where
  pub named : t ≢ 0 → Buffers old new t
  pub unnamed : t ≡ 0 → new.buffered ≡ old.buffered
  pub limit : new.most_buffered ≡ old.most_buffered

-- The session that begins at t has no writes, and number and limit stay.
pub record BeginsEmpty (old new : Clients) (t : ℕ) : Type 0 where
  pub empty : bytes_at new t ≡ 0
  pub bytes : new.buffered ≡ old.buffered
  pub limit : new.most_buffered ≡ old.most_buffered
