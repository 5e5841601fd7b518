use Rattle.std.proofs.Common.{◌≡◌, ◌≤◌, ◌<◌, ℕ, arith}
use Rattle.txn_client.proofs.Table.{begin_full_at}
use Rattle.txn_client.proofs.sessions.Clients.begin.Goals as goal

is_full : (n m : ℕ) → n ≡ m → 1024 ≤ n → 1024 ≤ m
is_full n m same many = omega arith

is_room : (n m : ℕ) → n ≡ m → n < 1024 → m < 1024
is_room n m same few = omega arith

pub returns-then-len-ge-MOST_SESSIONS-clause-step : goal.returns-then-len-ge-MOST_SESSIONS-clause-step
returns-then-len-ge-MOST_SESSIONS-clause-step g c = λ cells. begin_full_at cells c.args.self.now (g.S.Stamps.source.last c.args.stamps.now) (is_full _ _ c.len.ensures.len c.if-len-ge-MOST_SESSIONS.true)
