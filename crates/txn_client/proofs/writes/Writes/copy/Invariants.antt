use Rattle.std.proofs.Common.{◌≡◌, take}
use Rattle.txn_client.proofs.writes.Writes.copy.Given as goal

-- the first writes are copied
abbrev pub invariant-loop-write : goal.invariant-loop-write
invariant-loop-write l = l.entries.items ≡ take l.write-index l.self
