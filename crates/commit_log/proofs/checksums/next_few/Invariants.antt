use Rattle.std.proofs.Common.{◌≡◌, fold, take}
use Rattle.commit_log.specs.Crc32.{next_byte}
use Rattle.commit_log.proofs.checksums.next_few.Given as goal

-- the first bytes are counted in
abbrev pub invariant-loop-byte : goal.invariant-loop-byte
invariant-loop-byte l = l.next ≡ fold next_byte l.sum (take l.byte-index l.bytes)
