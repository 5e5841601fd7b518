use Rattle.std.proofs.Common.{◌≡◌, fold, take}
use Rattle.commit_log.specs.Crc32.{next_byte}
use Rattle.commit_log.proofs.checksums.next_bytes.Given as goal

-- the first eights are counted in
abbrev pub invariant-loop-eight : goal.invariant-loop-eight
invariant-loop-eight l = l.next ≡ fold (fold next_byte) l.sum (take l.eight-index l.eights)
