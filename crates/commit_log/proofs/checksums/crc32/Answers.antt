use Rattle.std.proofs.Common.{sym, ap, ◌∙◌, fold, ℕ}
use Rattle.std.proofs.lemmas.List.Sums.{fold-append}
use Rattle.std.specs.Int.{bit_not, w32}
use Rattle.commit_log.specs.Crc32.{crc32, next_byte}
use Rattle.commit_log.proofs.checksums.crc32.Goals as goal

pub returns : goal.returns
unfolding crc32
returns c =
    ap (bit_not w32)
    (c.next_bytes-2.ensures ∙ ap (λ (sum : ℕ). fold next_byte sum c.args.behind.now) c.next_bytes.ensures ∙ sym (fold-append next_byte 4294967295 c.args.front.now c.args.behind.now))
