use Rattle.std.proofs.Common.{ℕ, ◌*◌, ◌/◌, length, drop, fold, ap, ◌∙◌}
use Rattle.std.proofs.lemmas.List.{take_all}
use Rattle.commit_log.specs.Crc32.{next_byte}
use Rattle.commit_log.proofs.Eights.{eights_then_few}
use Rattle.commit_log.proofs.checksums.next_bytes.Goals as goal

pub returns : goal.returns
returns c =
    let n = length c.args.bytes.now / 8 in
    let all = take_all c.loop-eight.eight-index c.as_chunks.result.0.now c.loop-eight-test.false in
    let counted = c.loop-eight.invariant ∙ ap (fold (fold next_byte) c.args.sum) (all ∙ c.as_chunks.ensures.front) in
    c.next_few.ensures
    ∙ ap (fold next_byte c.loop-eight.next) c.as_chunks.ensures.back
    ∙ ap (λ (sum : ℕ). fold next_byte sum (drop (n * 8) c.args.bytes.now)) counted
    ∙ eights_then_few n c.args.sum c.args.bytes.now
