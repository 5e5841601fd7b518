use Rattle.std.proofs.Common.{ℕ, ap, ◌∙◌, rules}
use Rattle.std.specs.Int.{w32, to_le_bytes}
use Rattle.std.specs.Prelude.{bit_xor}
use Rattle.commit_log.proofs.Eights.{eight_at_once}
use Rattle.commit_log.proofs.checksums.next_eight.Goals as goal

pub returns : goal.returns
returns c =
    let mixed = c.to_le_bytes.ensures ∙ ap (λ (front : ℕ). to_le_bytes w32 (bit_xor front c.args.sum)) c.from_le_bytes-front.ensures in
    rw (c.shifted.ensures, c.shifted-2.ensures, c.shifted-3.ensures, c.shifted-4.ensures, c.shifted-5.ensures, c.shifted-6.ensures, c.shifted-7.ensures, c.shifted-8.ensures)
    (eight_at_once c.args.sum c.args.bytes.now c.to_le_bytes.result (search rules) (search rules) (search rules) mixed)
