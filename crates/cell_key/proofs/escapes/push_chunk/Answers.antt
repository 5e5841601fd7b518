use Rattle.std.proofs.Common.{◌≡◌, ◌+◌, ◌*◌, List, ℕ, ◌++◌, length, take, sym, ap, ◌∙◌, arith}
use Rattle.cell_key.proofs.EscapedParts.{by_ones, by_twos, pairs, take-pairs}
use Rattle.cell_key.proofs.escapes.push_chunk.Goals as goal

pub returns-then-zeros-eq0-clause-items : goal.returns-then-zeros-eq0-clause-items
returns-then-zeros-eq0-clause-items c =
    let len = c.zero_count.ensures.length in
    let zeros = c.from-zeros.ensures in
    let none = c.if-zeros-eq0.true in
    c.push_bytes.ensures.items ∙ ap (λ (t : List ℕ). c.args.out.now.items ++ t) (sym (by_ones c.args.chunk.now (omega (arith, len, zeros, none))))

pub returns-then-zeros-chunk-clause-items : goal.returns-then-zeros-chunk-clause-items
returns-then-zeros-chunk-clause-items c =
    let chunk = c.args.chunk.now in
    let len = c.zero_count.ensures.length in
    let zeros = c.from-zeros.ensures in
    let all = c.if-zeros-chunk.true in
    let few = c.requires.few in
    let twice : 2 * c.from-zeros.result ≡ length chunk + length chunk = omega (arith, all) in
    let front : c.split_at.result.0.now ≡ pairs (length chunk) =
    c.split_at.ensures.front ∙ ap (λ (n : ℕ). take n (pairs 32)) twice ∙ take-pairs (length chunk) 32 (omega (arith, few)) in
    c.push_bytes-then-zeros-chunk.ensures.items
    ∙ ap (λ (t : List ℕ). c.args.out.now.items ++ t) (front ∙ sym (by_twos chunk (omega (arith, len, zeros, all))))
