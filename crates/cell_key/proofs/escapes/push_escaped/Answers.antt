use Rattle.std.proofs.Common.{List, ℕ, ◌++◌, sym, ap, ◌∙◌}
use Rattle.cell_key.proofs.EscapedParts.{by_ones}
use Rattle.cell_key.proofs.escapes.push_escaped.Goals as goal

pub returns-then-len-bytes-clause-items : goal.returns-then-len-bytes-clause-items
returns-then-len-bytes-clause-items c =
    c.push_bytes.ensures.items ∙ ap (λ (t : List ℕ). c.args.out.now.items ++ t) (sym (by_ones c.args.bytes.now (sym c.requires.len ∙ c.if-len-bytes.true)))
