use Rattle.std.proofs.Common.{length, sym, ap, ◌∙◌}
use Rattle.cell_key.proofs.EscapedParts.{escaped-plain}
use Rattle.cell_key.proofs.escapes.escaped_len.Goals as goal

pub returns-then-not-contains-clause-length : goal.returns-then-not-contains-clause-length
returns-then-not-contains-clause-length c = sym (ap length (escaped-plain c.args.bytes.now (sym c.contains.ensures.value ∙ c.if-not-contains.true)))
