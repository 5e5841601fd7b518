use Rattle.std.proofs.Common.{nat_eq, sym, ap, ◌∙◌}
use Rattle.std.specs.Cmp.Lexicographic.{pointwise}
use Rattle.std.proofs.lemmas.Map.Text.{is_eq-slice_cmp}
use Rattle.memtable.proofs.key_text.EntryText.is.Goals as goal

pub returns : goal.returns
returns c = c.eq.ensures ∙ ap (pointwise nat_eq c.args.bytes.now) c.as_slice.ensures ∙ sym (is_eq-slice_cmp c.args.bytes.now c.args.self.now)
