use Rattle.std.proofs.Common.{length, sym, ap, ◌∙◌}
use Rattle.std.specs.Prelude.{nat_lt}
use Rattle.tablet.specs.Compactions.{keeps_erasures}
use Rattle.tablet.specs.Views.{files_of}
use Rattle.tablet.proofs.tablet.Tablet.keeps_erasures.Goals as goal

pub returns-in-Merge : goal.returns-in-Merge
returns-in-Merge c = ap (nat_lt c.in-Merge.count) c.len.ensures ∙ ap (λ (k : _). keeps_erasures k (length (files_of c.args.self.now))) (sym c.in-Merge.is)
