use Rattle.std.proofs.Common.{sym, ◌∙◌}
use Rattle.commit_log.proofs.Numbering.{no_frame, nothing_at}
use Rattle.commit_log.proofs.numbered.hides.Goals as goal

pub returns-in-None : goal.returns-in-None
returns-in-None c payload is = absurd (no_frame payload c.args.number (sym (nothing_at c.args.bytes.now c.in-None.ensures.cases) ∙ is))
