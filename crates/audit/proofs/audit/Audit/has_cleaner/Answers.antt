use Rattle.std.proofs.Common.{◌∙◌}
use Rattle.audit.specs.Audits.{cleaner_of}
use Rattle.audit.proofs.KeptMaps.{has_same}
use Rattle.audit.proofs.audit.Audit.has_cleaner.Goals as goal

pub returns : goal.returns
returns c = λ st keeps. c.contains_key.ensures ∙ has_same cleaner_of c.args.self.now.cleaners st.cleaners c.args.number keeps.cleaners
