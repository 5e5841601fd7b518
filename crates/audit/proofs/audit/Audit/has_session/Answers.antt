use Rattle.std.proofs.Common.{◌∙◌}
use Rattle.audit.specs.Audits.{phase_of}
use Rattle.audit.proofs.KeptMaps.{has_same}
use Rattle.audit.proofs.audit.Audit.has_session.Goals as goal

pub returns : goal.returns
returns c = λ st keeps. c.contains_key.ensures ∙ has_same phase_of c.args.self.now.active st.active c.args.start keeps.active
