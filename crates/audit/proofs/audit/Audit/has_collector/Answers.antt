use Rattle.std.proofs.Common.{◌∙◌}
use Rattle.audit.proofs.KeptMaps.{has_same}
use Rattle.audit.proofs.audit.Audit.has_collector.Goals as goal

pub returns : goal.returns
returns c = λ st keeps. c.contains_key.ensures ∙ has_same (λ floor. floor) c.args.self.now.collectors st.collectors c.args.number keeps.collectors
