use Rattle.std.proofs.Common.{inr}
use Rattle.durable.proofs.Logged.{root_lasts}
use Rattle.durable.proofs.server.DurableServer.over.Goals as goal

pub returns-clause-settled : goal.returns-clause-settled
returns-clause-settled g c = λ root is rooted none covered logged. (
  inr (root, rooted, logged),
  λ st shown. root_lasts g.S.Journaled.view g.L.Log c.logs_edits.ensures c.names_roots.ensures _ root st (c.journal_laws.ensures.follows c.args.server root st is rooted shown) logged none covered,
)
