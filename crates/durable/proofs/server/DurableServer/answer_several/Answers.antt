use Rattle.std.proofs.Common.{inl}
use Rattle.durable.proofs.Logged.{logs_on, still_lasts}
use Rattle.durable.proofs.Rooted.{several_rootless}
use Rattle.durable.proofs.server.DurableServer.answer_several.Goals as goal

pub returns-clause-goes_on : goal.returns-clause-goes_on
returns-clause-goes_on g c = λ now reached shown.
    let leaves = c.journal_laws.ensures.leaves c.args.self.now.server c.answer_to.new.self c.args.operation c.answer_to.result (several_rootless c.args.operation c.requires) c.answer_to.ensures.says now reached shown in
    let (next, goes, shows, whole) = c.answer_to.ensures.goes now reached shown in
    record {
      next = next;
      goes = goes;
      shown = shows;
      whole = whole;
      logged = logs_on g.S.Journaled.view g.L.Log c.logs_edits.ensures c.names_roots.ensures c.args.self.now c.answer_to.new.self leaves.0 leaves.1;
      lasting = λ logs st lasts. inl (still_lasts g.S.Journaled.view g.L.Log c.logs_edits.ensures c.names_roots.ensures c.args.self.now c.answer_to.new.self st leaves.0.stored leaves.1 lasts);
    }
