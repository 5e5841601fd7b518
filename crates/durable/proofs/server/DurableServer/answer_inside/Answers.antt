use Rattle.std.proofs.Common.{inl, ap}
use Rattle.request_codec.specs.declared.answers.Answer.TheVariants as given
use Rattle.request_codec.specs.declared.operations.Operation.TheVariants as lent
use Rattle.durable.proofs.Logged.{logs_on, still_lasts}
use Rattle.si_model.specs.Transactions.{steps}
use Rattle.server_loop.proofs.SessionSteps.{said_of}
use Rattle.durable.proofs.server.DurableServer.answer_inside.Goals as goal

pub returns-clause-goes_on : goal.returns-clause-goes_on
returns-clause-goes_on g c = λ now reached shown.
    let leaves = c.journal_laws.ensures.leaves c.args.self.now.server c.reply_to.new.self (lent.One c.args.request) (given.Said c.reply_to.result) c.requires c.reply_to.ensures.says now reached shown in
    let (next, step, shows, whole) = c.reply_to.ensures.step now reached shown in
    record {
      next = next;
      goes = steps step;
      shown = shows;
      whole = λ is. whole (ap said_of is);
      logged = logs_on g.S.Journaled.view g.L.Log c.logs_edits.ensures c.names_roots.ensures c.args.self.now c.reply_to.new.self leaves.0 leaves.1;
      lasting = λ logs st lasts. inl (still_lasts g.S.Journaled.view g.L.Log c.logs_edits.ensures c.names_roots.ensures c.args.self.now c.reply_to.new.self st leaves.0.stored leaves.1 lasts);
    }
