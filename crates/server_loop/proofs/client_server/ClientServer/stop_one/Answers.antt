use Rattle.std.proofs.Common.{refl}
use Rattle.request_codec.specs.Replies.{replied}
use Rattle.request_codec.specs.declared.answers.Answer.TheVariants as told
use Rattle.request_codec.specs.declared.operations.Operation.TheVariants as lent
use Rattle.request_codec.specs.declared.requests.Request.TheVariants as sent
use Rattle.si_model.specs.Transactions.{Said, steps}
use Rattle.server_loop.proofs.client_server.ClientServer.stop_one.Goals as goal

pub returns-clause-stopped : goal.returns-clause-stopped
returns-clause-stopped g c = λ _. (
  c.in-Some.start,
  record {
    its = c.in-Some.ensures.some;
    answer = Said (replied c.reply_to-reply.result);
    said = record {
      lent = lent.One (sent.Stop c.in-Some.start);
      given = told.Said c.reply_to-reply.result;
      is_operation = refl;
      is_answer = refl;
      said = c.reply_to-reply.ensures.says;
      goes = λ before reached shown. let made = c.reply_to-reply.ensures.step before reached shown in (made.0, steps made.1, made.2);
    };
    known = g.met.A.Lookup.stops _ _ c.in-Some.start c.reply_to-reply.result c.reply_to-reply.ensures.says;
    noted = λ other name. c.remove.ensures.held other name;
  },
)
