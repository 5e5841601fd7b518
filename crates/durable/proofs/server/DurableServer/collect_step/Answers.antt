use Rattle.durable.proofs.FewerVisits.{few_of, goes_on_alike}
use Rattle.durable.proofs.server.DurableServer.collect_step.Goals as goal

pub answer_with_room-requires-clause-few : goal.answer_with_room-requires-clause-few
answer_with_room-requires-clause-few g c = rw c.few_visits.ensures (few_of c.args.visits)

pub returns-clause-says : goal.returns-clause-says
returns-clause-says g c =
    let says = rw c.few_visits.ensures at c.answer_with_room.ensures.says in
    record {
      answered = rw (few_of c.args.visits) at says.answered;
      goes_on = goes_on_alike _ _ _ c.args.collector c.args.visits _ c.args.self.now c.answer_with_room.new.self says.goes_on;
    }
