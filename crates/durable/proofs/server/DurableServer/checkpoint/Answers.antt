use Rattle.std.proofs.Common.{inl, inr, ap}
use Rattle.si_model.specs.Transactions.{steps}
use Rattle.server_loop.proofs.SessionSteps.{said_of}
use Rattle.durable.proofs.server.DurableServer.checkpoint.Goals as goal

pub returns-in-Ok-clause-says : goal.returns-in-Ok-clause-says
returns-in-Ok-clause-says g c = record {
  answered = c.in-Ok.ensures.answered;
  goes_on = λ now reached shown.
      let (next, step, shows, whole) = c.in-Ok.ensures.step now reached shown in
      record {
        next = next;
        goes = steps step;
        shown = shows;
        whole = λ is. whole (ap said_of is);
        logged = c.root.ensures.settles.logged now reached shown;
        lasting = λ logs st lasts. elim (c.root.ensures.settles.lasting now reached shown logs st lasts) [ inl same ↦ inl same | inr is ↦ inr (inl is) ];
      };
}

pub returns-in-Err-clause-says : goal.returns-in-Err-clause-says
returns-in-Err-clause-says g c = record {
  answered = c.in-Err.ensures.answered;
  goes_on = λ now reached shown.
      let (next, step, shows, whole) = c.in-Err.ensures.step now reached shown in
      record {
        next = next;
        goes = steps step;
        shown = shows;
        whole = λ is. whole (ap said_of is);
        logged = c.root.ensures.settles.logged now reached shown;
        lasting = λ logs st lasts. elim (c.root.ensures.settles.lasting now reached shown logs st lasts) [ inl same ↦ inl same | inr is ↦ inr (inl is) ];
      };
}
