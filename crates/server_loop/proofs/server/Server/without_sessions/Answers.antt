use Rattle.std.proofs.Common.{◌≡◌, ◌≤◌, ◌∙◌, ℕ, sym, arith}
use Rattle.server_loop.proofs.server.Server.without_sessions.Goals as goal

no_less : (top answered : ℕ) → top ≡ answered → answered ≤ top
no_less top answered same = omega (arith, same)

pub returns-clause-shown : goal.returns-clause-shown
returns-clause-shown g c = λ st s. record {
  in_order = s.in_order;
  shows = record {
    store = s.store;
    sessions = c.new.ensures.shown st (no_less _ _ s.answered) s.active;
    top = s.marked;
  };
  alone = (c.new.ensures.top ∙ sym s.answered, c.new-3.ensures.floor ∙ sym s.collected);
  cleaners = c.new-2.ensures.shown st s.cleaner s.cleaners;
  collectors = c.new-3.ensures.shown _ st s.collector s.collectors (no_less _ _ s.collected);
  places = s.places;
  next = s.next;
}
