use Rattle.request_codec.specs.declared.replies.Reply.TheVariants.{Refused}
use Rattle.cell_key.specs.declared.refusals.Refusal.{Refusal}
use Rattle.std.proofs.Common.{ℕ, ◌≤◌, refl, arith, ap, inr}
use Rattle.server_loop.proofs.SessionSteps.{restart_done, restart_refused, not_done}
use Rattle.server_loop.proofs.server.Server.restart.Goals as goal

no_later : (top last last' : ℕ) → top ≤ last → last ≤ last' → top ≤ last'
no_later top last last' low rises = omega arith

pub returns-in-Ok : goal.returns-in-Ok
returns-in-Ok g c = let told = c.in-Ok.ensures in record {
  step = record {
    step = restart_done _ _ _ (λ st shown. record {
      in_order = shown.in_order;
      cleaners = shown.cleaners;
      collectors = shown.collectors;
      places = shown.places;
      next = shown.next;
      alone = shown.alone;
      shows = record { store = shown.shows.store; sessions = shown.shows.sessions; top = no_later _ _ _ shown.shows.top told.rises };
    });
    refusal = tt;
    limits = tt;
  };
  stamps = record { last = told.rises; restarted = told.mark; exhausted = λ _. tt };
  edits = record { changes = refl; room = λ row edits over. over };
  sessions = record { told = λ st shown. tt; sessions = record { top = refl; buffered = refl; limit = refl; each = λ t. refl }; cleaners = record { next = refl; each = λ i. refl; count = refl }; collectors = record { next = refl; floor = refl; each = λ i. refl; count = refl }; oracle = (told.kept, tt) };
  tablets = refl;
  causes = record { device = λ is. absurd (not_done _ _ tt is); told = λ _. record { files = refl; marks = told.told }; full = λ _. tt; damaged = λ _. tt };
  tending = refl;
  logged = refl;
}

pub returns-in-Err : goal.returns-in-Err
returns-in-Err g c = let told = c.in-Err.ensures in record {
  step = record {
    step = restart_refused _ _ _ _ told.refusal (λ st shown. record {
      in_order = shown.in_order;
      cleaners = shown.cleaners;
      collectors = shown.collectors;
      places = shown.places;
      next = shown.next;
      alone = shown.alone;
      shows = record { store = shown.shows.store; sessions = shown.shows.sessions; top = no_later _ _ _ shown.shows.top told.rises };
    });
    refusal = told.refusal;
    limits = tt;
  };
  stamps = record { last = told.err.last; restarted = tt; exhausted = λ _. tt };
  edits = record { changes = refl; room = λ row edits over. over };
  sessions = record { told = λ st shown. tt; sessions = record { top = refl; buffered = refl; limit = refl; each = λ t. refl }; cleaners = record { next = refl; each = λ i. refl; count = refl }; collectors = record { next = refl; floor = refl; each = λ i. refl; count = refl }; oracle = (told.kept, told.err) };
  tablets = refl;
  causes = record { device = λ _. inr told.device; told = λ none. record { files = refl; marks = absurd (none (ap (λ (r : Refusal). Refused r) told.refusal)) }; full = λ _. tt; damaged = λ _. tt };
  tending = refl;
  logged = refl;
}
