use Rattle.std.proofs.Common.{refl, inr}
use Rattle.txn_client.specs.Refusals.{IsBeginRefusal}
use Rattle.si_model.specs.Collection.{unchanged}
use Rattle.server_loop.proofs.OracleLeft.{left_mark, left_numbers}
use Rattle.server_loop.proofs.SessionSteps.{as_err, as_refused, begin_leaves_oracle, begun_undamaged, not_done, ok_not, steps_as, undamaged}
use Rattle.server_loop.proofs.server.Server.begin.Goals as goal

pub returns-in-Ok : goal.returns-in-Ok
returns-in-Ok g c = let told = c.in-Ok.ensures in record {
  step = record { step = steps_as _ _ _ _ _ tt refl refl refl (λ st reached shown. unchanged) (λ _. told.step _) (λ h. h) refl (λ st reached held shown. begun_undamaged _); refusal = tt; limits = tt };
  stamps = record { last = (told.drawn.next, told.drawn.becomes); restarted = tt; exhausted = λ is. absurd (not_done _ _ tt is) };
  edits = record { changes = refl; room = λ row edits over. over };
  sessions = record { told = λ st shown many. absurd (ok_not _ _ (told.crowded st shown.shows.sessions many)); sessions = tt; cleaners = record { next = refl; each = λ i. refl; count = refl }; collectors = record { next = refl; floor = refl; each = λ i. refl; count = refl }; oracle = tt };
  tablets = refl;
  causes = record { device = λ is. absurd (not_done _ _ tt is); told = λ _. record { files = refl; marks = told.reason.told (ok_not _ _) }; full = λ _. tt; damaged = λ _. tt };
  tending = refl;
  logged = refl;
}

pub returns-in-Err : goal.returns-in-Err
returns-in-Err g c = let told = c.in-Err.ensures in record {
  step = record { step = steps_as _ _ _ _ _ tt refl refl refl (λ st reached shown. unchanged) (λ _. told.step _) (λ h. h) refl (λ st reached held shown. undamaged IsBeginRefusal _ told.refusal (λ h. h)); refusal = told.refusal; limits = tt };
  stamps = record { last = (left_numbers g.M.MarkStore.mark _ _ told.left).last; restarted = tt; exhausted = λ is. told.exhausted (as_err _ _ _ refl is) };
  edits = record { changes = refl; room = λ row edits over. over };
  sessions = record { told = λ st shown many. as_refused _ _ _ refl (told.crowded st shown.shows.sessions many); sessions = told.same; cleaners = record { next = refl; each = λ i. refl; count = refl }; collectors = record { next = refl; floor = refl; each = λ i. refl; count = refl }; oracle = begin_leaves_oracle g.M.MarkStore.mark c.in-Err.refusal _ _ told.refusal told.undrawn told.allocated (left_mark g.M.MarkStore.mark _ _ told.left, left_numbers g.M.MarkStore.mark _ _ told.left) };
  tablets = refl;
  causes = record { device = λ is. inr (told.reason.device (as_err _ _ _ refl is)); told = λ none. record { files = refl; marks = told.reason.told (λ is. none (as_refused _ _ _ refl is)) }; full = λ _. tt; damaged = λ _. tt };
  tending = refl;
  logged = refl;
}
