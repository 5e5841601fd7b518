use Rattle.std.proofs.Common.{refl}
use Rattle.txn_client.specs.Refusals.{IsSetRefusal}
use Rattle.si_model.specs.Collection.{unchanged}
use Rattle.server_loop.proofs.SessionSteps.{as_refused, never, not_done, ok_not, set_undamaged, steps_as, undamaged}
use Rattle.server_loop.proofs.server.Server.set.Goals as goal

pub returns-in-Ok : goal.returns-in-Ok
returns-in-Ok g c = let told = c.in-Ok.ensures in record {
  step = record { step = steps_as _ _ _ _ _ tt refl refl refl (λ st reached shown. unchanged) (λ _. told.step _ _) (λ h. h) refl (λ st reached held shown. set_undamaged); refusal = tt; limits = tt };
  stamps = record { last = refl; restarted = tt; exhausted = λ _. tt };
  edits = record { changes = refl; room = λ row edits over. over };
  sessions = record { told = λ st shown gone. absurd (ok_not _ _ (told.unknown st shown.shows.sessions gone)); sessions = tt; cleaners = record { next = refl; each = λ i. refl; count = refl }; collectors = record { next = refl; floor = refl; each = λ i. refl; count = refl }; oracle = refl };
  tablets = refl;
  causes = record { device = λ is. absurd (not_done _ _ tt is); told = λ _. record { files = refl; marks = refl }; full = λ _. tt; damaged = λ _. tt };
  tending = refl;
  logged = refl;
}

pub returns-in-Err : goal.returns-in-Err
returns-in-Err g c = let told = c.in-Err.ensures in record {
  step = record { step = steps_as _ _ _ _ _ tt refl refl refl (λ st reached shown. unchanged) (λ _. told.step _ _) (λ h. h) refl (λ st reached held shown. undamaged IsSetRefusal _ told.refusal (λ h. h)); refusal = told.refusal; limits = tt };
  stamps = record { last = refl; restarted = tt; exhausted = λ _. tt };
  edits = record { changes = refl; room = λ row edits over. over };
  sessions = record { told = λ st shown gone. as_refused _ _ _ refl (told.unknown st shown.shows.sessions gone); sessions = told.err; cleaners = record { next = refl; each = λ i. refl; count = refl }; collectors = record { next = refl; floor = refl; each = λ i. refl; count = refl }; oracle = refl };
  tablets = refl;
  causes = record { device = λ is. absurd (never IsSetRefusal _ _ told.refusal (λ h. h) is); told = λ _. record { files = refl; marks = refl }; full = λ _. tt; damaged = λ _. tt };
  tending = refl;
  logged = refl;
}
