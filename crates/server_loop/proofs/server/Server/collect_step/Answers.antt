use Rattle.std.proofs.Common.{ap, inl, inr, refl, subst}
use Rattle.version_collector.specs.Refusals.{IsStepRefusal}
use Rattle.request_codec.specs.Replies.{replied, HoldsWithinLimits}
use Rattle.request_codec.specs.declared.replies.Reply.{Reply as CodecReply}
use Rattle.row_atomic.specs.Recorded.{seen_recorded}
use Rattle.si_model.proofs.ByServers.{by_servers}
use Rattle.server_loop.proofs.CollectSteps.{bad_told, collected_stays, collected_told, collected_undamaged, collects_as, never_bad, same_cells}
use Rattle.server_loop.proofs.CleanSteps.{logged_in, unlogged}
use Rattle.server_loop.proofs.SessionSteps.{as_err, as_refused, err_undamaged, not_done, ok_not}
use Rattle.server_loop.proofs.server.Server.collect_step.Goals as goal

pub returns-in-Ok : goal.returns-in-Ok
returns-in-Ok g c = let told = c.in-Ok.ensures in rw c.collected.ensures.reply (record {
  step = record { step = collects_as _ _ _ _ _ tt refl refl refl refl (λ st reached shown. told.step shown.in_order st (by_servers reached) shown.shows.store shown.collectors) told.below.still told.below.stays (λ st reached shown. collected_undamaged c.in-Ok.done); refusal = collected_told IsStepRefusal c.in-Ok.done; limits = subst (λ (r : CodecReply). HoldsWithinLimits (replied r)) c.collected.ensures.reply c.collected.ensures.limits };
  stamps = record { last = collected_stays c.in-Ok.done _; restarted = tt; exhausted = λ _. tt };
  edits = record {
    changes = (
      told.thins,
      λ st reached shown. (
        record {
          visits = λ count. told.visited shown.in_order count st (by_servers reached) shown.shows.store shown.collectors;
          collects = told.leaves shown.in_order st (by_servers reached) shown.shows.store shown.collectors;
        },
        told.told shown.in_order st (by_servers reached) shown.shows.store shown.collectors,
      ),
    );
    room = told.room;
  };
  sessions = record { told = λ st shown. (λ gone. absurd (ok_not _ _ (told.unknown _ st shown.collectors gone)), λ bad. absurd (never_bad _ _ _ (told.count bad))); sessions = record { top = refl; buffered = refl; limit = refl; each = λ t. refl }; cleaners = record { next = refl; each = λ i. refl; count = refl }; collectors = (told.one, collected_told _ c.in-Ok.done); oracle = refl };
  tablets = ap unlogged told.below.stays;
  causes = record { device = λ is. absurd (not_done _ _ tt is); told = λ _. record { files = told.refusal.1.told (ok_not _ _); marks = refl }; full = λ is. absurd (not_done _ _ tt is); damaged = λ is. absurd (not_done _ _ tt is) };
  tending = refl;
  logged = ap logged_in told.below.stays;
})

pub returns-in-Err : goal.returns-in-Err
returns-in-Err g c = let told = c.in-Err.ensures in record {
  step = record { step = collects_as _ _ _ _ _ tt refl refl refl refl (λ st reached shown. told.step shown.in_order st (by_servers reached) shown.shows.store shown.collectors) told.below.still told.below.stays (λ st reached shown. err_undamaged _ _ refl (told.undamaged (λ c c2 is is2 row from. (seen_recorded {W = g.row.F-Writing.Denot} g.F.Files.contents).each_readable _ shown.in_order row) st (by_servers reached) shown.shows.store shown.collectors)); refusal = told.refusal.0; limits = tt };
  stamps = record { last = refl; restarted = tt; exhausted = λ _. tt };
  edits = record {
    changes = (
      told.thins,
      λ st reached shown. record {
        visits = λ count. told.visited shown.in_order count st (by_servers reached) shown.shows.store shown.collectors;
        collects = told.leaves shown.in_order st (by_servers reached) shown.shows.store shown.collectors;
      },
      λ first. elim first [
        | inl early ↦ same_cells g.F.Files.contents _ _ (ap (λ rows. rows.cluster) (told.early early).1)
        | inr one ↦ (told.refused.reads one).kept
      ],
    );
    room = told.room;
  };
  sessions = record { told = λ st shown. (λ gone. as_refused _ _ _ refl (told.unknown _ st shown.collectors gone), λ bad. bad_told _ _ refl (told.count bad)); sessions = record { top = refl; buffered = refl; limit = refl; each = λ t. refl }; cleaners = record { next = refl; each = λ i. refl; count = refl }; collectors = (told.one, (told.refused.stays, λ first. elim first [ inl early ↦ (told.early early).0 | inr one ↦ told.refused.same one ])); oracle = refl };
  tablets = ap unlogged told.below.stays;
  causes = record { device = λ is. inl (told.refusal.1.device (as_err _ _ _ refl is)); told = λ none. record { files = told.refusal.1.told (λ is. none (as_refused _ _ _ refl is)); marks = refl }; full = λ same. told.full (as_err _ _ _ refl same); damaged = λ is whole st reached store shown. told.undamaged whole st reached store shown (as_err _ _ _ refl is) };
  tending = refl;
  logged = ap logged_in told.below.stays;
}
