use Rattle.std.proofs.Common.{inl, refl, subst, sym}
use Rattle.request_codec.specs.Replies.{replied, HoldsWithinLimits}
use Rattle.request_codec.specs.declared.replies.Reply.{Reply}
use Rattle.rows.proofs.Calls.{reads_none}
use Rattle.rows.specs.Calls.{OnlyReads}
use Rattle.si_model.proofs.ByServers.{by_servers}
use Rattle.version_collector.specs.Shows.{SameCollectors}
use Rattle.server_loop.proofs.SessionSteps.{as_err, as_refused, err_undamaged, not_done, ok_not}
use Rattle.row_server.proofs.OneVisit.{bad_count, refused_visit, steps_more}
use Rattle.row_server.proofs.Told.{bad_told, collected_told, collected_undamaged, never_bad}
use Rattle.row_server.proofs.Attempts.{collector_attempt, low, step_not_begin, same_cleaners, same_clients}
use Rattle.row_server.proofs.server.RowServer.collect_step.Goals as goal

pub returns-in-Ok : goal.returns-in-Ok
returns-in-Ok g c = let told = c.in-Ok.ensures in rw c.collected.ensures.reply (
    collector_attempt g.R.Rows g.R.SharedRows.forgot g.R.SharedRows.raced g.S.Stamps g.S.SharedStamps.allows _ _ _ refl step_not_begin (collected_told _ c.in-Ok.done) (subst (λ (r : Reply). HoldsWithinLimits (replied r)) c.collected.ensures.reply c.collected.ensures.limits) (λ st reached shown. collected_undamaged c.in-Ok.done)
    (λ st shown. (λ gone. absurd (ok_not _ _ (told.unknown _ st shown.collectors gone)), λ bad. absurd (never_bad _ _ _ (told.count (bad_count _ _ c.one_visit.ensures bad)))))
    _ _ _ refl refl (λ holds. record { kind = refl; has_begun = step_not_begin; steps = steps_more _ _ _ _ c.args.collector c.one_visit.result c.args.visits _ c.one_visit.ensures (told.step holds); collects = told.leaves holds }) told.below.still
    (collected_told _ c.in-Ok.done) (λ is. absurd (not_done _ _ tt is)))

pub returns-in-Err : goal.returns-in-Err
returns-in-Err g c = let told = c.in-Err.ensures in
    let left = refused_visit (SameCollectors c.args.self.now.collectors c.step.new.self × OnlyReads g.R.Rows.seen c.args.self.now.rows c.step.new.rows) c.one_visit.result c.args.visits c.in-Err.refusal c.one_visit.ensures
    (λ one. (told.refused.same one, told.refused.reads one)) told.count (λ early. ((told.early early).0, subst (OnlyReads g.R.Rows.seen c.args.self.now.rows) (sym (told.early early).1) reads_none)) in
    collector_attempt g.R.Rows g.R.SharedRows.forgot g.R.SharedRows.raced g.S.Stamps g.S.SharedStamps.allows _ _ _ refl step_not_begin told.refusal.0 tt
    (λ st reached shown. err_undamaged _ _ refl (told.undamaged (λ c c2 is is2 row from. g.R.Rows.seen.each_readable _ shown.holds row) st (by_servers reached) shown.store shown.memory.collectors))
    (λ st shown. (λ gone. as_refused _ _ _ refl (told.unknown _ st shown.collectors gone), λ bad. bad_told _ _ refl (told.count (bad_count _ _ c.one_visit.ensures bad))))
    _ _ _ refl refl (λ holds. record { kind = refl; has_begun = step_not_begin; steps = steps_more _ _ _ _ c.args.collector c.one_visit.result c.args.visits _ c.one_visit.ensures (told.step holds); collects = told.leaves holds }) told.below.still
    (record { reads = left.1; clients = same_clients; cleaners = same_cleaners; collectors = left.0; rises = low })
    (λ is. inl (told.refusal.1.device (as_err _ _ _ refl is)))
