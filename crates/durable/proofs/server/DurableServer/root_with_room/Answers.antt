use Rattle.std.proofs.Common.{inl, inr, refl}
use Rattle.durable.specs.Answers.{shown_by}
use Rattle.durable.proofs.Logged.{lasts_on, no_less, on_any, recounted, true_not_false}
use Rattle.durable.proofs.Rooted.{only_storage, risen_within, second_unready, settles_then, steps_named}
use Rattle.durable.proofs.server.DurableServer.root_with_room.Goals as goal

pub returns-in-Ok-clause-step : goal.returns-in-Ok-clause-step
returns-in-Ok-clause-step g c = steps_named (shown_by g.S.Handler.shows) c.args.self.now (record c.root.new.self { log = c.reserve_root.new.log }) c.reserve_root.result c.reserve_root.ensures.refusal c.in-Ok.ensures.step c.root.ensures.settles.shown

pub returns-in-Ok-clause-refusal : goal.returns-in-Ok-clause-refusal
returns-in-Ok-clause-refusal g c = only_storage c.reserve_root.result c.reserve_root.ensures.refusal

pub returns-in-Ok-clause-settles : goal.returns-in-Ok-clause-settles
returns-in-Ok-clause-settles g c =
    let mid = c.root.new.self in
    let new = record mid { log = c.reserve_root.new.log } in
    settles_then _ _ _ c.args.self.now mid new c.root.ensures.settles (recounted g.S.Journaled.view g.L.Log c.logs_edits.ensures c.names_roots.ensures mid new refl refl c.reserve_root.ensures.same refl g.S.Handler.shows)

pub returns-in-Ok-clause-done : goal.returns-in-Ok-clause-done
returns-in-Ok-clause-done g c = on_any c.reserve_root.result c.in-Ok.ensures.done

pub returns-in-Ok-clause-refused : goal.returns-in-Ok-clause-refused
returns-in-Ok-clause-refused g c =
    second_unready g.S.Journaled.view g.S.Journaled.calls _ _ c.args.self.now.server c.root.new.self.server c.reserve_root.result c.reserve_root.ensures.refusal (λ device. inr (risen_within _ _ _ _ c.root.ensures.later (no_less _) (c.reserve_root.ensures.reason.device device))) (λ stopped. true_not_false _ stopped c.in-Ok.ensures.on) c.in-Ok.ensures.done

pub returns-in-Ok-clause-covered : goal.returns-in-Ok-clause-covered
returns-in-Ok-clause-covered g c = on_any c.reserve_root.result c.in-Ok.ensures.covered

pub returns-in-Ok-clause-kept : goal.returns-in-Ok-clause-kept
returns-in-Ok-clause-kept g c = on_any c.reserve_root.result (λ now shown logs.
    let k = c.in-Ok.ensures.kept now shown logs in
    let mid = c.root.new.self in
    (lasts_on g.S.Journaled.view g.L.Log c.logs_edits.ensures c.names_roots.ensures mid (record mid { log = c.reserve_root.new.log }) now (λ root base places is. is, no_less _) k.0 (c.reserve_root.ensures.same k.0.kept.records k.0.kept.in_log.0) k.0.kept.in_log.1, k.1, k.2))

pub returns-in-Err-clause-refused : goal.returns-in-Err-clause-refused
returns-in-Err-clause-refused g c = inl c.in-Err.ensures.answered
