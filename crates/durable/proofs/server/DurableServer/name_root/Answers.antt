use Rattle.std.proofs.Common.{◌∙◌, ℕ, List, ap, inr, refl, sym, subst}
use Rattle.commit_log.specs.Frames.{bytes_of}
use Rattle.commit_log.specs.Records.{HasRecord, any_root}
use Rattle.durable.proofs.Logged.{held_still, ok_through, recounted, true_not_false}
use Rattle.durable.proofs.Rooted.{failed_before, puts_still, settles_then}
use Rattle.durable.proofs.server.DurableServer.name_root.Goals as goal

pub returns-in-Err-clause-settles : goal.returns-in-Err-clause-settles
returns-in-Err-clause-settles g c = recounted g.S.Journaled.view g.L.Log c.logs_edits.ensures c.names_roots.ensures c.args.self.now _ refl refl c.in-Err.ensures.same refl g.S.Handler.shows

pub returns-clause-settles : goal.returns-clause-settles
returns-clause-settles g c = recounted g.S.Journaled.view g.L.Log c.logs_edits.ensures c.names_roots.ensures c.args.self.now _ refl refl c.in-Ok.ensures.same refl g.S.Handler.shows

pub returns-then-is_over_any-clause-settles : goal.returns-then-is_over_any-clause-settles
returns-then-is_over_any-clause-settles g c =
    let kept = recounted g.S.Journaled.view g.L.Log c.logs_edits.ensures c.names_roots.ensures c.args.self.now (record c.args.self.now { log = c.records.new.self }) refl refl c.in-Ok.ensures.same refl g.S.Handler.shows in
    settles_then _ _ _ c.args.self.now (record c.args.self.now { log = c.records.new.self }) _ kept c.root.ensures.settles

pub returns-then-is_over_any-clause-named : goal.returns-then-is_over_any-clause-named
returns-then-is_over_any-clause-named g c = ok_through c.root.result (λ names now root shown rooted held. names now shown (inr (root, rooted, held_still g.S.Journaled.view g.L.Log c.logs_edits.ensures c.names_roots.ensures c.args.self.now c.records.new.self root c.in-Ok.ensures.same held))) c.root.ensures.named

pub returns-clause-named : goal.returns-clause-named
returns-clause-named g c = λ now root shown rooted held. record { records = held.records; in_log = c.in-Ok.ensures.same held.records held.in_log; names = λ has. true_not_false _ (c.is_over_any.ensures.1 (subst (λ (rs : List (List ℕ)). HasRecord rs any_root) (sym (ap bytes_of c.deref.ensures.value ∙ c.in-Ok.ensures.ok held.records held.in_log)) has)) c.if-is_over_any.false }

pub returns-then-is_over_any-clause-rooted : goal.returns-then-is_over_any-clause-rooted
returns-then-is_over_any-clause-rooted g c = inr (puts_still g.S.Journaled.view g.S.Journaled.calls (λ stopped. stopped) (failed_before g.M.MarkStore g.L.Log c.args.self.now (record c.args.self.now { log = c.records.new.self }) c.root.new.self refl c.in-Ok.ensures.cause.later) _ _ _ c.root.ensures.answered)
