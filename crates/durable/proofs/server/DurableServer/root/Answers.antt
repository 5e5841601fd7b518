use Rattle.std.proofs.Common.{◌≡◌, ◌≤◌, ◌⊎◌, ◌∙◌, ◌++◌, ◌∷◌, [], true, ap, inl, inr, refl, subst, sym, arith}
use Rattle.std.specs.Prelude.{Err}
use Rattle.cell_key.specs.Faults.{HasRisen}
use Rattle.metadata_table.specs.Roots.{RootView}
use Rattle.request_codec.specs.Replies.{replied}
use Rattle.server_loop.specs.Commands.{checkpointed}
use Rattle.server_loop.specs.Runs.{StepsAs}
use Rattle.si_model.specs.Machine.{State, refuses, Checkpoint as CheckpointAsked}
use Rattle.si_model.specs.Refusing.{gives_up}
use Rattle.durable.specs.Answers.{HasFailed, HaveBytes, HoldsLogged, LastsIn, Logs, PutsRoot, named, shown_by}
use Rattle.durable.specs.Answers.PutsRoot.{answered, failed, unready}
use Rattle.durable.specs.Devices.{most_stamp}
use Rattle.durable.proofs.Logged.{holds_readied, lasts_named, lasts_on, names_it, no_less, ok_through, on_any, on_err, on_ok, recounted, same_bytes, true_not_false}
use Rattle.durable.proofs.NextRoots.{IsNamed, last_stored, next_held, old_held}
use Rattle.durable.proofs.Rooted.{named_answer, never_unready, only_storage, passed, puts_after, risen_within, settles_then, steps_named, steps_unready, unready_answer}
use Rattle.durable.proofs.server.DurableServer.root.Goals as goal

pub returns-then-not-log_waiting-clause-step : goal.returns-then-not-log_waiting-clause-step
returns-then-not-log_waiting-clause-step g c = λ before reached shown. (before, refuses (gives_up tt), c.log_waiting.ensures.shown before shown, λ e. cc)

pub returns-then-not-log_waiting-clause-settles : goal.returns-then-not-log_waiting-clause-settles
returns-then-not-log_waiting-clause-settles g c =
    let is = c.if-not-log_waiting.true in
    let w = c.log_waiting.ensures in
    record { shown = w.shown; logged = λ now reached shown logs. inl (w.stopped is); lasting = λ now reached shown logs. w.err is now shown logs }

pub returns-then-is_err-clause-step : goal.returns-then-is_err-clause-step
returns-then-is_err-clause-step g c = λ before reached shown. (before, refuses (gives_up tt), c.log_waiting.ensures.shown before shown, λ e. cc)

pub returns-then-not-log_waiting-clause-answered : goal.returns-then-not-log_waiting-clause-answered
returns-then-not-log_waiting-clause-answered g c = failed refl (c.log_waiting.ensures.stopped c.if-not-log_waiting.true) (inl c.log_waiting.ensures.same)

pub returns-then-is_err-clause-answered : goal.returns-then-is_err-clause-answered
returns-then-is_err-clause-answered g c =
    let risen = on_err c.store.result c.is_err.result c.is_err.ensures.value c.if-is_err.true c.store.ensures.device in
    unready refl (inl (subst (λ (m : g.row.M.Denot). HasRisen (g.M.MarkStore.faults m) (g.M.MarkStore.faults c.store.new.self.marks)) c.log_waiting.ensures.marks risen)) c.log_waiting.ensures.same

pub returns-in_err-reserve_renewal-clause-answered : goal.returns-in_err-reserve_renewal-clause-answered
returns-in_err-reserve_renewal-clause-answered g c =
    let w = c.log_waiting.ensures in
    let r = c.in_err-reserve_renewal.ensures in
    unready_answer g.S.Journaled.view g.S.Journaled.calls _ _ c.args.self.now.server c.log_waiting.new.self.server c.from_residual.result c.in_err-reserve_renewal.field-0.0 c.from_residual.ensures.1 r.refusal (λ device. inr (risen_within _ _ _ _ w.later (no_less _) (r.reason.device (ap Err device)))) w.same

pub returns-in_err-reserve_renewal-clause-step : goal.returns-in_err-reserve_renewal-clause-step
returns-in_err-reserve_renewal-clause-step g c = steps_unready (shown_by g.S.Handler.shows) c.args.self.now (record c.log_waiting.new.self { log = c.reserve_renewal.new.log }) c.from_residual.result c.in_err-reserve_renewal.field-0.0 c.from_residual.ensures.1 c.in_err-reserve_renewal.ensures.refusal c.log_waiting.ensures.shown

pub returns-in_err-reserve_renewal-clause-settles : goal.returns-in_err-reserve_renewal-clause-settles
returns-in_err-reserve_renewal-clause-settles g c =
    let is = c.if-not-log_waiting.false in
    let w = c.log_waiting.ensures in
    let mid = c.log_waiting.new.self in
    settles_then _ _ _ c.args.self.now mid (record mid { log = c.reserve_renewal.new.log }) (record {
      shown = w.shown;
      logged = λ now reached shown logs. inr (w.ok is now shown logs).0;
      lasting = λ now reached shown logs st lasts. inr ((w.ok is now shown logs).1 now (w.shown now shown));
    }) (recounted g.S.Journaled.view g.L.Log c.logs_edits.ensures c.names_roots.ensures mid (record mid { log = c.reserve_renewal.new.log }) refl refl c.reserve_renewal.ensures.same refl g.S.Handler.shows)

pub returns-then-is_err-clause-settles : goal.returns-then-is_err-clause-settles
returns-then-is_err-clause-settles g c =
    let is = c.if-not-log_waiting.false in
    let w = c.log_waiting.ensures in
    let m = c.store.ensures in
    let new = record c.log_waiting.new.self { log = c.reserve_renewal.new.log; marks = c.store.new.self } in
    let stored = on_err c.store.result c.is_err.result c.is_err.ensures.value c.if-is_err.true m.err in
    record {
      shown = w.shown;
      logged = λ now reached shown logs.
          let held = (w.ok is now shown logs).0 in
          let limit = held.2.limit in
          inr (held.0, held.1, holds_readied g.S.Journaled.view g.L.Log c.logs_edits.ensures c.names_roots.ensures c.log_waiting.new.self new (record { same = refl; rises = m.rises; limit = omega (arith, limit, stored); covered = m.covered }) held.0 held.2 (c.reserve_renewal.ensures.same _ held.2.in_log));
      lasting = λ now reached shown logs st lasts.
          let before = (w.ok is now shown logs).1 now (w.shown now shown) in
          inr (lasts_on g.S.Journaled.view g.L.Log c.logs_edits.ensures c.names_roots.ensures c.log_waiting.new.self new now (λ root base places is. is, m.rises) before (c.reserve_renewal.ensures.same _ before.kept.in_log.0) before.kept.in_log.1);
    }

pub returns-in_err-name_next_root-clause-answered : goal.returns-in_err-name_next_root-clause-answered
returns-in_err-name_next_root-clause-answered g c =
    passed (λ r. PutsRoot g.S.Journaled.view g.S.Journaled.calls (c.name_next_root.new.self.is_stopped ≡ true) (HasFailed g.M.MarkStore g.L.Log c.args.self.now c.name_next_root.new.self) c.args.self.now.server (checkpointed r) c.name_next_root.new.self.server) c.from_residual-in_err-name_next_root.result c.in_err-name_next_root.field-0.0 c.from_residual-in_err-name_next_root.ensures.1
    (puts_after g.S.Journaled.view g.S.Journaled.calls _ _ g.met.S.Journaled.same_then c.args.self.now.server c.log_waiting.new.self.server c.name_next_root.new.self.server _ c.log_waiting.ensures.same (never_unready g.S.Journaled.view g.S.Journaled.calls _ _ _ _ _ c.in_err-name_next_root.ensures.answered))

pub returns-in_err-name_next_root-clause-step : goal.returns-in_err-name_next_root-clause-step
returns-in_err-name_next_root-clause-step g c =
    passed (λ r. StepsAs (shown_by g.S.Handler.shows) c.args.self.now c.name_next_root.new.self CheckpointAsked (replied (checkpointed r))) c.from_residual-in_err-name_next_root.result c.in_err-name_next_root.field-0.0 c.from_residual-in_err-name_next_root.ensures.1
    (λ before reached shown. c.in_err-name_next_root.ensures.step before reached (c.log_waiting.ensures.shown before shown))

pub returns-in_err-name_next_root-clause-settles : goal.returns-in_err-name_next_root-clause-settles
returns-in_err-name_next_root-clause-settles g c =
    let is = c.if-not-log_waiting.false in
    let w = c.log_waiting.ensures in
    let m = c.store.ensures in
    let n = c.in_err-name_next_root.ensures in
    let mid = c.log_waiting.new.self in
    let new = c.name_next_root.new.self in
    let stored = on_ok c.store.result c.is_err.result c.is_err.ensures.value c.if-is_err.false m.ok in
    let on_disk : new.marks.stored ≡ c.store.new.self.stored = ap (λ k. k.stored) n.marks in
    let rises : mid.marks.stored ≤ new.marks.stored = (let up = m.rises in omega (arith, up, on_disk)) in
    let within = m.limit in
    let limit : new.marks.stored ≤ most_stamp = omega (arith, on_disk, stored, m.covered, within) in
    record {
      shown = λ st shown. n.shown st (w.shown st shown);
      logged = λ now reached shown logs. elim n.unchanged [
        | inl stopped ↦ inl stopped
        | inr same ↦
            let held = (w.ok is now shown logs).0 in
            inr (held.0, n.stays.rooted held.0 held.1, holds_readied g.S.Journaled.view g.L.Log c.logs_edits.ensures c.names_roots.ensures mid new (record { same = n.keeps.has; rises = rises; limit = limit; covered = ap (λ k. k.covered) n.marks ∙ m.covered }) held.0 held.2 (same _ (c.reserve_renewal.ensures.same _ held.2.in_log)))
      ];
      lasting = λ now reached shown logs st lasts.
          let shows = w.shown now shown in
          let before = (w.ok is now shown logs).1 now shows in
          let top = c.journal_laws.ensures.low new.server now (n.shown now shows) in
          let stamp = n.keeps.stamp in
          let last = w.covered is in
          let small : (g.S.Journaled.view.next_root new.server).top ≤ most_stamp = omega (arith, top, stamp, last, m.covered, within) in
          let bytes : (new.is_stopped ≡ true) ⊎ HaveBytes before.kept.records (g.S.Journaled.view.logged new.server) = elim before.kept.in_log.1 [ inl stopped ↦ true_not_false _ stopped (w.on is) | inr has ↦ inr (same_bytes before.kept.records _ _ (sym n.keeps.has) has) ] in
          inr (elim (n.err before.kept.records (c.reserve_renewal.ensures.same before.kept.records before.kept.in_log.0)) [
            | inl same ↦ lasts_on g.S.Journaled.view g.L.Log c.logs_edits.ensures c.names_roots.ensures mid new now (n.stays.stored, rises) before same bytes
            | inr more ↦ lasts_named g.S.Journaled.view g.L.Log c.logs_edits.ensures c.names_roots.ensures mid new now (g.S.Journaled.view.next_root new.server) small (n.stays.stored, rises) before more bytes
          ]);
    }

pub returns-in_err-name_next_root-clause-later : goal.returns-in_err-name_next_root-clause-later
returns-in_err-name_next_root-clause-later g c =
    let waiting = c.log_waiting.ensures.later in
    let room = c.reserve_renewal.ensures.reason.later in
    let name = c.in_err-name_next_root.ensures.later in
    omega (arith, waiting, room, name)

pub returns-in-Ok-clause-step : goal.returns-in-Ok-clause-step
returns-in-Ok-clause-step g c =
    let w = c.log_waiting.ensures in
    let p = c.in-Ok.ensures.checkpoints c.log_waiting.new.self.server c.in_ok-name_next_root.ensures.flushed in
    steps_named (shown_by g.S.Handler.shows) c.args.self.now c.empty_log.new.self c.empty_log.result c.empty_log.ensures.refusal
    (λ before reached shown.
    let mid = w.shown before shown in
    let (after, step, shows, whole) = p.step before reached mid in
    (after, step, c.empty_log.ensures.shown (p.done before mid).1 after shows, whole))
    (λ st shown. let mid = w.shown st shown in c.empty_log.ensures.shown (p.done st mid).1 st (p.shown st mid))

pub returns-in-Ok-clause-kept : goal.returns-in-Ok-clause-kept
returns-in-Ok-clause-kept g c = on_any c.empty_log.result (λ now shown logs.
    let is = c.if-not-log_waiting.false in
    let w = c.log_waiting.ensures in
    let p = c.in-Ok.ensures.checkpoints c.log_waiting.new.self.server c.in_ok-name_next_root.ensures.flushed in
    let m = c.store.ensures in
    let mid = c.log_waiting.new.self in
    let new = record c.name_next_root.new.self { server = c.put_root_now.new.self } in
    let marks = c.name_next_root.ensures.marks in
    let on_disk : new.marks.stored ≡ c.store.new.self.stored = ap (λ k. k.stored) marks in
    let covers : new.marks.covered ≡ mid.marks.covered = ap (λ k. k.covered) marks ∙ m.covered in
    let stored = on_ok c.store.result c.is_err.result c.is_err.ensures.value c.if-is_err.false m.ok in
    let within = m.limit in
    let rises : mid.marks.stored ≤ new.marks.stored = (let up = m.rises in omega (arith, up, on_disk)) in
    let limit : new.marks.stored ≤ most_stamp = omega (arith, on_disk, stored, m.covered, within) in
    let all : new.marks.covered ≤ new.marks.stored = omega (arith, on_disk, stored, covers) in
    let is_named : IsNamed g.S.Journaled.view g.S.Handler.shows g.L.Log c.logs_edits.ensures c.names_roots.ensures c.journal_laws.ensures.follows c.journal_laws.ensures.low mid new = record {
      ready = record { same = p.keeps.has; rises = rises; limit = limit; covered = covers };
      all = all;
      keeps = p.keeps;
      recording = w.recording is;
      none = w.waiting is;
      last = w.covered is;
      gains = λ records held. subst (λ (r : RootView). g.L.Log.holds c.name_next_root.new.self.log (records ++ named r ∷ [])) (sym c.put_root_now.ensures.next) (c.in_ok-name_next_root.ensures.ok records (c.reserve_renewal.ensures.same records held));
    } in
    let held = (w.ok is now shown logs).0 in
    let shows = w.shown now shown in
    let put = (p.done now shows).0 in
    let next = next_held g.S.Journaled.view g.S.Handler.shows g.L.Log c.logs_edits.ensures c.names_roots.ensures c.journal_laws.ensures.follows c.journal_laws.ensures.low mid new is_named held.0 now held.2 (p.shown now shows) put in
    let kept = c.empty_log.ensures.kept now put next.0 (last_stored g.S.Journaled.view g.S.Handler.shows g.L.Log c.logs_edits.ensures c.names_roots.ensures c.journal_laws.ensures.follows c.journal_laws.ensures.low mid new is_named) all next.1 in
    (kept.0, c.empty_log.ensures.recording ∙ p.keeps.goes_on ∙ w.recording is, c.empty_log.ensures.waiting (p.keeps.waits ∙ w.waiting is)))

pub returns-in-Ok-clause-settles : goal.returns-in-Ok-clause-settles
returns-in-Ok-clause-settles g c =
    let kept = λ (now : State) (shown : g.S.Handler.shows c.args.self.now.server now) (logs : Logs g.S.Journaled.view g.L.Log c.args.self.now).
    let is = c.if-not-log_waiting.false in
    let w = c.log_waiting.ensures in
    let p = c.in-Ok.ensures.checkpoints c.log_waiting.new.self.server c.in_ok-name_next_root.ensures.flushed in
    let m = c.store.ensures in
    let mid = c.log_waiting.new.self in
    let new = record c.name_next_root.new.self { server = c.put_root_now.new.self } in
    let marks = c.name_next_root.ensures.marks in
    let on_disk : new.marks.stored ≡ c.store.new.self.stored = ap (λ k. k.stored) marks in
    let covers : new.marks.covered ≡ mid.marks.covered = ap (λ k. k.covered) marks ∙ m.covered in
    let stored = on_ok c.store.result c.is_err.result c.is_err.ensures.value c.if-is_err.false m.ok in
    let within = m.limit in
    let rises : mid.marks.stored ≤ new.marks.stored = (let up = m.rises in omega (arith, up, on_disk)) in
    let limit : new.marks.stored ≤ most_stamp = omega (arith, on_disk, stored, m.covered, within) in
    let all : new.marks.covered ≤ new.marks.stored = omega (arith, on_disk, stored, covers) in
    let is_named : IsNamed g.S.Journaled.view g.S.Handler.shows g.L.Log c.logs_edits.ensures c.names_roots.ensures c.journal_laws.ensures.follows c.journal_laws.ensures.low mid new = record {
      ready = record { same = p.keeps.has; rises = rises; limit = limit; covered = covers };
      all = all;
      keeps = p.keeps;
      recording = w.recording is;
      none = w.waiting is;
      last = w.covered is;
      gains = λ records held. subst (λ (r : RootView). g.L.Log.holds c.name_next_root.new.self.log (records ++ named r ∷ [])) (sym c.put_root_now.ensures.next) (c.in_ok-name_next_root.ensures.ok records (c.reserve_renewal.ensures.same records held));
    } in
    let held = (w.ok is now shown logs).0 in
    let shows = w.shown now shown in
    let put = (p.done now shows).0 in
    let next = next_held g.S.Journaled.view g.S.Handler.shows g.L.Log c.logs_edits.ensures c.names_roots.ensures c.journal_laws.ensures.follows c.journal_laws.ensures.low mid new is_named held.0 now held.2 (p.shown now shows) put in
    c.empty_log.ensures.kept now put next.0 (last_stored g.S.Journaled.view g.S.Handler.shows g.L.Log c.logs_edits.ensures c.names_roots.ensures c.journal_laws.ensures.follows c.journal_laws.ensures.low mid new is_named) all next.1 in
    let p = c.in-Ok.ensures.checkpoints c.log_waiting.new.self.server c.in_ok-name_next_root.ensures.flushed in
    record {
      shown = λ st shown. let mid = c.log_waiting.ensures.shown st shown in c.empty_log.ensures.shown (p.done st mid).1 st (p.shown st mid);
      logged = λ now reached shown logs. (kept now shown logs).1;
      lasting = λ now reached shown logs st lasts. inr (kept now shown logs).0;
    }

pub returns-in-Ok-clause-covered : goal.returns-in-Ok-clause-covered
returns-in-Ok-clause-covered g c = on_any c.empty_log.result (
    let p = c.in-Ok.ensures.checkpoints c.log_waiting.new.self.server c.in_ok-name_next_root.ensures.flushed in
    let same = p.keeps.stamp in
    let before = c.log_waiting.ensures.covered c.if-not-log_waiting.false in
    let after = c.empty_log.ensures.last in
    let marks : c.name_next_root.new.self.marks.covered ≡ c.log_waiting.new.self.marks.covered = ap (λ k. k.covered) c.name_next_root.ensures.marks ∙ c.store.ensures.covered in
    rw c.empty_log.ensures.marks (omega (arith, same, before, after, marks)))

pub returns-in-Ok-clause-clean : goal.returns-in-Ok-clause-clean
returns-in-Ok-clause-clean g c = on_any c.empty_log.result (λ now shown. c.empty_log.ensures.clean ((c.in-Ok.ensures.checkpoints c.log_waiting.new.self.server c.in_ok-name_next_root.ensures.flushed).done now (c.log_waiting.ensures.shown now shown)).1)

pub returns-in-Ok-clause-done : goal.returns-in-Ok-clause-done
returns-in-Ok-clause-done g c = on_any c.empty_log.result (c.log_waiting.new.self.server, c.put_root_now.new.self, c.log_waiting.ensures.same, (c.in-Ok.ensures.checkpoints c.log_waiting.new.self.server c.in_ok-name_next_root.ensures.flushed).says, c.empty_log.ensures.same)

pub returns-in-Ok-clause-answered : goal.returns-in-Ok-clause-answered
returns-in-Ok-clause-answered g c = named_answer g.S.Journaled.view g.S.Journaled.calls _ _ c.args.self.now.server _ c.empty_log.result c.empty_log.ensures.refusal c.empty_log.ensures.stopped (c.log_waiting.new.self.server, c.put_root_now.new.self, c.log_waiting.ensures.same, (c.in-Ok.ensures.checkpoints c.log_waiting.new.self.server c.in_ok-name_next_root.ensures.flushed).says, c.empty_log.ensures.same)

pub returns-in-Ok-clause-refusal : goal.returns-in-Ok-clause-refusal
returns-in-Ok-clause-refusal g c = only_storage c.empty_log.result c.empty_log.ensures.refusal

pub returns-in-Ok-clause-named : goal.returns-in-Ok-clause-named
returns-in-Ok-clause-named g c = ok_through c.empty_log.result (λ renews now shown logs.
    let held = (c.log_waiting.ensures.ok c.if-not-log_waiting.false now shown logs).0 in
    record { records = _; in_log = renews _ (c.in_ok-name_next_root.ensures.ok _ (c.reserve_renewal.ensures.same _ held.2.in_log)); names = names_it (g.S.Journaled.view.next_root c.put_root_now.new.self) }) c.empty_log.ensures.named

pub returns-in-Ok-clause-on : goal.returns-in-Ok-clause-on
returns-in-Ok-clause-on g c = ok_through c.empty_log.result (λ same. same ∙ c.in_ok-name_next_root.ensures.on ∙ c.log_waiting.ensures.on c.if-not-log_waiting.false) c.empty_log.ensures.on

pub returns-in-Ok-clause-later : goal.returns-in-Ok-clause-later
returns-in-Ok-clause-later g c =
    let waiting = c.log_waiting.ensures.later in
    let room = c.reserve_renewal.ensures.reason.later in
    let next = c.name_next_root.ensures.later in
    let name = c.empty_log.ensures.later in
    omega (arith, waiting, room, next, name)

pub returns-in-Err-clause-answered : goal.returns-in-Err-clause-answered
returns-in-Err-clause-answered g c = answered (c.log_waiting.new.self.server, c.put_root_now.new.self, c.log_waiting.ensures.same, (c.in-Err.ensures.checkpoints c.log_waiting.new.self.server c.in_ok-name_next_root.ensures.flushed).says, g.met.S.Journaled.same_self c.put_root_now.new.self)

pub returns-in-Err-clause-step : goal.returns-in-Err-clause-step
returns-in-Err-clause-step g c = λ before reached shown. (c.in-Err.ensures.checkpoints c.log_waiting.new.self.server c.in_ok-name_next_root.ensures.flushed).step before reached (c.log_waiting.ensures.shown before shown)

pub returns-in-Err-clause-settles : goal.returns-in-Err-clause-settles
returns-in-Err-clause-settles g c =
    let is = c.if-not-log_waiting.false in
    let w = c.log_waiting.ensures in
    let p = c.in-Err.ensures.checkpoints c.log_waiting.new.self.server c.in_ok-name_next_root.ensures.flushed in
    let m = c.store.ensures in
    let mid = c.log_waiting.new.self in
    let new = record c.name_next_root.new.self { server = c.put_root_now.new.self } in
    let marks = c.name_next_root.ensures.marks in
    let on_disk : new.marks.stored ≡ c.store.new.self.stored = ap (λ k. k.stored) marks in
    let covers : new.marks.covered ≡ mid.marks.covered = ap (λ k. k.covered) marks ∙ m.covered in
    let stored = on_ok c.store.result c.is_err.result c.is_err.ensures.value c.if-is_err.false m.ok in
    let within = m.limit in
    let rises : mid.marks.stored ≤ new.marks.stored = (let up = m.rises in omega (arith, up, on_disk)) in
    let limit : new.marks.stored ≤ most_stamp = omega (arith, on_disk, stored, m.covered, within) in
    let all : new.marks.covered ≤ new.marks.stored = omega (arith, on_disk, stored, covers) in
    let is_named : IsNamed g.S.Journaled.view g.S.Handler.shows g.L.Log c.logs_edits.ensures c.names_roots.ensures c.journal_laws.ensures.follows c.journal_laws.ensures.low mid new = record {
      ready = record { same = p.keeps.has; rises = rises; limit = limit; covered = covers };
      all = all;
      keeps = p.keeps;
      recording = w.recording is;
      none = w.waiting is;
      last = w.covered is;
      gains = λ records held. subst (λ (r : RootView). g.L.Log.holds c.name_next_root.new.self.log (records ++ named r ∷ [])) (sym c.put_root_now.ensures.next) (c.in_ok-name_next_root.ensures.ok records (c.reserve_renewal.ensures.same records held));
    } in
    let any : (now : State) → g.S.Handler.shows c.args.self.now.server now → Logs g.S.Journaled.view g.L.Log c.args.self.now → (root : RootView) × g.S.Journaled.view.is_rooted c.put_root_now.new.self root × HoldsLogged g.S.Journaled.view g.L.Log new root × LastsIn g.S.Journaled.view g.L.Log new now = λ now shown logs.
    let held = (w.ok is now shown logs).0 in
    let shows = w.shown now shown in
    elim p.undone [
      | inl stays ↦
          let rooted = stays.rooted held.0 held.1 in
          let over = old_held g.S.Journaled.view g.S.Handler.shows g.L.Log c.logs_edits.ensures c.names_roots.ensures c.journal_laws.ensures.follows c.journal_laws.ensures.low mid new is_named held.0 now held.2 (p.shown now shows) rooted in
          (held.0, rooted, over.0, over.1)
      | inr put ↦
          let is_put = put now shows in
          let over = next_held g.S.Journaled.view g.S.Handler.shows g.L.Log c.logs_edits.ensures c.names_roots.ensures c.journal_laws.ensures.follows c.journal_laws.ensures.low mid new is_named held.0 now held.2 (p.shown now shows) is_put in
          (g.S.Journaled.view.next_root c.put_root_now.new.self, is_put.rooted, over.0, over.1)
    ] in
    record {
      shown = λ st shown. p.shown st (w.shown st shown);
      logged = λ now reached shown logs. let (root, rooted, log, lasts) = any now shown logs in inr (root, rooted, log);
      lasting = λ now reached shown logs st lasts. inr (any now shown logs).3;
    }

pub returns-in-Err-clause-later : goal.returns-in-Err-clause-later
returns-in-Err-clause-later g c =
    let waiting = c.log_waiting.ensures.later in
    let room = c.reserve_renewal.ensures.reason.later in
    let next = c.name_next_root.ensures.later in
    omega (arith, waiting, room, next)

pub returns-in_err-reserve_renewal-clause-later : goal.returns-in_err-reserve_renewal-clause-later
returns-in_err-reserve_renewal-clause-later g c =
    let waiting = c.log_waiting.ensures.later in
    let room = c.in_err-reserve_renewal.ensures.reason.later in
    omega (arith, waiting, room)

pub returns-then-is_err-clause-later : goal.returns-then-is_err-clause-later
returns-then-is_err-clause-later g c =
    let waiting = c.log_waiting.ensures.later in
    let room = c.reserve_renewal.ensures.reason.later in
    omega (arith, waiting, room)
