use Rattle.std.proofs.Common.{◌≤◌, ◌∙◌, ℕ, List, [], ◌∷◌, ◌++◌, inl, inr, refl, sym, subst, arith}
use Rattle.commit_log.specs.Records.{spelled_record}
use Rattle.commit_log.specs.declared.records.RecordKind.TheVariants as kind
use Rattle.row_atomic.specs.Roots.{root_sum}
use Rattle.durable.specs.Devices.{IsOver, most_stamp}
use Rattle.durable.proofs.Logged.{covers_last, covers_low, gained, has_bytes, lasts_on, no_less, none_waits, shown_lasts, true_not_false}
use Rattle.durable.proofs.server.DurableServer.log_waiting.Goals as goal

pub returns-then-not-can_log-clause-err : goal.returns-then-not-can_log-clause-err
returns-then-not-can_log-clause-err g c = λ _ now shown logs st lasts.
    inl (lasts_on g.S.Journaled.view g.L.Log c.logs_edits.ensures c.names_roots.ensures c.args.self.now _ st (λ root base places is. is, no_less _) lasts lasts.kept.in_log.0 (inl refl))

pub returns-then-is_logged-clause-ok : goal.returns-then-is_logged-clause-ok
returns-then-is_logged-clause-ok g c = λ _ now shown logs.
    let can = c.can_log.ensures.0 c.if-not-can_log.false in
    let done = c.is_logged.ensures.0 c.if-is_logged.true in
    elim logs [
      | inl stopped ↦ true_not_false _ stopped can.0
      | inr logged ↦ (
        logged,
        λ st shown_st.
            let follows = c.journal_laws.ensures.follows c.args.self.now.server logged.0 st can.1 logged.1 shown_st in
            let low : g.S.Journaled.view.last c.args.self.now.server ≤ c.args.self.now.marks.covered = (let at = done.1 in omega (arith, at, c.last-last.ensures)) in
            shown_lasts g.S.Journaled.view g.L.Log c.logs_edits.ensures c.names_roots.ensures c.args.self.now.server _ logged.0 st follows (λ root base places is. is) logged.2.low logged.2.records logged.2.in_log logged.2.over logged.2.stamps (covers_low c.names_roots.ensures c.args.self.now.marks logged.2.records _ _ low logged.2.covered) logged.2.edits logged.2.held logged.2.stored logged.2.room
            (none_waits _ _ _ done.0 logged.2.bytes) (inr (has_bytes g.S.Journaled.view g.L.Log c.logs_edits.ensures c.names_roots.ensures c.args.self.now logged.0 logged.2)),
      )
    ]

pub returns-in-Err-clause-err : goal.returns-in-Err-clause-err
returns-in-Err-clause-err g c = λ _ now shown logs st lasts.
    let can = c.can_log.ensures.0 c.if-not-can_log.false in
    let mark = c.mark_over-mark.result in
    let limit : mark ≤ most_stamp = (let small = c.mark_over-mark.ensures.limit in omega (arith, small)) in
    let over_last : g.S.Journaled.view.last c.args.self.now.server ≤ mark = (let at = c.mark_over-mark.ensures.mark.over in omega (arith, at, c.last-last.ensures)) in
    elim logs [
      | inl stopped ↦ true_not_false _ stopped can.0
      | inr logged ↦ elim lasts.kept.in_log.1 [
        | inl stopped ↦ true_not_false _ stopped can.0
        | inr has ↦ elim (c.in-Err.ensures.err lasts.kept.records lasts.kept.in_log.0) [
          | inl same ↦ inl (lasts_on g.S.Journaled.view g.L.Log c.logs_edits.ensures c.names_roots.ensures c.args.self.now _ st (λ root base places is. is, no_less _) lasts same (inl refl))
          | inr more ↦
              let one = c.journal_laws.ensures.one c.args.self.now.server lasts.kept.root logged.0 lasts.kept.base st.places lasts.kept.kept.0 logged.1 in
              let over = subst (IsOver lasts.kept.records) one lasts.kept.over in
              let follows = c.journal_laws.ensures.follows c.args.self.now.server logged.0 now can.1 logged.1 shown in
              let gains = gained g.S.Journaled.view g.L.Log c.logs_edits.ensures c.names_roots.ensures c.as_many_edits.ensures c.args.self.now.server mark logged.0 now c.waiting.ensures.within follows lasts.kept.records lasts.kept.edits lasts.kept.held lasts.kept.stored
              (c.logs_edits.ensures.whole lasts.kept.records lasts.kept.edits has.edits lasts.kept.held has.held lasts.kept.stored has.stored ∙ has.spelled) in
              inr (shown_lasts g.S.Journaled.view g.L.Log c.logs_edits.ensures c.names_roots.ensures c.args.self.now.server _ logged.0 now follows (λ root base places is. is) logged.2.low _ (subst (λ (w : List ℕ). g.L.Log.holds c.append.new.self (lasts.kept.records ++ spelled_record kind.Edits mark w ∷ [])) c.waiting.ensures.bytes more)
              (c.names_roots.ensures.stays lasts.kept.records _ logged.0.top (root_sum logged.0) over)
              (c.names_roots.ensures.up_to lasts.kept.records kind.Edits mark most_stamp _ lasts.kept.stamps limit)
              (covers_last c.names_roots.ensures c.args.self.now.marks lasts.kept.records mark _ _ limit over_last)
              gains.edits gains.held gains.stored gains.room gains.all (inl refl))
        ]
      ]
    ]

pub returns-in-Ok-clause-ok : goal.returns-in-Ok-clause-ok
returns-in-Ok-clause-ok g c = λ _ now shown logs.
    let can = c.can_log.ensures.0 c.if-not-can_log.false in
    let mark = c.mark_over-mark.result in
    let limit : mark ≤ most_stamp = (let small = c.mark_over-mark.ensures.limit in omega (arith, small)) in
    let over_last : g.S.Journaled.view.last c.args.self.now.server ≤ mark = (let at = c.mark_over-mark.ensures.mark.over in omega (arith, at, c.last-last.ensures)) in
    elim logs [
      | inl stopped ↦ true_not_false _ stopped can.0
      | inr logged ↦
          let held = logged.2 in
          let follows = c.journal_laws.ensures.follows c.args.self.now.server logged.0 now can.1 logged.1 shown in
          let gains = gained g.S.Journaled.view g.L.Log c.logs_edits.ensures c.names_roots.ensures c.as_many_edits.ensures c.args.self.now.server mark logged.0 now c.waiting.ensures.within follows held.records held.edits held.held held.stored held.bytes in
          let in_log = subst (λ (w : List ℕ). g.L.Log.holds c.append.new.self (held.records ++ spelled_record kind.Edits mark w ∷ [])) c.waiting.ensures.bytes (c.in-Ok.ensures.ok held.records held.in_log) in
          let over = c.names_roots.ensures.stays held.records (spelled_record kind.Edits mark (g.S.Journaled.view.waiting c.args.self.now.server)) logged.0.top (root_sum logged.0) held.over in
          let stamps = c.names_roots.ensures.up_to held.records kind.Edits mark most_stamp (g.S.Journaled.view.waiting c.args.self.now.server) held.stamps limit in
          let bytes = gains.all ∙ sym c.settled.ensures.logged in
          let rooted = c.settled.ensures.stays.rooted logged.0 logged.1 in
          let higher = c.mark_over-mark.ensures.mark.later in (
            (
              logged.0,
              rooted,
              record {
                records = _;
                in_log = in_log;
                over = over;
                stamps = stamps;
                low = rw c.cover.ensures held.low;
                limit = rw c.cover.ensures held.limit;
                covered = covers_last c.names_roots.ensures c.cover.new.self held.records mark _ _ limit (rw c.cover.ensures (omega (arith, higher)));
                edits = gains.edits;
                held = gains.held;
                stored = gains.stored;
                room = gains.room;
                bytes = bytes;
              },
            ),
            λ st shown_st.
                let on = c.journal_laws.ensures.follows c.settled.new.self logged.0 st (c.settled.ensures.recording ∙ can.1) rooted shown_st in
                shown_lasts g.S.Journaled.view g.L.Log c.logs_edits.ensures c.names_roots.ensures c.settled.new.self _ logged.0 st on (λ root base places is. is) (rw c.cover.ensures held.low) (held.records ++ spelled_record kind.Edits mark (g.S.Journaled.view.waiting c.args.self.now.server) ∷ []) in_log over stamps
                (covers_last c.names_roots.ensures c.cover.new.self held.records mark _ _ limit (omega (arith, over_last, c.settled.ensures.stamp))) gains.edits gains.held gains.stored gains.room
                (none_waits _ _ _ c.settled.ensures.waiting bytes) (inr (record { edits = gains.edits; held = gains.held; stored = gains.stored; spelled = bytes })),
          )
    ]
