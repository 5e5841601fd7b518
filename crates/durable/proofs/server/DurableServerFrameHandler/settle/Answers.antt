use Rattle.std.proofs.Common.{◌∙◌, inl, inr}
use Rattle.durable.proofs.Rooted.{failed_later, puts_still, settles_then, sweeps_still}
use Rattle.durable.proofs.server.DurableServerFrameHandler.settle.Goals as goal

pub returns-then-log_waiting-clause-ok : goal.returns-then-log_waiting-clause-ok
returns-then-log_waiting-clause-ok g c = record {
  joins = λ first b.
      let w = c.log_waiting.ensures in
      let is = c.if-log_waiting.true in
      record {
        mid = b.mid;
        tended = b.tended;
        rooted = elim b.rooted [
          | inl (due, put) ↦ inl (
            due,
            record {
              reply = put.reply;
              next = put.next;
              last = put.last;
              answered = puts_still g.S.Journaled.view g.S.Journaled.calls w.still (failed_later g.M.MarkStore g.L.Log first c.args.self.now c.log_waiting.new.self w.marks w.later) b.mid put.next put.reply put.answered;
              swept = sweeps_still g.S.Journaled.calls w.still first.upkeep put.reply put.next put.last put.swept;
              is_same = g.met.S.Journaled.same_then put.last _ _ put.is_same w.same;
              tried = w.due.1 ∙ put.tried;
              counted = w.due.3 ∙ put.counted;
            },
          )
          | inr (not, same, tried, counted) ↦ inr (not, g.met.S.Journaled.same_then b.mid _ _ same w.same, w.due.1 ∙ tried, w.due.3 ∙ counted)
        ];
        root_bytes = w.due.0 ∙ b.root_bytes;
        upkeep = w.due.2 ∙ b.upkeep;
        settles = settles_then _ _ _ first c.args.self.now _ b.settles (record {
          shown = w.shown;
          logged = λ now reached shown logs. inr (w.ok is now shown logs).0;
          lasting = λ now reached shown logs st lasts. inr ((w.ok is now shown logs).1 now (w.shown now shown));
        });
      };
  shown = c.log_waiting.ensures.shown;
  settled = λ now reached shown logs. let held = c.log_waiting.ensures.ok c.if-log_waiting.true now shown logs in (inr held.0, held.1);
}

pub returns-else-log_waiting-clause-err : goal.returns-else-log_waiting-clause-err
returns-else-log_waiting-clause-err g c = record {
  joins = λ first b.
      let w = c.log_waiting.ensures in
      let is = c.if-log_waiting.false in
      record {
        mid = b.mid;
        tended = b.tended;
        rooted = elim b.rooted [
          | inl (due, put) ↦ inl (
            due,
            record {
              reply = put.reply;
              next = put.next;
              last = put.last;
              answered = puts_still g.S.Journaled.view g.S.Journaled.calls w.still (failed_later g.M.MarkStore g.L.Log first c.args.self.now c.log_waiting.new.self w.marks w.later) b.mid put.next put.reply put.answered;
              swept = sweeps_still g.S.Journaled.calls w.still first.upkeep put.reply put.next put.last put.swept;
              is_same = g.met.S.Journaled.same_then put.last _ _ put.is_same w.same;
              tried = w.due.1 ∙ put.tried;
              counted = w.due.3 ∙ put.counted;
            },
          )
          | inr (not, same, tried, counted) ↦ inr (not, g.met.S.Journaled.same_then b.mid _ _ same w.same, w.due.1 ∙ tried, w.due.3 ∙ counted)
        ];
        root_bytes = w.due.0 ∙ b.root_bytes;
        upkeep = w.due.2 ∙ b.upkeep;
        settles = settles_then _ _ _ first c.args.self.now _ b.settles (record {
          shown = w.shown;
          logged = λ now reached shown logs. inl (w.stopped is);
          lasting = λ now reached shown logs. w.err is now shown logs;
        });
      };
  shown = c.log_waiting.ensures.shown;
  kept = λ now reached shown logs. c.log_waiting.ensures.err c.if-log_waiting.false now shown logs;
}
