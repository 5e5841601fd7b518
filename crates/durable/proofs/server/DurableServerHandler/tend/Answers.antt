use Rattle.std.proofs.Common.{◌≡◌, ◌≤◌, ◌∙◌, Bool, true, ap, inl, inr, refl, subst, sym}
use Rattle.server_loop.specs.Commands.{checkpointed}
use Rattle.durable.specs.Due.{IsRootDue, tried_at}
use Rattle.durable.specs.Answers.{SweepsAfter}
use Rattle.durable.proofs.Logged.{logs_on, no_less, recounted, still_lasts, true_not_false}
use Rattle.durable.proofs.Rooted.{failed_later, puts_still, settles_then}
use Rattle.durable.proofs.server.DurableServerHandler.tend.Goals as goal

pub returns-then-is_root_due-clause-between : goal.returns-then-is_root_due-clause-between
returns-then-is_root_due-clause-between g c =
    let t = c.journal_laws.ensures.tends c.args.self.now.server c.tend.new.self c.tend.ensures.between in
    record {
      mid = c.tend.new.self;
      tended = c.tend.ensures.between;
      rooted = inl (
        subst (IsRootDue c.args.self.now) c.written-written.ensures (c.is_root_due.ensures.0 c.if-is_root_due.true),
        record {
          reply = checkpointed c.root-done.result;
          next = c.root-done.new.self.server;
          answered = puts_still g.S.Journaled.view g.S.Journaled.calls c.sweep_after.ensures.still
              (failed_later g.M.MarkStore g.L.Log c.args.self.now c.root-done.new.self c.sweep_after.new.self (ap (λ m. m.marks) c.sweep_after.ensures.marks) (subst (λ l. g.L.Log.faults c.root-done.new.self.log ≤ g.L.Log.faults l) (sym c.sweep_after.ensures.log) (no_less _))) _ _ _ c.root-done.ensures.answered;
          last = c.sweep_after.new.self.server;
          is_same = g.met.S.Journaled.same_self c.sweep_after.new.self.server;
          swept = subst (λ (upkeep : Bool). SweepsAfter g.S.Journaled.calls (c.sweep_after.new.self.is_stopped ≡ true) upkeep (checkpointed c.root-done.result) c.root-done.new.self.server c.sweep_after.new.self.server) c.root-done.ensures.due.2 c.sweep_after.ensures.swept;
          tried = c.sweep_after.ensures.due.1 ∙ c.tried_after-self.ensures ∙ ap (tried_at (checkpointed c.root-done.result)) c.written-written.ensures;
          counted = c.sweep_after.ensures.due.3;
        },
      );
      root_bytes = c.sweep_after.ensures.due.0 ∙ c.root-done.ensures.due.0;
      upkeep = c.sweep_after.ensures.due.2 ∙ c.root-done.ensures.due.2;
      settles = settles_then _ _ _ c.args.self.now (record c.args.self.now { server = c.tend.new.self }) _ (record {
        shown = t.2;
        logged = λ now reached shown. logs_on g.S.Journaled.view g.L.Log c.logs_edits.ensures c.names_roots.ensures c.args.self.now c.tend.new.self t.0 t.1;
        lasting = λ now reached shown logs st lasts. inl (still_lasts g.S.Journaled.view g.L.Log c.logs_edits.ensures c.names_roots.ensures c.args.self.now c.tend.new.self st t.0.stored t.1 lasts);
      }) (settles_then _ _ _ (record c.args.self.now { server = c.tend.new.self }) c.root-done.new.self _ c.root-done.ensures.settles (settles_then _ _ _ c.root-done.new.self (record c.root-done.new.self { tried_bytes = c.tried_after-self.result; answered = 0 }) _
          (recounted g.S.Journaled.view g.L.Log c.logs_edits.ensures c.names_roots.ensures _ _ refl refl (λ records held. held) refl g.S.Handler.shows) c.sweep_after.ensures.settles));
    }

pub returns-else-is_root_due-clause-between : goal.returns-else-is_root_due-clause-between
returns-else-is_root_due-clause-between g c =
    let t = c.journal_laws.ensures.tends c.args.self.now.server c.tend.new.self c.tend.ensures.between in
    record {
      mid = c.tend.new.self;
      tended = c.tend.ensures.between;
      rooted = inr (
        λ due. true_not_false _ (c.is_root_due.ensures.1 (subst (IsRootDue c.args.self.now) (sym c.written-written.ensures) due)) c.if-is_root_due.false,
        g.met.S.Journaled.same_self c.tend.new.self,
        refl,
        c.saturating_add-self.ensures,
      );
      root_bytes = refl;
      upkeep = refl;
      settles = settles_then _ _ _ c.args.self.now (record c.args.self.now { server = c.tend.new.self }) _ (record {
        shown = t.2;
        logged = λ now reached shown. logs_on g.S.Journaled.view g.L.Log c.logs_edits.ensures c.names_roots.ensures c.args.self.now c.tend.new.self t.0 t.1;
        lasting = λ now reached shown logs st lasts. inl (still_lasts g.S.Journaled.view g.L.Log c.logs_edits.ensures c.names_roots.ensures c.args.self.now c.tend.new.self st t.0.stored t.1 lasts);
      }) (recounted g.S.Journaled.view g.L.Log c.logs_edits.ensures c.names_roots.ensures _ _ refl refl (λ records held. held) refl g.S.Handler.shows);
    }
