use Rattle.std.proofs.Common.{◌≤◌, ◌∙◌, inl, inr, refl, arith, ap}
use Rattle.si_model.specs.Machine.{refuses}
use Rattle.si_model.specs.Refusing.{gives_up}
use Rattle.si_model.specs.Transactions.{steps}
use Rattle.request_codec.specs.declared.replies.Reply.TheVariants as codec
use Rattle.durable.proofs.Logged.{holds_on, still_lasts, true_not_false}
use Rattle.durable.proofs.Rooted.{moves_rooted, never_unready}
use Rattle.server_loop.proofs.SessionSteps.{said_of}
use Rattle.durable.proofs.server.DurableServer.rearrange.Goals as goal

pub returns-then-not-self-clause-says : goal.returns-then-not-self-clause-says
returns-then-not-self-clause-says g c =
    let moves = c.journal_laws.ensures.moves c.root_with_room.new.self.server c.reply_to-reply.new.self c.args.request c.reply_to-reply.result c.requires c.reply_to-reply.ensures.says in
    let covered : g.S.Journaled.view.last c.reply_to-reply.new.self ≤ c.root_with_room.new.self.marks.covered = (let same = moves.1.stamp in let before = c.in-Ok.ensures.covered in omega (arith, same, before)) in
    record {
      answered = moves_rooted g.S.Journaled.view g.S.Journaled.calls g.S.Handler.says _ _ _ _ c.args.self.now.server c.root_moved.new.self.server c.args.request c.reply_to-reply.result c.requires
          (inr (c.root_with_room.new.self.server, c.reply_to-reply.new.self, c.in-Ok.ensures.done, c.reply_to-reply.ensures.says, inr (c.root_moved.ensures.answered.0, never_unready g.S.Journaled.view g.S.Journaled.calls _ _ c.reply_to-reply.new.self c.root_moved.new.self.server c.root_moved.ensures.answered.0 c.root_moved.ensures.answered.1)));
      goes_on = λ now reached shown.
          let mid = c.root_with_room.ensures.settles.shown now shown in
          let (next, step, shows, whole) = c.reply_to-reply.ensures.step now reached mid in
          record {
            next = next;
            goes = steps step;
            shown = c.root_moved.ensures.shown next shows;
            whole = λ is. whole (ap said_of is);
            logged = λ logs. elim (c.root_with_room.ensures.settles.logged now reached shown logs) [
              | inl stopped ↦ true_not_false _ stopped c.if-not-self.true
              | inr h ↦ let k = c.in-Ok.ensures.kept now shown logs in (c.root_moved.ensures.kept now next h.0 shows (holds_on g.S.Journaled.view g.L.Log c.logs_edits.ensures c.names_roots.ensures c.root_with_room.new.self c.reply_to-reply.new.self h.0 h.2 moves.1.has) (moves.1.waits ∙ k.2) (moves.1.goes_on ∙ k.1) covered (still_lasts g.S.Journaled.view g.L.Log c.logs_edits.ensures c.names_roots.ensures c.root_with_room.new.self c.reply_to-reply.new.self now moves.0 moves.1.has k.0)).1
            ];
            lasting = λ logs st lasts. inr (elim (c.root_with_room.ensures.settles.logged now reached shown logs) [
              | inl stopped ↦ true_not_false _ stopped c.if-not-self.true
              | inr h ↦ let k = c.in-Ok.ensures.kept now shown logs in (c.root_moved.ensures.kept now next h.0 shows (holds_on g.S.Journaled.view g.L.Log c.logs_edits.ensures c.names_roots.ensures c.root_with_room.new.self c.reply_to-reply.new.self h.0 h.2 moves.1.has) (moves.1.waits ∙ k.2) (moves.1.goes_on ∙ k.1) covered (still_lasts g.S.Journaled.view g.L.Log c.logs_edits.ensures c.names_roots.ensures c.root_with_room.new.self c.reply_to-reply.new.self now moves.0 moves.1.has k.0)).0
            ]);
          };
    }

pub returns-else-not-self-clause-says : goal.returns-else-not-self-clause-says
returns-else-not-self-clause-says g c =
    let moves = c.journal_laws.ensures.moves c.root_with_room.new.self.server c.reply_to-reply.new.self c.args.request c.reply_to-reply.result c.requires c.reply_to-reply.ensures.says in
    record {
      answered = moves_rooted g.S.Journaled.view g.S.Journaled.calls g.S.Handler.says _ _ _ _ c.args.self.now.server c.reply_to-reply.new.self c.args.request c.reply_to-reply.result c.requires
          (inr (c.root_with_room.new.self.server, c.reply_to-reply.new.self, c.in-Ok.ensures.done, c.reply_to-reply.ensures.says, inl (g.met.S.Journaled.same_self c.reply_to-reply.new.self)));
      goes_on = λ now reached shown.
          let mid = c.root_with_room.ensures.settles.shown now shown in
          let (next, step, shows, whole) = c.reply_to-reply.ensures.step now reached mid in
          record {
            next = next;
            goes = steps step;
            shown = shows;
            whole = λ is. whole (ap said_of is);
            logged = λ logs. inl c.if-not-self.false;
            lasting = λ logs st lasts. inr (inl (still_lasts g.S.Journaled.view g.L.Log c.logs_edits.ensures c.names_roots.ensures c.root_with_room.new.self c.reply_to-reply.new.self now moves.0 moves.1.has (c.in-Ok.ensures.kept now shown logs).0));
          };
    }

pub returns-in-Err-clause-says : goal.returns-in-Err-clause-says
returns-in-Err-clause-says g c = record {
  answered = moves_rooted g.S.Journaled.view g.S.Journaled.calls g.S.Handler.says _ _ _ _ c.args.self.now.server c.root_with_room.new.self.server c.args.request (codec.Refused c.in-Err.refusal) c.requires (inl (c.in-Err.refusal, refl, c.in-Err.ensures.refused));
  goes_on = λ now reached shown. record {
    next = now;
    goes = steps (refuses (gives_up c.in-Err.ensures.refusal));
    shown = c.root_with_room.ensures.settles.shown now shown;
    whole = λ is. (c.in-Err.ensures.step now reached shown).3 (ap said_of is);
    logged = c.root_with_room.ensures.settles.logged now reached shown;
    lasting = λ logs st lasts. elim (c.root_with_room.ensures.settles.lasting now reached shown logs st lasts) [ inl same ↦ inl same | inr is ↦ inr (inl is) ];
  };
}
