use Rattle.std.proofs.Common.{◌≡◌, ◌≤◌, ◌∙◌, ◌++◌, ◌∷◌, [], ap, inl, inr, refl, subst, sym, true, arith}
use Rattle.metadata_table.specs.Roots.{RootView}
use Rattle.request_codec.specs.declared.replies.Reply.TheVariants as codec
use Rattle.server_loop.specs.Commands.{checkpointed}
use Rattle.durable.specs.Devices.{most_stamp}
use Rattle.durable.specs.Answers.PutsRoot.{answered, failed}
use Rattle.durable.specs.Answers.{named}
use Rattle.durable.proofs.NextRoots.{IsNamed, last_stored, next_held}
use Rattle.durable.proofs.Rooted.{named_answer, puts_still}
use Rattle.durable.proofs.Logged.{lasts_named, lasts_on, no_less, on_err, on_ok}
use Rattle.durable.proofs.server.DurableServer.root_moved.Goals as goal

pub returns-then-is_err-clause-answered : goal.returns-then-is_err-clause-answered
returns-then-is_err-clause-answered g c = (_, failed refl refl (inl (g.met.S.Journaled.same_self c.args.self.now.server)))

pub returns-then-is_err-clause-kept : goal.returns-then-is_err-clause-kept
returns-then-is_err-clause-kept g c = λ before after root shown held none goes covered lasts. (
  inl (lasts_on g.S.Journaled.view g.L.Log c.logs_edits.ensures c.names_roots.ensures c.args.self.now _ before (λ root base places is. is, no_less _) lasts (c.reserve_renewal.ensures.same lasts.kept.records lasts.kept.in_log.0) (inl refl)),
  inl refl,
)

pub returns-then-is_err-2-clause-answered : goal.returns-then-is_err-2-clause-answered
returns-then-is_err-2-clause-answered g c = (_, failed refl refl (inl (g.met.S.Journaled.same_self c.args.self.now.server)))

pub returns-then-is_err-2-clause-kept : goal.returns-then-is_err-2-clause-kept
returns-then-is_err-2-clause-kept g c = λ before after root shown held none goes covered lasts. (
  inl (lasts_on g.S.Journaled.view g.L.Log c.logs_edits.ensures c.names_roots.ensures c.args.self.now _ before (λ root base places is. is, c.store.ensures.rises) lasts (c.reserve_renewal.ensures.same lasts.kept.records lasts.kept.in_log.0) (inl refl)),
  inl refl,
)

pub returns-then-is_err-3-clause-answered : goal.returns-then-is_err-3-clause-answered
returns-then-is_err-3-clause-answered g c = (
  checkpointed c.name_next_root.result,
  puts_still g.S.Journaled.view g.S.Journaled.calls (λ stopped. refl) (λ risen. risen) _ _ _ (on_err c.name_next_root.result c.is_err-3.result c.is_err-3.ensures.value c.if-is_err-3.true c.name_next_root.ensures.answered),
)

pub returns-then-is_err-3-clause-kept : goal.returns-then-is_err-3-clause-kept
returns-then-is_err-3-clause-kept g c = λ before after root shown held none goes covered lasts.
    let n = c.name_next_root.ensures in
    let m = c.store.ensures in
    let new = record c.name_next_root.new.self { is_stopped = true } in
    let on_disk : new.marks.stored ≡ c.store.new.self.stored = ap (λ k. k.stored) n.marks in
    let rises : c.args.self.now.marks.stored ≤ new.marks.stored = (let up = m.rises in omega (arith, up, on_disk)) in
    let top = c.journal_laws.ensures.low new.server after (n.shown after shown) in
    let stamp = n.keeps.stamp in
    let within = m.limit in
    let small : (g.S.Journaled.view.next_root new.server).top ≤ most_stamp = omega (arith, top, stamp, covered, m.covered, within) in
    let may = on_err c.name_next_root.result c.is_err-3.result c.is_err-3.ensures.value c.if-is_err-3.true n.err in (
      inl (elim (may lasts.kept.records (c.reserve_renewal.ensures.same lasts.kept.records lasts.kept.in_log.0)) [
        | inl same ↦ lasts_on g.S.Journaled.view g.L.Log c.logs_edits.ensures c.names_roots.ensures c.args.self.now new before (n.stays.stored, rises) lasts same (inl refl)
        | inr more ↦ lasts_named g.S.Journaled.view g.L.Log c.logs_edits.ensures c.names_roots.ensures c.args.self.now new before (g.S.Journaled.view.next_root new.server) small (n.stays.stored, rises) lasts more (inl refl)
      ]),
      inl refl,
    )

pub returns-in-Ok-clause-answered : goal.returns-in-Ok-clause-answered
returns-in-Ok-clause-answered g c =
    let flushed = on_ok c.name_next_root.result c.is_err-3.result c.is_err-3.ensures.value c.if-is_err-3.false c.name_next_root.ensures.flushed in
    (checkpointed c.empty_log.result, named_answer g.S.Journaled.view g.S.Journaled.calls _ _ c.args.self.now.server _ c.empty_log.result c.empty_log.ensures.refusal c.empty_log.ensures.stopped (c.args.self.now.server, c.put_root_now.new.self, g.met.S.Journaled.same_self c.args.self.now.server, (c.in-Ok.ensures.checkpoints c.args.self.now.server flushed).says, c.empty_log.ensures.same))

pub returns-in-Err-clause-answered : goal.returns-in-Err-clause-answered
returns-in-Err-clause-answered g c =
    let flushed = on_ok c.name_next_root.result c.is_err-3.result c.is_err-3.ensures.value c.if-is_err-3.false c.name_next_root.ensures.flushed in
    (codec.Refused c.in-Err.field-0, answered (c.args.self.now.server, c.put_root_now.new.self, g.met.S.Journaled.same_self c.args.self.now.server, (c.in-Err.ensures.checkpoints c.args.self.now.server flushed).says, g.met.S.Journaled.same_self c.put_root_now.new.self))

pub returns-in-Ok-clause-shown : goal.returns-in-Ok-clause-shown
returns-in-Ok-clause-shown g c = λ st shown.
    let flushed = on_ok c.name_next_root.result c.is_err-3.result c.is_err-3.ensures.value c.if-is_err-3.false c.name_next_root.ensures.flushed in
    let p = c.in-Ok.ensures.checkpoints c.args.self.now.server flushed in
    c.empty_log.ensures.shown (p.done st shown).1 st (p.shown st shown)

pub returns-in-Err-clause-shown : goal.returns-in-Err-clause-shown
returns-in-Err-clause-shown g c =
    let flushed = on_ok c.name_next_root.result c.is_err-3.result c.is_err-3.ensures.value c.if-is_err-3.false c.name_next_root.ensures.flushed in
    (c.in-Err.ensures.checkpoints c.args.self.now.server flushed).shown

pub returns-in-Ok-clause-kept : goal.returns-in-Ok-clause-kept
returns-in-Ok-clause-kept g c = λ before after old shown held none goes covered lasts.
    let flushed = on_ok c.name_next_root.result c.is_err-3.result c.is_err-3.ensures.value c.if-is_err-3.false c.name_next_root.ensures.flushed in
    let gains = on_ok c.name_next_root.result c.is_err-3.result c.is_err-3.ensures.value c.if-is_err-3.false c.name_next_root.ensures.ok in
    let p = c.in-Ok.ensures.checkpoints c.args.self.now.server flushed in
    let m = c.store.ensures in
    let mid = c.args.self.now in
    let new = record c.name_next_root.new.self { server = c.put_root_now.new.self; log = c.release_beside.new.self } in
    let marks = c.name_next_root.ensures.marks in
    let on_disk : new.marks.stored ≡ c.store.new.self.stored = ap (λ k. k.stored) marks in
    let covers : new.marks.covered ≡ mid.marks.covered = ap (λ k. k.covered) marks ∙ m.covered in
    let stored = on_ok c.store.result c.is_err-2.result c.is_err-2.ensures.value c.if-is_err-2.false m.ok in
    let within = m.limit in
    let rises : mid.marks.stored ≤ new.marks.stored = (let up = m.rises in omega (arith, up, on_disk)) in
    let limit : new.marks.stored ≤ most_stamp = omega (arith, on_disk, stored, m.covered, within) in
    let all : new.marks.covered ≤ new.marks.stored = omega (arith, on_disk, stored, covers) in
    let is_named : IsNamed g.S.Journaled.view g.S.Handler.shows g.L.Log c.logs_edits.ensures c.names_roots.ensures c.journal_laws.ensures.follows c.journal_laws.ensures.low mid new = record {
      ready = record { same = p.keeps.has; rises = rises; limit = limit; covered = covers };
      all = all;
      keeps = p.keeps;
      recording = goes;
      none = none;
      last = covered;
      gains = λ records held. c.release_beside.ensures.same _ (subst (λ (r : RootView). g.L.Log.holds c.name_next_root.new.self.log (records ++ named r ∷ [])) (sym c.put_root_now.ensures.next) (gains records (c.reserve_renewal.ensures.same records held)));
    } in
    let put = (p.done after shown).0 in
    let next = next_held g.S.Journaled.view g.S.Handler.shows g.L.Log c.logs_edits.ensures c.names_roots.ensures c.journal_laws.ensures.follows c.journal_laws.ensures.low mid new is_named old after held (p.shown after shown) put in
    let kept = c.empty_log.ensures.kept after put next.0 (last_stored g.S.Journaled.view g.S.Handler.shows g.L.Log c.logs_edits.ensures c.names_roots.ensures c.journal_laws.ensures.follows c.journal_laws.ensures.low mid new is_named) all next.1 in
    (inr kept.0, kept.1)

pub returns-in-Err-clause-kept : goal.returns-in-Err-clause-kept
returns-in-Err-clause-kept g c = λ before after old shown held none goes covered lasts.
    let flushed = on_ok c.name_next_root.result c.is_err-3.result c.is_err-3.ensures.value c.if-is_err-3.false c.name_next_root.ensures.flushed in
    let gains = on_ok c.name_next_root.result c.is_err-3.result c.is_err-3.ensures.value c.if-is_err-3.false c.name_next_root.ensures.ok in
    let p = c.in-Err.ensures.checkpoints c.args.self.now.server flushed in
    let m = c.store.ensures in
    let mid = c.args.self.now in
    let new = record c.name_next_root.new.self { server = c.put_root_now.new.self; log = c.release_beside.new.self; is_stopped = true } in
    let marks = c.name_next_root.ensures.marks in
    let on_disk : new.marks.stored ≡ c.store.new.self.stored = ap (λ k. k.stored) marks in
    let covers : new.marks.covered ≡ mid.marks.covered = ap (λ k. k.covered) marks ∙ m.covered in
    let stored = on_ok c.store.result c.is_err-2.result c.is_err-2.ensures.value c.if-is_err-2.false m.ok in
    let within = m.limit in
    let rises : mid.marks.stored ≤ new.marks.stored = (let up = m.rises in omega (arith, up, on_disk)) in
    let limit : new.marks.stored ≤ most_stamp = omega (arith, on_disk, stored, m.covered, within) in
    let all : new.marks.covered ≤ new.marks.stored = omega (arith, on_disk, stored, covers) in
    let is_named : IsNamed g.S.Journaled.view g.S.Handler.shows g.L.Log c.logs_edits.ensures c.names_roots.ensures c.journal_laws.ensures.follows c.journal_laws.ensures.low mid new = record {
      ready = record { same = p.keeps.has; rises = rises; limit = limit; covered = covers };
      all = all;
      keeps = p.keeps;
      recording = goes;
      none = none;
      last = covered;
      gains = λ records held. c.release_beside.ensures.same _ (subst (λ (r : RootView). g.L.Log.holds c.name_next_root.new.self.log (records ++ named r ∷ [])) (sym c.put_root_now.ensures.next) (gains records (c.reserve_renewal.ensures.same records held)));
    } in
    let top = c.journal_laws.ensures.low new.server after (p.shown after shown) in
    let stamp = p.keeps.stamp in
    let small : (g.S.Journaled.view.next_root new.server).top ≤ most_stamp = omega (arith, top, stamp, covered, m.covered, within) in (
      elim p.undone [
        | inl stays ↦ inl (lasts_named g.S.Journaled.view g.L.Log c.logs_edits.ensures c.names_roots.ensures c.args.self.now new before (g.S.Journaled.view.next_root new.server) small (stays.stored, rises) lasts (is_named.gains lasts.kept.records lasts.kept.in_log.0) (inl refl))
        | inr put ↦ inr (next_held g.S.Journaled.view g.S.Handler.shows g.L.Log c.logs_edits.ensures c.names_roots.ensures c.journal_laws.ensures.follows c.journal_laws.ensures.low mid new is_named old after held (p.shown after shown) (put after shown)).1
      ],
      inl refl,
    )
