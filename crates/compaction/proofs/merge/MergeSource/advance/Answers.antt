use Rattle.std.proofs.Common.{◌∙◌, ap, length}
use Rattle.compaction.proofs.Falls.{back_whole, on_both}
use Rattle.compaction.specs.MergeLaw.{merge_takes, merge_holds}
use Rattle.compaction.proofs.merge.MergeSource.advance.Goals as goal

pub returns-clause-lower : goal.returns-clause-lower
returns-clause-lower g c =
    let news = back_whole c.step.new.sources c.args.self.now.sources.items c.args.self.now.sources.len (c.step.auto.sources ∙ ap length c.deref_mut.ensures.value) c.args.self.now.sources.ok.0 in
    rw (news, ← c.deref_mut.ensures.value) c.step.ensures.lower

pub returns-clause-holds : goal.returns-clause-holds
returns-clause-holds g c =
    let news = back_whole c.step.new.sources c.args.self.now.sources.items c.args.self.now.sources.len (c.step.auto.sources ∙ ap length c.deref_mut.ensures.value) c.args.self.now.sources.ok.0 in
    rw (news, ← c.deref_mut.ensures.value) (on_both c.step.result _ _ _ c.step.ensures.steps c.step.ensures.ordered (λ steps ordered h.
    merge_holds g.S.Source.lent (g.S.Source.remaining (g.F.Files.contents c.args.files.now)) (g.S.Source.holds (g.F.Files.contents c.args.files.now)) c.deref_mut.result.now c.step.new.sources _ c.step.new.order.items (steps h) (ordered h.ready)))

pub returns-clause-takes : goal.returns-clause-takes
returns-clause-takes g c =
    let news = back_whole c.step.new.sources c.args.self.now.sources.items c.args.self.now.sources.len (c.step.auto.sources ∙ ap length c.deref_mut.ensures.value) c.args.self.now.sources.ok.0 in
    rw (news, ← c.deref_mut.ensures.value) (on_both c.step.result _ _ _ c.step.ensures.steps c.step.ensures.ordered (λ steps ordered h.
    merge_takes g.S.Source.lent (g.S.Source.remaining (g.F.Files.contents c.args.files.now)) (g.S.Source.holds (g.F.Files.contents c.args.files.now)) (λ s k. (g.met.S.Source.list (g.F.Files.contents c.args.files.now) s k).rising) c.deref_mut.result.now c.step.new.sources c.args.self.now.order.items c.step.new.order.items (steps h) (ordered h.ready)))

pub returns-clause-steps : goal.returns-clause-steps
returns-clause-steps g c =
    let news = back_whole c.step.new.sources c.args.self.now.sources.items c.args.self.now.sources.len (c.step.auto.sources ∙ ap length c.deref_mut.ensures.value) c.args.self.now.sources.ok.0 in
    rw (news, ← c.deref_mut.ensures.value) (on_both c.step.result _ _ _ c.step.ensures.past c.step.ensures.ordered (λ past ordered ready. record {
      past = past ready;
      ordered = ordered ready;
    }))
