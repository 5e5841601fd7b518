use Rattle.std.proofs.Common.{refl, sym, true≢false}
use Rattle.std.specs.Map.Iter.{deref_pair}
use Rattle.std.proofs.lemmas.Map.Iter.{rest_all, rest_more}
use Rattle.audit.proofs.EarlyMarks.{early_behind, early_here, early_rest, none_early}
use Rattle.audit.proofs.audit.marks.has_early.Goals as goal

pub returns-then-start-floor : goal.returns-then-start-floor
returns-then-start-floor c =
    let is = rest_more deref_pair c.loop-start.start-iterator c.next.new.self c.next.result _ c.in-Some.is c.next.ensures.steps in
    (λ t. c.loop-start.invariant.0 (early_here c.args.floor c.loop-start.start-iterator c.next.new.self _ c.in-Some.start.now is c.if-start-floor.true), λ early. refl)

pub loop-start-preserved : goal.loop-start-preserved
loop-start-preserved c =
    let is = rest_more deref_pair c.loop-start.start-iterator c.next.new.self c.next.result _ c.in-Some.is c.next.ensures.steps in (
      λ early. c.loop-start.invariant.0 (early_behind c.args.floor c.loop-start.start-iterator c.next.new.self _ c.in-Some.start.now is early),
      λ early. early_rest c.args.floor c.loop-start.start-iterator c.next.new.self _ c.in-Some.start.now is c.if-start-floor.false (c.loop-start.invariant.1 early),
    )

pub returns : goal.returns
returns c =
    let is = rest_all deref_pair c.loop-start.start-iterator c.next.new.self c.next.result c.in-None.is c.next.ensures.steps in
    (λ t. absurd (true≢false (sym t)), λ early. absurd (none_early c.args.floor c.loop-start.start-iterator is (c.loop-start.invariant.1 early)))
