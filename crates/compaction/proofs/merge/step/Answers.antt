use Rattle.std.proofs.Common.{◌≡◌, length, map, sym, arith}
use Rattle.std.proofs.lemmas.Bool.Decides.{nat_tests}
use Rattle.compaction.proofs.Ending.{past_some}
use Rattle.compaction.proofs.Falls.{on_ok}
use Rattle.compaction.proofs.OnlyPlace.{first_some, one_ready}
use Rattle.compaction.proofs.Tied.{past_all_tied, some_started, steps_all_tied}
use Rattle.compaction.proofs.merge.step.Goals as goal

pub returns-then-len-eq1-clause-past : goal.returns-then-len-eq1-clause-past
returns-then-len-eq1-clause-past g c =
    let told = g.F.Files.contents c.args.files.now in
    let lent = g.S.Source.lent in
    let xs = c.args.sources.now in
    let ys = c.step_only.new.sources in
    let items = c.args.order.now.items in
    let one : length items ≡ 1 = grind (arith, nat_tests, c.len.ensures, c.if-len-eq1.true) in
    on_ok c.step_only.result _ _ c.step_only.ensures.past (λ past ready.
    let o = one_ready (map lent xs) items one ready in
    past_some (g.S.Source.steps told) lent _ xs ys (sym (first_some lent xs items o one))
    (past_all_tied (g.S.Source.steps told) lent (g.S.Source.remaining told) (g.S.Source.holds told) _ xs ys (past o)))

pub returns-then-len-eq1-clause-steps : goal.returns-then-len-eq1-clause-steps
returns-then-len-eq1-clause-steps g c =
    let told = g.F.Files.contents c.args.files.now in
    let lent = g.S.Source.lent in
    let xs = c.args.sources.now in
    let ys = c.step_only.new.sources in
    let items = c.args.order.now.items in
    let one : length items ≡ 1 = grind (arith, nat_tests, c.len.ensures, c.if-len-eq1.true) in
    on_ok c.step_only.result _ _ c.step_only.ensures.past (λ past h.
    let o = one_ready (map lent xs) items one h.ready in
    let some = sym (first_some lent xs items o one) in
    steps_all_tied (g.S.Source.steps told) lent (g.S.Source.remaining told) (g.S.Source.holds told) _ xs ys (past o) h.each (some_started lent (g.S.Source.remaining told) xs _ some h.started))
