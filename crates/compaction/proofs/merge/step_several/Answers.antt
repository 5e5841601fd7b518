use Rattle.std.proofs.Common.{◌≡◌, ◌∙◌, List, ℕ, length, map, true, false, sym, ap, subst}
use Rattle.std.specs.Prelude.{is_some}
use Rattle.std.specs.List.{AllZip}
use Rattle.compaction.specs.Order.{IsOrdered}
use Rattle.compaction.specs.Merging.{Advances, GoesPast, first_lent}
use Rattle.compaction.proofs.Ending.{past_none, past_some}
use Rattle.compaction.proofs.Falls.{back_whole, falls_at, all_none, on_ok}
use Rattle.compaction.proofs.Tied.{past_all_tied, ready_some, some_started, steps_all_tied}
use Rattle.compaction.proofs.merge.step_several.Goals as goal

pub returns-else-is_at_entry-clause-past : goal.returns-else-is_at_entry-clause-past
returns-else-is_at_entry-clause-past g c =
    let none = subst (λ (l : List ℕ). false ≡ is_some (first_lent g.S.Source.lent c.args.sources.now l)) c.deref.ensures.value c.if-is_at_entry.ensures in
    on_ok c.step_first.result _ _ c.step_first.ensures.moves (λ h _. past_none (g.S.Source.steps (g.F.Files.contents c.args.files.now)) g.S.Source.lent _ c.args.sources.now c.step_first.new.sources none h)

pub returns-then-is_at_entry-clause-past : goal.returns-then-is_at_entry-clause-past
returns-then-is_at_entry-clause-past g c =
    let told = g.F.Files.contents c.args.files.now in
    let xs = c.args.sources.now in
    let ys = c.step_tied.new.sources in
    let items = c.args.order.now.items in
    let lent = g.S.Source.lent in
    let Adv = Advances (g.S.Source.steps told) lent (g.S.Source.remaining told) (g.S.Source.holds told) in
    let some = subst (λ (l : List ℕ). true ≡ is_some (first_lent lent xs l)) c.deref.ensures.value c.if-is_at_entry.ensures in
    on_ok c.step_tied.result _ _ c.step_tied.ensures.past (λ h ready.
    let back = subst (IsOrdered (map lent xs)) (sym c.deref_mut.ensures.value) (ready_some (map lent xs) items some ready) in
    past_some (g.S.Source.steps told) lent _ xs ys some
    (past_all_tied (g.S.Source.steps told) lent (g.S.Source.remaining told) (g.S.Source.holds told) _ xs ys (subst (λ (l : List ℕ). AllZip (GoesPast Adv lent (first_lent lent xs l)) xs ys) c.deref_mut.ensures.value (h back))))

pub returns-then-is_at_entry-clause-sorted : goal.returns-then-is_at_entry-clause-sorted
returns-then-is_at_entry-clause-sorted g c =
    let xs = c.args.sources.now in
    let items = c.args.order.now.items in
    let lent = g.S.Source.lent in
    let some = subst (λ (l : List ℕ). true ≡ is_some (first_lent lent xs l)) c.deref.ensures.value c.if-is_at_entry.ensures in
    on_ok c.step_tied.result _ _ c.step_tied.ensures.sorted (λ h ready.
    let back = subst (IsOrdered (map lent xs)) (sym c.deref_mut.ensures.value) (ready_some (map lent xs) items some ready) in
    rw (back_whole c.step_tied.new.order items c.args.order.now.len (c.step_tied.auto.order ∙ ap length c.deref_mut.ensures.value) c.args.order.now.ok.0) (h back))

pub returns-else-is_at_entry-clause-steps : goal.returns-else-is_at_entry-clause-steps
returns-else-is_at_entry-clause-steps g c =
    let told = g.F.Files.contents c.args.files.now in
    let none = subst (λ (l : List ℕ). false ≡ is_some (first_lent g.S.Source.lent c.args.sources.now l)) c.deref.ensures.value c.if-is_at_entry.ensures in
    on_ok c.step_first.result _ _ c.step_first.ensures.steps (λ steps h. all_none g.S.Source.lent (g.S.Source.remaining told) (g.S.Source.holds told) c.args.sources.now c.step_first.new.sources c.args.order.now.items none h steps)

pub returns-then-is_at_entry-clause-steps : goal.returns-then-is_at_entry-clause-steps
returns-then-is_at_entry-clause-steps g c =
    let told = g.F.Files.contents c.args.files.now in
    let xs = c.args.sources.now in
    let ys = c.step_tied.new.sources in
    let items = c.args.order.now.items in
    let lent = g.S.Source.lent in
    let Adv = Advances (g.S.Source.steps told) lent (g.S.Source.remaining told) (g.S.Source.holds told) in
    let some = subst (λ (l : List ℕ). true ≡ is_some (first_lent lent xs l)) c.deref.ensures.value c.if-is_at_entry.ensures in
    on_ok c.step_tied.result _ _ c.step_tied.ensures.past (λ past h.
    let back = subst (IsOrdered (map lent xs)) (sym c.deref_mut.ensures.value) (ready_some (map lent xs) items some h.ready) in
    steps_all_tied (g.S.Source.steps told) lent (g.S.Source.remaining told) (g.S.Source.holds told) _ xs ys (subst (λ (l : List ℕ). AllZip (GoesPast Adv lent (first_lent lent xs l)) xs ys) c.deref_mut.ensures.value (past back))
    h.each (some_started lent (g.S.Source.remaining told) xs _ some h.started))

pub returns-else-is_at_entry-clause-lower : goal.returns-else-is_at_entry-clause-lower
returns-else-is_at_entry-clause-lower g c = on_ok c.step_first.result _ _ c.step_first.ensures.cost (falls_at g.S.Source.lent c.step_first.new.sources _ _)
