use Rattle.std.proofs.Common.{ap, ◌∙◌}
use Rattle.cell_key.specs.Entries.{merged}
use Rattle.compaction.specs.Ends.{entries_until}
use Rattle.compaction.proofs.Passed.{merges_budget, merges_to_end}
use Rattle.compaction.proofs.StepLists.{from_on, on_ok, whole_list, whole_rises}
use Rattle.compaction.proofs.merge_step.merge_on.Goals as goal

pub returns-clause-step : goal.returns-clause-step
returns-clause-step g c =
    let m = g.F.Files.contents c.args.files.now in
    on_ok c.go_on.result _ _ c.go_on.ensures.step (λ more h is.
    merges_budget (g.S.Source.steps m) g.S.Source.lent (λ s. s.sources.items) (λ s. s.order.items) c.in_ok-merge.merge c.args.sources.items (ap (λ xs. xs.items) c.in_ok-merge.ensures.sources) c.in_ok-merge.ensures.order c.args.budget c.go_on.new.source _ (h is))

pub returns-clause-ends : goal.returns-clause-ends
returns-clause-ends g c =
    let m = g.F.Files.contents c.args.files.now in
    on_ok c.go_on.result _ _ c.go_on.ensures.ends (λ more h is.
    merges_to_end (g.S.Source.steps m) g.S.Source.lent (λ s. s.sources.items) (λ s. s.order.items) c.in_ok-merge.merge c.args.sources.items (ap (λ xs. xs.items) c.in_ok-merge.ensures.sources) c.in_ok-merge.ensures.order c.args.budget (h is))

pub returns-clause-goes : goal.returns-clause-goes
returns-clause-goes g c =
    let m = g.F.Files.contents c.args.files.now in
    on_ok c.go_on.result _ _ c.go_on.ensures.goes (λ more h is lists end start parts was.
    h is (entries_until end (merged lists)) (whole_rises c.merges_lists.ensures end lists) (c.in_ok-merge.ensures.holds m start)
    (c.in_ok-merge.ensures.remaining m start ∙ from_on c.merges_ranges.ensures end _ lists _ parts) was)

pub returns-clause-done : goal.returns-clause-done
returns-clause-done g c =
    let m = g.F.Files.contents c.args.files.now in
    on_ok c.go_on.result _ _ c.go_on.ensures.done (λ more h is lists end start parts was.
    h is (entries_until end (merged lists)) (whole_rises c.merges_lists.ensures end lists) (c.in_ok-merge.ensures.holds m start)
    (c.in_ok-merge.ensures.remaining m start ∙ from_on c.merges_ranges.ensures end _ lists _ parts) was)

pub returns-clause-damaged : goal.returns-clause-damaged
returns-clause-damaged g c = λ err lists end all parts was start.
    let m = g.F.Files.contents c.args.files.now in
    c.go_on.ensures.damaged err (entries_until end (merged lists)) (whole_list end lists all)
    (c.in_ok-merge.ensures.remaining m start ∙ from_on c.merges_ranges.ensures end _ lists _ parts) was (c.in_ok-merge.ensures.holds m start)

pub returns-clause-large : goal.returns-clause-large
returns-clause-large g c = λ err lists end start parts was.
    let m = g.F.Files.contents c.args.files.now in
    c.go_on.ensures.large err (entries_until end (merged lists)) (whole_rises c.merges_lists.ensures end lists) (c.in_ok-merge.ensures.holds m start)
    (c.in_ok-merge.ensures.remaining m start ∙ from_on c.merges_ranges.ensures end _ lists _ parts) was
