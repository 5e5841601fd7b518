use Rattle.std.proofs.Common.{◌≡◌}
use Rattle.std.specs.Prelude.{None}
use Rattle.compaction.specs.Merging.{cost, one, StepsTo}
use Rattle.compaction.proofs.Turns.{Progress}
use Rattle.compaction.proofs.merge.step_all.Given as goal

abbrev pub invariant-loop-source : goal.invariant-loop-source
invariant-loop-source g l =
    Progress g.F.Files.contents g.F.Files.faults (λ s. cost (g.S.Source.left s) (g.S.Source.lent s)) (λ s. one (g.S.Source.lent s))
    (λ s. g.S.Source.holds (g.F.Files.contents l.initial.files) s × (g.S.Source.lent s ≡ None))
    (StepsTo g.S.Source.lent (g.S.Source.remaining (g.F.Files.contents l.initial.files)) (g.S.Source.holds (g.F.Files.contents l.initial.files)) None)
    (g.S.Source.steps (g.F.Files.contents l.initial.files))
    l.initial.files l.files l.initial.sources l.sources l.source-index
