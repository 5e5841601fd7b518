use Rattle.std.proofs.Common.{◌≡◌}
use Rattle.compaction.specs.Merging.{Advances, cost}
use Rattle.compaction.proofs.Moves.{Moving}
use Rattle.compaction.proofs.merge.advance_each.Given as goal

abbrev pub invariant-loop-place : goal.invariant-loop-place
invariant-loop-place g l = record {
  same : g.F.Files.contents l.files ≡ g.F.Files.contents l.initial.files;
  quiet : g.F.Files.faults l.files ≡ g.F.Files.faults l.initial.files;
  moving : Moving (λ s. cost (g.S.Source.left s) (g.S.Source.lent s)) g.S.Source.lent
      (Advances (g.S.Source.steps (g.F.Files.contents l.initial.files)) g.S.Source.lent (g.S.Source.remaining (g.F.Files.contents l.initial.files)) (g.S.Source.holds (g.F.Files.contents l.initial.files)))
      l.places l.initial.sources l.sources l.place-index;
}
