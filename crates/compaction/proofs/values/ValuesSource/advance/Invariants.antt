use Rattle.std.proofs.Common.{◌≡◌, ◌≤◌}
use Rattle.compaction.specs.Writing.{only_written, BreaksOn}
use Rattle.compaction.proofs.Ending.{GoesOnFrom}
use Rattle.compaction.proofs.values.ValuesSource.advance.Given as goal

abbrev pub invariant-loop-self : goal.invariant-loop-self
invariant-loop-self g l = record {
  same : g.F.Files.contents l.files ≡ g.F.Files.contents l.initial.files;
  quiet : g.F.Files.faults l.files ≡ g.F.Files.faults l.initial.files;
  keep : l.self.keep_erasures ≡ l.initial.self.keep_erasures;
  lower : g.S.Source.left l.self.source ≤ g.S.Source.left l.initial.self.source;
  steps : GoesOnFrom (g.S.Source.steps (g.F.Files.contents l.initial.files)) g.S.Source.lent l.initial.self.keep_erasures l.self.source l.initial.self.source;
  breaks : BreaksOn l.initial.self.keep_erasures (g.S.Source.steps (g.F.Files.contents l.initial.files)) g.S.Source.lent (g.S.Source.breaks (g.F.Files.contents l.initial.files)) l.self.source
      → BreaksOn l.initial.self.keep_erasures (g.S.Source.steps (g.F.Files.contents l.initial.files)) g.S.Source.lent (g.S.Source.breaks (g.F.Files.contents l.initial.files)) l.initial.self.source;
  told : g.S.Source.holds (g.F.Files.contents l.initial.files) l.initial.self.source → g.S.Source.holds (g.F.Files.contents l.initial.files) l.self.source
      × (only_written l.self.keep_erasures (g.S.Source.remaining (g.F.Files.contents l.initial.files) l.self.source) ≡ only_written l.initial.self.keep_erasures (g.S.Source.remaining (g.F.Files.contents l.initial.files) l.initial.self.source));
}

abbrev pub decreases-loop-self : goal.decreases-loop-self
decreases-loop-self g l = g.S.Source.left l.self.source
