use Rattle.std.proofs.Common.{◌≡◌, ◌++◌}
use Rattle.sorted_file.specs.Builder.{built, HasClosed, IsReady}
use Rattle.sorted_file.specs.Passing.{PassesOver}
use Rattle.sorted_file.proofs.writer.build.Given as goal

abbrev pub invariant-entries : goal.invariant-entries
invariant-entries g l = record {
  contents : g.F.Files.contents l.files ≡ g.F.Files.contents l.initial.files;
  quiet : g.F.Files.faults l.files ≡ g.F.Files.faults l.initial.files;
  named : g.F.Files.writes_to l.writing ≡ g.F.Files.writes_to l.initial.writing;
  ready : IsReady l.builder;
  closed : HasClosed g.F.Files.has l.writing l.builder;
  size : l.builder.opening.size ≡ l.fn.limit;
  passed : PassesOver (g.S.Source.steps (g.F.Files.contents l.initial.files)) g.S.Source.lent l.initial.source (built l.builder) l.source;
  told : g.S.Source.holds (g.F.Files.contents l.initial.files) l.initial.source → g.S.Source.holds (g.F.Files.contents l.initial.files) l.source
      × (built l.builder ++ g.S.Source.remaining (g.F.Files.contents l.initial.files) l.source ≡ g.S.Source.remaining (g.F.Files.contents l.initial.files) l.initial.source);
}

abbrev pub decreases-entries : goal.decreases-entries
decreases-entries g l = g.S.Source.left l.source
