use Rattle.std.proofs.Common.{◌≡◌, ◌<◌, ◌++◌, List}
use Rattle.std.specs.Prelude.{sum_by}
use Rattle.cell_key.specs.Entries.{Entry}
use Rattle.sorted_file.specs.Builder.{built, HasClosed, IsReady}
use Rattle.sorted_file.specs.PartialFiles.{entry_size}
use Rattle.sorted_file.specs.Passing.{PassesOver}
use Rattle.sorted_file.specs.Written.{only_written}
use Rattle.sorted_file.proofs.partial_file.pass_some.Given as goal

abbrev pub invariant-entries : goal.invariant-entries
invariant-entries g l = record {
  contents : g.F.Files.contents l.files ≡ g.F.Files.contents l.initial.files;
  quiet : g.F.Files.faults l.files ≡ g.F.Files.faults l.initial.files;
  named : g.F.Files.writes_to l.writing ≡ g.F.Files.writes_to l.initial.writing;
  ready : IsReady l.builder;
  closed : HasClosed g.F.Files.has l.writing l.builder;
  size : l.builder.opening.size ≡ l.initial.builder.opening.size;
  within : l.spent < l.fn.budget;
  told : (passed : List Entry) × PassesOver (g.S.Source.steps (g.F.Files.contents l.initial.files)) g.S.Source.lent l.initial.source passed l.source
      × (l.spent ≡ sum_by entry_size passed)
      × (built l.builder ≡ built l.initial.builder ++ only_written l.fn.keep_erasures passed)
      × (g.S.Source.holds (g.F.Files.contents l.initial.files) l.initial.source → g.S.Source.holds (g.F.Files.contents l.initial.files) l.source
      × (passed ++ g.S.Source.remaining (g.F.Files.contents l.initial.files) l.source ≡ g.S.Source.remaining (g.F.Files.contents l.initial.files) l.initial.source));
}

abbrev pub decreases-entries : goal.decreases-entries
decreases-entries g l = g.S.Source.left l.source
