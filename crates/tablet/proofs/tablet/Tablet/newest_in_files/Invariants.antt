use Rattle.std.proofs.Common.{◌≡◌, ◌≤◌}
use Rattle.cell_key.specs.Cells.{version}
use Rattle.tablet.specs.Views.{IsSameTablet}
use Rattle.tablet.proofs.Newer.{NoneAbove}
use Rattle.tablet.proofs.tablet.Tablet.newest_in_files.Given as goal

abbrev pub invariant-hidden : goal.invariant-hidden
invariant-hidden g l = record {
  same : g.F.Files.contents l.files ≡ g.F.Files.contents l.initial.files;
  quiet : g.F.Files.faults l.files ≡ g.F.Files.faults l.initial.files;
  key : l.key ≡ version l.row l.family l.fn.qualifier l.key.stamp;
  high : l.key.stamp ≤ l.hi;
  stays : IsSameTablet (g.F.Files.contents l.initial.files) l.initial.self l.self;
  told : NoneAbove (g.F.Files.contents l.initial.files) l.initial.self l.row l.family l.fn.qualifier l.lo l.hi l.key.stamp;
}

abbrev pub decreases-hidden : goal.decreases-hidden
decreases-hidden g l = l.key.stamp
