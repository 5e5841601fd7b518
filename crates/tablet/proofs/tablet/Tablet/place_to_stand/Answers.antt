use Rattle.std.proofs.Common.{◌≡◌, ◌≤◌, ◌+◌, ℕ, length, arith}
use Rattle.tablet.specs.RunMerges.{sources_of}
use Rattle.tablet.specs.Views.{files_of}
use Rattle.tablet.proofs.RunSteps.{run_within}
use Rattle.tablet.proofs.tablet.Tablet.place_to_stand.Goals as goal

pub returns-then-saturating_add-len : goal.returns-then-saturating_add-len
returns-then-saturating_add-len g c = record {
  run = c.in-Some.ensures;
  some = omega (arith, c.if-count-lt1.false, c.len-count.ensures, c.args.merge.now.names.ok.0);
  last = λ dropped.
      omega (arith, run_within (files_of c.args.self.now) (sources_of c.args.merge.now) c.in-Some.at c.in-Some.ensures, c.len-count.ensures, c.len.ensures, c.args.merge.now.names.ok.0, c.saturating_add.ensures, c.if-saturating_add-len.true);
}
