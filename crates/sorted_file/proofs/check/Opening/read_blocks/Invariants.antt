use Rattle.std.proofs.Common.{◌≡◌, List, ℕ, length}
use Rattle.sorted_file.specs.Check.{IsOpening, IsReading}
use Rattle.sorted_file.proofs.check.Opening.read_blocks.Given as goal

abbrev pub invariant-blocks-2 : goal.invariant-blocks-2
invariant-blocks-2 g l = record {
  contents : g.F.Files.contents l.files ≡ g.F.Files.contents l.initial.files;
  quiet : g.F.Files.faults l.files ≡ g.F.Files.faults l.initial.files;
  opening : IsOpening l.self;
  read : (image end : List ℕ) → IsReading (g.F.Files.contents l.initial.files) l.initial.self image l.index end l.index → IsReading (g.F.Files.contents l.initial.files) l.self image l.index end l.rest;
}

abbrev pub decreases-blocks-2 : goal.decreases-blocks-2
decreases-blocks-2 g l = length l.rest
