-- The files that were passed are measured.
use Rattle.std.proofs.Common.{◌≡◌, ◌++◌, ℕ, List, length, IfSome}
use Rattle.row_atomic.specs.Roots.{AreMeasured}
use Rattle.row_atomic.proofs.cluster.checkpoint.lengths_of.Given as goal

abbrev pub invariant-names : goal.invariant-names
invariant-names g l = record {
  same : g.F.Files.contents l.files ≡ g.F.Files.contents l.initial.files;
  quiet : g.F.Files.faults l.files ≡ g.F.Files.faults l.initial.files;
  front : List ℕ;
  parts : front ++ l.rest ≡ l.names;
  count : length l.lengths.items ≡ length front;
  measured : IfSome (g.F.Files.contents l.initial.files) (λ m. AreMeasured m front l.lengths.items);
}

abbrev pub decreases-names : goal.decreases-names
decreases-names g l = length l.rest
