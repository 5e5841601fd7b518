-- Names of the compactions for the crates above.
use Rattle.std.specs.Prelude.{ℕ}
use Rattle.tablet.specs.declared.compactions.Compaction.{Compaction}
use Rattle.tablet.specs.declared.compactions.Compaction.TheVariants.{Minor, Merge, Major}

abbrev pub minor : Compaction
minor = Minor

abbrev pub merging : ℕ → Compaction
merging count = Merge count

abbrev pub major : Compaction
major = Major
