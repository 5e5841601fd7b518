-- The range of a scan by its names, and when they are refused.
use Rattle.std.specs.Prelude.{⊤}
use Rattle.cell_key.specs.declared.refusals.Refusal.{Refusal}
use Rattle.cell_key.specs.declared.refusals.Refusal.TheVariants.{BadRow, BadColumn, NoMemory}
use Rattle.si_model.specs.Machine as machine
use Rattle.si_model.specs.Scans.{HasFamilies, HasRows}
use Rattle.txn_client.specs.declared.range.Range.{Range}

abbrev pub range_named : Range → machine.Range
range_named range = record { after = range.after; end = range.end; family = range.family }

-- rows are checked first
abbrev pub IsRangeRefusal : machine.Range → Refusal → Type 0
IsRangeRefusal range BadRow = ¬ HasRows range
IsRangeRefusal range BadColumn = HasRows range × ¬ HasFamilies range
IsRangeRefusal range NoMemory = ⊤
IsRangeRefusal range _ = ⊥
