-- Faults of a log, and their causes.
use Rattle.std.specs.Prelude.{◌≡◌, ℕ, ◌≤◌, List, codes, Result, IsErrOf}
pub use Rattle.cell_key.specs.Faults.{HasRisen}
use Rattle.commit_log.specs.declared.faults.LogFault.{LogFault}
use Rattle.commit_log.specs.declared.faults.LogFault.TheVariants.{Device, Memory, Damaged, Refused}

-- The count of a device's faults never falls. It has risen if `Device` was answered, and is unchanged otherwise.
pub record HasFaultCause {T : Type 0} (before now : ℕ) (result : Result T LogFault) : Type 0 where
  pub later : before ≤ now
  pub device : IsErrOf result Device → HasRisen before now
  pub told : ¬ IsErrOf result Device → now ≡ before

abbrev pub fault_text : LogFault → List ℕ
fault_text Device = codes "device failed"
fault_text Memory = codes "no memory"
fault_text Damaged = codes "no log"
fault_text Refused = codes "record refused"
