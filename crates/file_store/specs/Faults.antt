-- The text of a fault.
use Rattle.std.specs.Prelude.{ℕ, List, codes}
use Rattle.file_store.specs.declared.files.FileFault.{FileFault}
use Rattle.file_store.specs.declared.files.FileFault.TheVariants.{Device, Memory}

abbrev pub fault_text : FileFault → List ℕ
fault_text Device = codes "device failed"
fault_text Memory = codes "no memory"
