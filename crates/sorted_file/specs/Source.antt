-- The entries and the answers of sources.
use Rattle.std.specs.Prelude.{◌≡◌, ◌⊎◌, ℕ, List, ◌++◌, Option, None, IsSome, Result, IfErr, IsErrOf}
use Rattle.std.specs.Option.{option_to_list}
use Rattle.cell_key.specs.Entries.{Entry, IsEntryList}
use Rattle.cell_key.specs.Faults.{HasReason}
use Rattle.file_store.specs.Store.{Contents}
use Rattle.cell_key.specs.declared.refusals.Refusal.{Refusal}
use Rattle.cell_key.specs.declared.refusals.Refusal.TheVariants as refused
use Rattle.file_store.specs.declared.files.FileFault.{FileFault}
use Rattle.file_store.specs.declared.files.FileFault.TheVariants.{Device, Memory}

-- the current entry, if any, and the remaining ones
abbrev pub pending : Option Entry → List Entry → List Entry
pending lent remaining = option_to_list lent ++ remaining

-- the remaining entries of an entry list are an entry list
abbrev pub RestIsList : Type 0
RestIsList =
    (lent : Option Entry) (remaining : List Entry) → IsEntryList (pending lent remaining)
    → IsEntryList remaining

-- the refusals of a call of a file system: a device failed, or there is no memory
abbrev pub IsFaultRefusal : Refusal → Type 0
IsFaultRefusal refusal = (refusal ≡ refused.Device) ⊎ (refusal ≡ refused.NoMemory)

-- the refusals of reading files: a device failed, there is no memory, a file is damaged
abbrev pub IsReadRefusal : Refusal → Type 0
IsReadRefusal refused.Device = Unit {0}
IsReadRefusal refused.NoMemory = Unit {0}
IsReadRefusal refused.Damaged = Unit {0}
IsReadRefusal _ = ⊥

-- A read of files: their contents are unchanged, and each refusal has its reason.
pub record ReadsFiles {F T : Type 0} (contents : F → Option Contents) (faults : F → ℕ) (old new : F)
    (result : Result T Refusal) : Type 0 where
  pub refusal : IfErr result IsReadRefusal
  pub same : contents new ≡ contents old
  pub reason : HasReason (faults old) (faults new) result

-- the refusals of writing a file: those of reading, and a file that is too large
abbrev pub IsWriteRefusal : Refusal → Type 0
IsWriteRefusal refused.FileTooLarge = Unit {0}
IsWriteRefusal refusal = IsReadRefusal refusal

-- If a file would be too large, or what is written is damaged, all files stay as they were.
pub record StaysIfUnfit {T : Type 0} (old new : Option Contents) (result : Result T Refusal)
    : Type 0 where
  pub large : IsErrOf result refused.FileTooLarge → new ≡ old
  pub damaged : IsErrOf result refused.Damaged → new ≡ old

abbrev pub fault_refusal : FileFault → Refusal
fault_refusal Device = refused.Device
fault_refusal Memory = refused.NoMemory

-- step by step, each but the last to an entry, a source comes to its end
pub data ComesToEnd {S : Type 0} (steps : S → S → Type 0) (lent : S → Option Entry) : S → Type 0 where
  ends : {s t : S} → steps s t → lent t ≡ None → ComesToEnd steps lent s
  goes_on : {s t : S} → steps s t → IsSome (lent t) → ComesToEnd steps lent t → ComesToEnd steps lent s
