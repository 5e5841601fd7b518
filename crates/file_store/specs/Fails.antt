-- Files with one failing call: which call fails, and its effect.
use Rattle.std.specs.Prelude.{◌≡◌, ◌==◌, ℕ, ◌+◌, ◌-◌, ◌^◌, ◌/◌, min, List, length, take, Option, Some, None, Result, Err, if◌then◌else◌}
use Rattle.file_store.specs.Store.{Contents, HasFaultCause, KeepsOthers, MayLack, with_file, without_file}
use Rattle.file_store.specs.declared.files.FileFault.{FileFault}
use Rattle.file_store.specs.declared.files.FileFault.TheVariants.{Device}
use Rattle.file_store.specs.declared.fail.Fail.{Fail}
use Rattle.file_store.specs.declared.fail.Fail.TheVariants.{Before, Half, After}
use Rattle.file_store.specs.declared.fail.Counter.{Counter}

-- the next number, up to the greatest
abbrev pub one_more : ℕ → ℕ
one_more n = min (n + 1) (2 ^ 64 - 1)

-- the sum of two counts of faults, up to the greatest number
abbrev pub together : ℕ → ℕ → ℕ
together m n = min (m + n) (2 ^ 64 - 1)

-- how the next call fails, if it is the failing one
abbrev pub next_fail : Counter → Option Fail
next_fail c = if c.calls + 1 == c.at then Some c.how else None

-- the count of faults after a call that may have failed in this way
abbrev pub faults_after : Option Fail → ℕ → ℕ
faults_after None faults = faults
faults_after (Some _) faults = one_more faults

-- the counts after one more call
abbrev pub counted : Counter → Counter
counted c = record c { calls = one_more c.calls; faults = faults_after (next_fail c) c.faults }

-- The failing call answers a device's fault. The fault of any other call is the inner files'.
abbrev pub IsAnswer : {T : Type 0} → Option Fail → ℕ → ℕ → Result T FileFault → Type 0
IsAnswer None before now result = HasFaultCause before now result
IsAnswer (Some _) before now result = result ≡ Err Device

-- the effect of a put on the inner files, given the fault that they answered
abbrev pub Puts : ℕ → List ℕ → Option FileFault → Option Contents → Option Contents → Type 0
Puts name bytes None old new = new ≡ with_file name bytes old
Puts name bytes (Some _) old new = KeepsOthers name old new

-- the effect of a remove, likewise
abbrev pub Removes : ℕ → Option FileFault → Option Contents → Option Contents → Type 0
Removes name None old new = new ≡ without_file name old
Removes name (Some _) old new = MayLack name old new

module _ {F : Type 0} (contents : F → Option Contents) where
  -- The effect of a failing put on the inner files: nothing is done, or the first half of the bytes is put, or all are.
  abbrev pub PutFails : Fail → ℕ → List ℕ → Option FileFault → F → F → Type 0
  PutFails Before name bytes fault old new = new ≡ old
  PutFails Half name bytes fault old new = Puts name (take (length bytes / 2) bytes) fault (contents old) (contents new)
  PutFails After name bytes fault old new = Puts name bytes fault (contents old) (contents new)

  -- The effect of a failing finish of a file that has some bytes: it is given up, or all are put.
  abbrev pub FinishFails : (List ℕ → Type 0) → Fail → ℕ → Option FileFault → F → F → Type 0
  FinishFails has Before name fault old new = contents new ≡ contents old
  FinishFails has Half name fault old new = contents new ≡ contents old
  FinishFails has After name fault old new = (image : List ℕ) → has image
      → Puts name image fault (contents old) (contents new)

  -- The effect of a failing remove: nothing is done, or the file is removed.
  abbrev pub RemoveFails : Fail → ℕ → Option FileFault → F → F → Type 0
  RemoveFails Before name fault old new = new ≡ old
  RemoveFails Half name fault old new = new ≡ old
  RemoveFails After name fault old new = Removes name fault (contents old) (contents new)

  -- The effect of a failing read: it isn't done, or it is done.
  abbrev pub ReadFails : Fail → F → F → Type 0
  ReadFails Before old new = new ≡ old
  ReadFails Half old new = new ≡ old
  ReadFails After old new = contents new ≡ contents old
