-- A mark store with one failing call: which call it is, and its effects.
use Rattle.std.specs.Prelude.{◌≡◌, ◌==◌, ℕ, ◌+◌, ◌-◌, ◌^◌, min, Option, Some, None, Result, IsErr, OnErr, Bool, true, false, if◌then◌else◌}
use Rattle.cell_key.specs.Faults.{HasRisen}
use Rattle.oracle.specs.Marks.{MayHold, mark_after}
use Rattle.oracle.specs.declared.fail.Fail.{Fail}
use Rattle.oracle.specs.declared.fail.Fail.TheVariants.{Before, Half, After}
use Rattle.oracle.specs.declared.fail.Counter.{Counter}
use Rattle.oracle.specs.declared.marks.MarkFault.{MarkFault}

-- one more, up to 2^64 - 1
abbrev pub one_more : ℕ → ℕ
one_more n = min (n + 1) (2 ^ 64 - 1)

-- the sum of two counts of faults, up to 2^64 - 1
abbrev pub together : ℕ → ℕ → ℕ
together m n = min (m + n) (2 ^ 64 - 1)

-- how the next call fails, if it is the failing one
abbrev pub next_fail : Counter → Option Fail
next_fail c = if c.calls + 1 == c.at then Some c.how else None

-- the count of faults after a call that failed in this way, if it did
abbrev pub faults_after : Option Fail → ℕ → ℕ
faults_after None faults = faults
faults_after (Some _) faults = one_more faults

-- the counts after one more call
abbrev pub counted : Counter → Counter
counted c = record c { calls = one_more c.calls; faults = faults_after (next_fail c) c.faults }

-- The failing call answers a fault. Any other fault comes from the inner store.
abbrev pub IsAnswer : {T : Type 0} → Option Fail → ℕ → ℕ → Result T MarkFault → Type 0
IsAnswer None before now result = OnErr result (HasRisen before now)
IsAnswer (Some _) before now result = IsErr result

-- the inner mark after a `store` of it, by whether that failed too
abbrev pub Stores : ℕ → Bool → Option ℕ → Option ℕ → Type 0
Stores number false old new = new ≡ mark_after number old
Stores number true old new = MayHold number old new

module _ {M : Type 0} (mark : M → Option ℕ) where
  -- The inner store after a `store` that fails in this way: unchanged, or the number is stored.
  abbrev pub StoreFails : Fail → ℕ → Bool → M → M → Type 0
  StoreFails Before number failed old new = new ≡ old
  StoreFails Half number failed old new = new ≡ old
  StoreFails After number failed old new = Stores number failed (mark old) (mark new)

  -- The inner store after a `load` that fails in this way.
  abbrev pub LoadFails : Fail → M → M → Type 0
  LoadFails Before old new = new ≡ old
  LoadFails Half old new = new ≡ old
  LoadFails After old new = mark new ≡ mark old
