-- Counts of device faults.
use Rattle.std.specs.Prelude.{◌≡◌, ℕ, ◌+◌, ◌-◌, ◌≤◌, ◌^◌, Result, IsErrOf, min}
use Rattle.cell_key.specs.declared.refusals.Refusal.{Refusal}
use Rattle.cell_key.specs.declared.refusals.Refusal.TheVariants as refused

-- A count has increased. The greatest number of eight bytes stays, which counts as increased.
abbrev pub HasRisen : ℕ → ℕ → Type 0
HasRisen before now = min (before + 1) (2 ^ 64 - 1) ≤ now

-- A count never falls. The answer is a device's fault exactly if the count has increased.
pub record HasReason {T : Type 0} (before now : ℕ) (result : Result T Refusal) : Type 0 where
  pub later : before ≤ now
  pub device : IsErrOf result refused.Device → HasRisen before now
  pub told : ¬ IsErrOf result refused.Device → now ≡ before
