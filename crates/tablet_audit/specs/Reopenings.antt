-- The judgement of a reopening.
use Rattle.std.specs.Prelude.{◌≡◌, ℕ, Bool, true, false, Option, Some}
use Rattle.si_model.specs.Machine.{State}
use Rattle.audit.specs.Audits.{KeepsReached}
use Rattle.audit.specs.declared.audit.Audit.{Audit}
use Rattle.tablet_audit.specs.Judges.{Follows}
use Rattle.tablet_audit.specs.Runs.{OpensAgain, OpensOver}
use Rattle.tablet_audit.specs.Verdicts.{HasMark, IsBadMark}
use Rattle.tablet_audit.specs.declared.judges.Judge.{Judge}
use Rattle.tablet_audit.specs.declared.reopenings.Reopening.{Reopening}
use Rattle.tablet_audit.specs.declared.sharing.Sharing.{Sharing}

-- True: the audit continues from an opening over this mark, if there is one. False: the mark is bad.
abbrev pub JudgesOpening : Option ℕ → Audit → Audit → Bool → Type 0
JudgesOpening mark old new true = (st : State) → KeepsReached old st
    → (next : State) × OpensOver mark st next × KeepsReached new next
JudgesOpening mark old new false =
    (bad : ℕ) × (mark ≡ Some bad) × ((st : State) → KeepsReached old st → IsBadMark bad st)

-- True: the judge continues from the reopening, if there is one. False: its mark is bad.
abbrev pub JudgesReopening : Option Reopening → Judge → Judge → Bool → Type 0
JudgesReopening reopening old new true =
    (sharing : Sharing) → Follows sharing old new (OpensAgain reopening)
JudgesReopening reopening old new false = (mark : ℕ) × HasMark reopening mark
    × ((st : State) → KeepsReached old.audit st → IsBadMark mark st)
