-- The oracle's mark beside a log.
use Rattle.std.specs.Prelude.{◌≡◌, ◌≤◌, ◌<◌, ◌⊎◌, ◌+◌, ◌-◌, ◌*◌, ◌^◌, ℕ, List, Option, IfSome, min}
use Rattle.commit_log.specs.Records.{IsGreatest, ReachesStamp}

-- the mark's store, a number up to which it covers all stamps, and the greatest stamp that it or a record
-- of the log covers
pub record MarkView (M : Type 0) : Type 0 where
  pub marks : M
  pub stored : ℕ
  pub covered : ℕ

-- the number stored, or the stamp of one of these records, is at least the stamp
abbrev pub CoversStamp : {M : Type 0} → MarkView M → List (List ℕ) → ℕ → Type 0
CoversStamp mark records top = (top ≤ mark.stored) ⊎ ReachesStamp records top

-- A mark that covers a stamp and those that are covered: the greatest covered one if that is enough, else
-- the end of the stamp's range, in ranges of a thousand after the covered stamps.
pub record IsMarkOver (covered last mark : ℕ) : Type 0 where
  pub over : last ≤ mark
  pub later : covered ≤ mark
  pub ranges : ℕ
  pub end : mark ≡ min (covered + ranges * 1000) (2 ^ 63 - 1)
  pub first : (mark ≡ covered) ⊎ (mark < last + 1000)

-- This was made of a mark, if that is known, and of a log of these records.
pub record IsMarkOf {M : Type 0} (told : Option ℕ) (records : List (List ℕ)) (mark : MarkView M)
    : Type 0 where
  pub stored : IfSome told (λ number. mark.stored ≡ number)
  pub covered : IsGreatest mark.stored records mark.covered
