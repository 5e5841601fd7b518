-- The state of an oracle, and the ranges from which it serves.
use Rattle.std.specs.Prelude.{◌≡◌, ℕ, ◌+◌, ◌-◌, ◌^◌, min, Option}
use Rattle.oracle.specs.Marks.{MayHold}
pub use Rattle.rows.specs.Sources.{IsDrawRefusal}

-- the mark store, the last stamp, and the end of the range from which stamps are served
pub record OracleState (M : Type 0) : Type 0 where
  pub marks : M
  pub last : ℕ
  pub range_end : ℕ

-- a thousand more, up to the greatest stamp
abbrev pub next_range_end : ℕ → ℕ
next_range_end range_end = min (range_end + 1000) (2 ^ 63 - 1)

-- the last stamp and the range are unchanged, whatever the mark store does
pub record SameNumbers {M : Type 0} (old new : OracleState M) : Type 0 where
  pub last : new.last ≡ old.last
  pub range_end : new.range_end ≡ old.range_end

-- A refused draw leaves the last stamp and the range unchanged. The mark is unchanged too, or it is the end of the next
-- range.
pub record LeavesNumbers {M : Type 0} (mark_of : M → Option ℕ) (old new : OracleState M)
    : Type 0 where
  pub numbers : SameNumbers old new
  pub mark : MayHold (next_range_end old.range_end) (mark_of old.marks) (mark_of new.marks)
