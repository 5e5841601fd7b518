-- How full the memtables of tablets are.
use Rattle.std.specs.Prelude.{◌≤◌, ◌||◌, ℕ, Bool, false, nat_le, List, [], ◌∷◌, Option, None, Some, length, max}
use Rattle.std.specs.List.{AllByRecursion, list_any}
use Rattle.memtable.specs.Edits.{bytes_of}
use Rattle.tablet.specs.Views.{memory_of}
use Rattle.tablet.specs.declared.tablet.Tablet.{Tablet}
use Rattle.row_atomic.specs.declared.fill.Fill.{Fill}
use Rattle.row_atomic.specs.declared.fill.FlushLimits.{FlushLimits}

-- the tablet's memtable, and all memtables, have at most these entries and bytes
pub record HasAtMost (most : Fill) (t : Tablet) : Type 0 where
  pub entries : length (memory_of t) ≤ most.entries
  pub bytes : bytes_of (memory_of t) ≤ most.bytes

abbrev pub HaveAtMost : Fill → List Tablet → Type 0
HaveAtMost most tablets = AllByRecursion (HasAtMost most) tablets

-- the most entries, and the most bytes, of any memtable
abbrev pub longest : List Tablet → ℕ
longest [] = 0
longest (t ∷ ts) = max (length (memory_of t)) (longest ts)

abbrev pub largest : List Tablet → ℕ
largest [] = 0
largest (t ∷ ts) = max (bytes_of (memory_of t)) (largest ts)

-- whether there is a limit of bytes and it is reached
abbrev pub has_bytes : Option ℕ → ℕ → Bool
has_bytes None bytes = false
has_bytes (Some most) bytes = nat_le most bytes

-- whether a memtable with this many entries and bytes is full
abbrev pub reaches : FlushLimits → ℕ → ℕ → Bool
reaches limits entries bytes = nat_le limits.entries entries || has_bytes limits.bytes bytes

-- whether a tablet's memtable is full
abbrev pub is_full : FlushLimits → Tablet → Bool
is_full limits t = reaches limits (length (memory_of t)) (bytes_of (memory_of t))

-- whether some tablet's memtable is full
abbrev pub is_any_full : FlushLimits → List Tablet → Bool
is_any_full limits tablets = list_any (is_full limits) tablets
