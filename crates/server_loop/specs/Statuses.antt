-- The program's exit statuses, and its lines on standard error.
use Rattle.std.specs.Prelude.{ℕ, List, [], Result, Ok, Err, codes}
use Rattle.cell_key.specs.declared.refusals.Refusal.{Refusal}
use Rattle.cell_key.specs.declared.refusals.Refusal.TheVariants.{Device, Damaged}
use Rattle.server_loop.specs.declared.statuses.End.{End}
use Rattle.server_loop.specs.declared.statuses.End.TheVariants.{Clean, Truncated, TooLarge, ReadsUsedUp}
use Rattle.server_loop.specs.declared.statuses.ServeFault.{ServeFault}
use Rattle.server_loop.specs.declared.statuses.ServeFault.TheVariants.{Read, Write, NoMemory, Log}

abbrev pub end_status_of : Result End ServeFault → ℕ
end_status_of (Ok Clean) = 0
end_status_of (Ok Truncated) = 2
end_status_of (Ok TooLarge) = 3
end_status_of (Ok ReadsUsedUp) = 8
end_status_of (Err Read) = 6
end_status_of (Err Write) = 6
end_status_of (Err NoMemory) = 7
end_status_of (Err Log) = 4

abbrev pub end_line_of : Result End ServeFault → List ℕ
end_line_of (Ok Clean) = []
end_line_of (Ok Truncated) = codes "tabletd: input ends inside a frame"
end_line_of (Ok TooLarge) = codes "tabletd: frame too large"
end_line_of (Ok ReadsUsedUp) = codes "tabletd: reads used up"
end_line_of (Err Read) = codes "tabletd: read or write failed"
end_line_of (Err Write) = codes "tabletd: read or write failed"
end_line_of (Err NoMemory) = codes "tabletd: no memory"
end_line_of (Err Log) = codes "tabletd: log failed"

abbrev pub open_status_of : Refusal → ℕ
open_status_of Device = 4
open_status_of Damaged = 5
open_status_of _ = 7

abbrev pub open_line_of : Refusal → List ℕ
open_line_of Device = codes "tabletd: device failed at open"
open_line_of Damaged = codes "tabletd: damaged at open"
open_line_of _ = codes "tabletd: no memory"
