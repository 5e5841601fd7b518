-- Comparisons of current entries by their keys.
use Rattle.std.specs.Prelude.{Bool, false, Option, Some, None}
use Rattle.std.specs.Ordering.{is_eq}
use Rattle.cell_key.specs.Keys.{byte_cmp}
use Rattle.cell_key.specs.Entries.{Entry}

-- whether both are entries with one key
abbrev pub ties : Option Entry → Option Entry → Bool
ties None b = false
ties (Some x) None = false
ties (Some x) (Some y) = is_eq (byte_cmp x.0 y.0)
