-- The entries of a file from an index on.
use Rattle.std.proofs.Common.{List, Option, Some, None}
use Rattle.cell_key.specs.Entries.{Entry, IsEntryList}
use Rattle.cell_key.proofs.TextPlaces.{second}
use Rattle.sorted_file.specs.Source.{pending}

pub rest_list : (o : Option Entry) (es : List Entry) → IsEntryList (pending o es) → IsEntryList es
rest_list None es h = h
rest_list (Some e) es h = record { rising = second _ _ h.rising; each = h.each.1 }
