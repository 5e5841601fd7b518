use Rattle.std.proofs.Common.{map}
use Rattle.sorted_file.specs.File.{listed}
use Rattle.tablet.specs.Views.{files_of, memory_of, range_of}
use Rattle.tablet.proofs.Held.{held_lists}
use Rattle.tablet.proofs.KeptCells.{edits_list, edits_shown}
use Rattle.tablet.proofs.laws.edits_show.Goals as goal

pub returns : goal.returns
returns c = λ m t edits h limited keys inside. (
  record { memory = edits_list (memory_of t) edits h.memory keys limited; files = h.files },
  edits_shown (range_of t) (memory_of t) (map (listed m) (files_of t)) edits (held_lists m t h) keys limited inside,
)
