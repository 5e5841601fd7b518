use Rattle.std.proofs.Common.{◌≡◌, map, take}
use Rattle.sorted_file.specs.File.{name_of}
use Rattle.tablet.proofs.run_merge.names_of.Given as goal

abbrev pub invariant-loop-file : goal.invariant-loop-file
invariant-loop-file l = l.names.items ≡ map name_of (take l.file-index l.fn.files)
