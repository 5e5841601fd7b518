-- The files are the same as before.
use Rattle.std.proofs.Common.{Option}
use Rattle.std.specs.List.{AllZip}
use Rattle.file_store.specs.Store.{Contents}
use Rattle.sorted_file.specs.File.{IsSameFile}
use Rattle.tablet.proofs.open_files.drop_each.Given as goal

abbrev pub invariant-loop-file : goal.invariant-loop-file
invariant-loop-file l = record {
  same : (told : Option Contents) → AllZip (IsSameFile told) l.initial.files l.files;
}
