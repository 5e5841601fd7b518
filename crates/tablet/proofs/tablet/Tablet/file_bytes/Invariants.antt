use Rattle.std.proofs.Common.{◌≡◌, ◌-◌, ◌^◌, take, min}
use Rattle.std.specs.Prelude.{sum_by}
use Rattle.sorted_file.specs.File.{bytes_of}
use Rattle.tablet.proofs.tablet.Tablet.file_bytes.Given as goal

abbrev pub invariant-loop-file : goal.invariant-loop-file
invariant-loop-file l = record {
  bytes : l.bytes ≡ min (sum_by bytes_of (take l.file-index l.self.files)) (2 ^ 64 - 1);
}
