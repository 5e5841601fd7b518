use Rattle.std.proofs.Common.{◌≡◌, ◌≤◌, ◌+◌, ◌++◌, map, take, length, vec_len, vec_capacity}
use Rattle.sorted_file.specs.File.{name_of}
use Rattle.tablet.proofs.tablet.Tablet.push_names.Given as goal

abbrev pub invariant-loop-file : goal.invariant-loop-file
invariant-loop-file l = record {
  names : l.out.items ≡ l.initial.out.items ++ map name_of (take l.file-index l.self.files);
  count : vec_len l.out ≡ vec_len l.initial.out + l.file-index;
  room : vec_len l.initial.out + length l.self.files ≤ vec_capacity l.out;
}
