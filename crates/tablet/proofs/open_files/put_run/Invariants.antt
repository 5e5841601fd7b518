use Rattle.std.proofs.Common.{◌≡◌, ◌+◌, ◌++◌, take, drop, vec_len}
use Rattle.tablet.proofs.open_files.put_run.Given as goal

abbrev pub invariant-run : goal.invariant-run
invariant-run l = record {
  items : l.files.items ≡ take l.fn.at l.initial.files.items ++ drop (l.fn.at + l.counter) l.initial.files.items;
  len : vec_len l.files + l.counter ≡ vec_len l.initial.files;
}
