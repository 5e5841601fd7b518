use Rattle.std.proofs.Common.{◌≡◌, ◌+◌, drop, vec_len}
use Rattle.tablet.proofs.open_files.replace_newest.Given as goal

abbrev pub invariant-newest : goal.invariant-newest
invariant-newest l = record {
  items : l.files.items ≡ drop l.counter l.initial.files.items;
  len : vec_len l.files + l.counter ≡ vec_len l.initial.files;
}
