-- The sizes before the index are summed up, and the small ones among them are known.
use Rattle.std.proofs.Common.{◌≡◌, ◌-◌, ◌^◌, length, map, take, min}
use Rattle.std.specs.Prelude.{sum}
use Rattle.sorted_file.specs.File.{count_of}
use Rattle.tablet.proofs.Levels.{IsUpTo}
use Rattle.tablet.proofs.merge_policy.count_of_small.Given as goal

abbrev pub invariant-loop-index : goal.invariant-loop-index
invariant-loop-index l = record {
  end : l.index-end ≡ length l.files;
  newer : l.newer ≡ min (sum (take l.index (map count_of l.files))) (2 ^ 64 - 1);
  counts : IsUpTo (map count_of l.files) l.index l.count;
}
