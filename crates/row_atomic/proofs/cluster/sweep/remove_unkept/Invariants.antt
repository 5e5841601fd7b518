-- The remaining names give the same result and count as all names. Only files that need not stay are removed.
use Rattle.std.proofs.Common.{◌≡◌, ◌≤◌, ◌+◌, length, option_map}
use Rattle.std.specs.Vec.Iter.{into_iter_items}
use Rattle.row_atomic.specs.Sweeps.{MayLackUnkept, is_kept_beside, unkept, without_files}
use Rattle.row_atomic.proofs.cluster.sweep.remove_unkept.Given as goal

abbrev pub invariant-loop-name : goal.invariant-loop-name
invariant-loop-name g l = record {
  removed : without_files (unkept (is_kept_beside (option_map (λ places. places.now) l.fn.root) l.table) (into_iter_items l.name-iterator)) (g.F.Files.contents l.files) ≡ without_files (unkept (is_kept_beside (option_map (λ places. places.now) l.fn.root) l.table) l.fn.names.items) (g.F.Files.contents l.initial.files);
  count : l.count + length (unkept (is_kept_beside (option_map (λ places. places.now) l.fn.root) l.table) (into_iter_items l.name-iterator)) ≡ length (unkept (is_kept_beside (option_map (λ places. places.now) l.fn.root) l.table) l.fn.names.items);
  room : l.count + length (into_iter_items l.name-iterator) ≤ length l.fn.names.items;
  lacks : MayLackUnkept (is_kept_beside (option_map (λ places. places.now) l.fn.root) l.table) (g.F.Files.contents l.initial.files) (g.F.Files.contents l.files);
  quiet : g.F.Files.faults l.files ≡ g.F.Files.faults l.initial.files;
}
