use Rattle.std.proofs.Common.{ℕ, ◌≡◌, ◌<◌, length, get_or}
use Rattle.compaction.proofs.merge.list_places.Given as goal

abbrev pub invariant-loop-place : goal.invariant-loop-place
invariant-loop-place l = record {
  size : length l.order.items ≡ l.place;
  each : (k d : ℕ) → k < l.place → get_or l.order.items k d ≡ k;
}
