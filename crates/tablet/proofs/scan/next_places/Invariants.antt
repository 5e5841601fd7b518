-- so far each place is next after the one before it, and the entries after the last one are still left
use Rattle.std.proofs.Common.{◌≡◌, ◌≤◌, ◌-◌, length, None}
use Rattle.cell_key.specs.Places.{AreNext, last_or}
use Rattle.tablet.specs.Reads.{HasLeft, IsNextIn, past_place}
use Rattle.tablet.proofs.scan.next_places.Given as goal

abbrev pub invariant-wanted : goal.invariant-wanted
invariant-wanted g l = record {
  same : g.F.Files.contents l.store ≡ g.F.Files.contents l.initial.store;
  quiet : g.F.Files.faults l.store ≡ g.F.Files.faults l.initial.store;
  few : length l.found.items ≤ l.most;
  told : g.S.Source.holds (g.F.Files.contents l.initial.store) l.initial.source → g.S.Source.holds (g.F.Files.contents l.initial.store) l.source
      × AreNext (IsNextIn (g.S.Source.remaining (g.F.Files.contents l.initial.store) l.initial.source)) None (length l.found.items) l.found.items
      × HasLeft (past_place (last_or None l.found.items)) (g.S.Source.remaining (g.F.Files.contents l.initial.store) l.initial.source) (g.S.Source.remaining (g.F.Files.contents l.initial.store) l.source);
}

abbrev pub decreases-wanted : goal.decreases-wanted
decreases-wanted g l = l.most - length l.found.items
