use Rattle.std.proofs.Common.{◌≡◌, ◌+◌, ◌≤◌, drop}
use Rattle.ownership.specs.Lists.{held_by}
use Rattle.ownership.proofs.holdings.count_of.Given as goal

-- those that were counted and those behind are all
abbrev pub invariant-loop-holding : goal.invariant-loop-holding
invariant-loop-holding l =
    record {
      counted : l.count + held_by l.client (drop l.holding-index l.list) ≡ held_by l.client l.list;
      bound : l.count ≤ l.holding-index;
    }
