use Rattle.std.proofs.Common.{◌↔◌, map}
use Rattle.std.specs.BTreeMap.Range.{entries_between}
use Rattle.std.specs.List.{AllByRecursion}
use Rattle.si_model.specs.Reads.{cell_of}
use Rattle.si_model.specs.Replies.{range_of, reach_of}
use Rattle.audit.specs.Audits.{commit_of}
use Rattle.audit.specs.AuditScans.{IsSoUnnamed}
use Rattle.audit.specs.Histories.{name_cmp}
use Rattle.audit.proofs.audit.scans.misses_none_between.Given as goal

-- the cells so far are right
abbrev pub invariant-loop-name : goal.invariant-loop-name
invariant-loop-name l =
    AllByRecursion (λ entry. IsSoUnnamed (map commit_of l.commits) l.start (range_of l.range) (reach_of l.reach) l.items (cell_of entry.0.0 entry.0.1)) l.name-iterator
    ↔ AllByRecursion (λ entry. IsSoUnnamed (map commit_of l.commits) l.start (range_of l.range) (reach_of l.reach) l.items (cell_of entry.0.0 entry.0.1)) (entries_between name_cmp l.fn.ends.0 l.fn.ends.1 l.histories.entries)
