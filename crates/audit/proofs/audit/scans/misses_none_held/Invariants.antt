use Rattle.std.proofs.Common.{◌↔◌}
use Rattle.std.specs.BTreeMap.Range.{entries_between}
use Rattle.std.specs.List.{AllByRecursion}
use Rattle.si_model.specs.Replies.{range_of, reach_of}
use Rattle.audit.specs.AuditScans.{IsMissedMark}
use Rattle.audit.specs.Histories.{name_cmp}
use Rattle.audit.specs.Marks.{mark_of}
use Rattle.audit.proofs.audit.scans.misses_none_held.Given as goal

-- the marks so far are not missed
abbrev pub invariant-loop-name : goal.invariant-loop-name
invariant-loop-name l =
    AllByRecursion (λ entry. ¬ IsMissedMark l.start (range_of l.range) (reach_of l.reach) l.items (mark_of entry)) l.name-iterator
    ↔ AllByRecursion (λ entry. ¬ IsMissedMark l.start (range_of l.range) (reach_of l.reach) l.items (mark_of entry)) (entries_between name_cmp l.fn.ends.0 l.fn.ends.1 l.holders.entries)
