use Rattle.std.proofs.Common.{◌≡◌, ◌↔◌, ℕ, true, List, refl, subst}
use Rattle.std.specs.List.{AllByRecursion}
use Rattle.si_model.specs.Replies.{range_of, reach_of}
use Rattle.si_model.specs.declared.replies.Cell.{Cell}
use Rattle.audit.specs.AuditScans.{IsMissedMark}
use Rattle.audit.proofs.HeldCells.{all_marks, marks_between, marks_uncovered}
use Rattle.audit.proofs.audit.scans.misses_no_mark.Goals as goal

pub returns-in-Some : goal.returns-in-Some
returns-in-Some c =
    let range = range_of c.args.range.now in
    let reach = reach_of c.args.reach.now in
    let items = c.args.items.now in
    let ends = c.in-Some.ends in
    let es = c.holders.result.now.entries in
    subst (λ (marks : List (Cell × ℕ)). (c.misses_none_held.result ≡ true) ↔ AllByRecursion (λ mark. ¬ IsMissedMark c.args.start range reach items mark) marks) c.holders.ensures (
      λ t. all_marks c.args.start range reach items ends c.in-Some.ensures.spans es (c.misses_none_held.ensures.0 t),
      λ all. c.misses_none_held.ensures.1 (marks_between c.args.start range reach items ends es all),
    )

pub returns-in-None : goal.returns-in-None
returns-in-None c = (
  λ t. marks_uncovered c.args.start (range_of c.args.range.now) (reach_of c.args.reach.now) c.args.items.now c.in-None.ensures.none c.args.marks.now,
  λ all. refl,
)
