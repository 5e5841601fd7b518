use Rattle.std.proofs.Common.{refl}
use Rattle.std.specs.BTreeMap.Range.{entries_between}
use Rattle.si_model.specs.Replies.{range_of, reach_of}
use Rattle.audit.specs.Histories.{name_cmp}
use Rattle.audit.proofs.SpannedCells.{all_between, all_commits, all_uncovered}
use Rattle.audit.proofs.audit.scans.misses_no_version.Goals as goal

pub returns-in-Some : goal.returns-in-Some
returns-in-Some c =
    let range = range_of c.args.range.now in
    let reach = reach_of c.args.reach.now in
    let ends = c.in-Some.ends in (
      λ t. all_commits c.args.commits.now c.args.histories.now c.requires c.args.start range reach c.args.items.now ends c.in-Some.ensures.spans (c.misses_none_between.ensures.0 t),
      λ all. c.misses_none_between.ensures.1 (all_between c.args.commits.now c.args.histories.now c.requires c.args.start range reach c.args.items.now (entries_between name_cmp ends.0 ends.1 c.args.histories.now.entries) all),
    )

pub returns-in-None : goal.returns-in-None
returns-in-None c = (
  λ t. all_uncovered c.args.commits.now c.args.histories.now c.requires c.args.start (range_of c.args.range.now) (reach_of c.args.reach.now) c.args.items.now c.in-None.ensures.none,
  λ all. refl,
)
