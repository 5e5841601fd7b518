-- The newest files of the tablet are the merge's.
use Rattle.std.proofs.Common.{◌≡◌, Some, None, length, map, take, rules, refl, sym, ap, ◌∙◌, subst}
use Rattle.std.proofs.lemmas.Option.{slice_get_within}
use Rattle.sorted_file.specs.File.{name_of}
use Rattle.tablet.specs.RunMerges.{sources_of}
use Rattle.tablet.specs.Views.{files_of, range_of}
use Rattle.tablet.specs.declared.ranges.RowRange.{RowRange}
use Rattle.tablet.specs.declared.tablet.Tablet.{Tablet}
use Rattle.row_atomic.proofs.ChangedTablets.{is_there, matched_next, numbered_at}
use Rattle.row_atomic.proofs.FileNames.{placed_names}
use Rattle.row_atomic.proofs.MergeSteps.{begun_files, begun_holds, begun_names, state_of}
use Rattle.row_atomic.specs.MergeStates.{HoldsMerge}
use Rattle.row_atomic.proofs.RowAnswers.{found_there}
use Rattle.row_atomic.proofs.cluster.Cluster.begin_merge.Goals as goal

pub invariant_of-self : goal.invariant_of-self
invariant_of-self g c = (
  matched_next c.self.inside.file_limit (g.F.Files.contents c.self.inside.files) (g.F.Files.contents c.begin_merge.new.files) c.self.inside.next_name c.begin_merge.new.next_name c.self.inside.table c.self.inside.tablets.items c.begin_merge.ensures.name.uses c.begin_merge.ensures.name.within c.self.invariant.0,
  c.self.invariant.1,
  c.self.invariant.2,
)

pub index-requires-3 : goal.index-requires-3
index-requires-3 g c =
    let at = rw (← c.self.view_is) at c.position-index.ensures in
    let below = slice_get_within c.self.inside.tablets.items c.position-index.result at.tablet at.there in
    search rules

pub invariant_of-result : goal.invariant_of-result
invariant_of-result g c =
    let at = rw (← c.self.view_is) at c.position-index.ensures in
    let ts = c.self.inside.tablets.items in
    let is = c.of.ensures ∙ is_there ts c.position-index.result at.tablet c.index-3.result.now at.there c.index-3.ensures ∙ sym (is_there ts c.position-index.result at.tablet c.index-2.result.now at.there c.index-2.ensures) in
    let run = c.in_ok-merge.merge in (
      c.in_ok-merge.ensures.able,
      c.in_ok-merge.ensures.kept,
      c.in_ok-merge.ensures.named,
      c.in_ok-merge.ensures.limit,
      subst (λ (t : Tablet). map name_of (take (length (sources_of run)) (files_of t)) ≡ sources_of run) (sym is) (begun_names (files_of c.index-2.result.now) c.args.count (sources_of run) c.in_ok-merge.ensures.sources),
    )

pub invariant_of-self-2 : goal.invariant_of-self-2
invariant_of-self-2 g c = (
  matched_next c.self.inside.file_limit (g.F.Files.contents c.self.inside.files) (g.F.Files.contents c.begin_merge.new.files) c.self.inside.next_name c.begin_merge.new.next_name c.self.inside.table c.self.inside.tablets.items c.begin_merge.ensures.name.uses c.begin_merge.ensures.name.within c.self.invariant.0,
  c.self.invariant.1,
  c.self.invariant.2,
)

pub returns-clause-begun : goal.returns-clause-begun
returns-clause-begun g c =
    let at = rw (← c.self.view_is) at c.position-index.ensures in
    let ts = c.self.inside.tablets.items in
    let t = c.index-2.result.now in
    let there = found_there ts c.position-index.result at.tablet t at.there c.index-2.ensures in
    let is = c.of.ensures ∙ is_there ts c.position-index.result at.tablet c.index-3.result.now at.there c.index-3.ensures ∙ sym (is_there ts c.position-index.result at.tablet t at.there c.index-2.ensures) in
    let first = is_there ts c.position-index.result at.tablet c.index.result.now at.there c.index.ensures ∙ sym (is_there ts c.position-index.result at.tablet t at.there c.index-2.ensures) in
    let cloned = c.in_ok-range.ensures in
    rw (← c.self.view_is) (record {
      tablet = t;
      numbered = numbered_at ts c.args.tablet c.position-index.result t at.number there;
      such = record {
        numbered = refl;
        range = cloned ∙ c.range.ensures ∙ ap range_of first;
        files = ap (λ (x : Tablet). take (length (sources_of c.in_ok-merge.merge)) (files_of x)) is ∙ begun_files (files_of t) c.args.count (sources_of c.in_ok-merge.merge) c.in_ok-merge.ensures.sources;
        name = refl;
        limit = refl;
        keep = c.in_ok-merge.ensures.keep;
      };
    })

pub returns-clause-can : goal.returns-clause-can
returns-clause-can g c = λ holds.
    let at = rw (← c.self.view_is) at c.position-index.ensures in
    let before = rw (← c.self.view_is) at holds in
    let known = rw (← c.self.view_is) at c.requires.known in
    let matched = c.self.invariant.0 in
    let ts = c.self.inside.tablets.items in
    let i = c.position-index.result in
    let t = c.index-2.result.now in
    let there = found_there ts i at.tablet t at.there c.index-2.ensures in
    let is = c.of.ensures ∙ is_there ts i at.tablet c.index-3.result.now at.there c.index-3.ensures ∙ sym (is_there ts i at.tablet t at.there c.index-2.ensures) in
    let first = is_there ts i at.tablet c.index.result.now at.there c.index.ensures ∙ sym (is_there ts i at.tablet t at.there c.index-2.ensures) in
    let cloned = c.in_ok-range.ensures ∙ c.range.ensures ∙ ap range_of first in
    let files = placed_names c.self.inside.next_name ts c.args.tablet t (numbered_at ts c.args.tablet i t at.number there) None c.self.inside.table matched.placed matched.files known in
    let by = begun_holds c.runs_alike.ensures c.in_ok-merge.merge c.args.tablet c.self.inside.file_limit c.self.inside.next_name c.begin_merge.new.next_name c.args.count ts i t there matched.named_from c.in_ok-merge.ensures.used files
    c.in_ok-merge.ensures.sources c.in_ok-merge.ensures.kept c.in_ok-merge.ensures.begun (g.F.Files.contents c.self.inside.files) (g.F.Files.contents c.begin_merge.new.files) c.begin_merge.ensures.same before.0 in (
      by.0,
      subst (λ (x : Tablet). HoldsMerge (g.F.Files.contents c.begin_merge.new.files) c.self.inside.file_limit c.begin_merge.new.next_name (Some (state_of c.args.tablet c.in_ok-range.range (files_of x) c.self.inside.next_name c.self.inside.file_limit c.in_ok-merge.merge))) (sym is)
          (subst (λ (r : RowRange). HoldsMerge (g.F.Files.contents c.begin_merge.new.files) c.self.inside.file_limit c.begin_merge.new.next_name (Some (state_of c.args.tablet r (files_of t) c.self.inside.next_name c.self.inside.file_limit c.in_ok-merge.merge))) (sym cloned) by.1),
    )
