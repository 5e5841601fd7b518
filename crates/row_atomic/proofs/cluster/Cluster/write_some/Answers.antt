-- The tablet's files mean the same entries as those that the merge was begun with.
use Rattle.std.proofs.Common.{◌≡◌, map, sym, subst}
use Rattle.sorted_file.specs.File.{name_of}
use Rattle.tablet.specs.RunMerges.{IsRunAt}
use Rattle.tablet.specs.declared.tablet.Tablet.{Tablet}
use Rattle.row_atomic.proofs.ChangedTablets.{is_there}
use Rattle.row_atomic.proofs.MergeSteps.{all_holds, more_holds, these}
use Rattle.row_atomic.proofs.RowAnswers.{found_there}
use Rattle.row_atomic.proofs.cluster.Cluster.write_some.Goals as goal

pub returns-in-Ok-clause-more : goal.returns-in-Ok-clause-more
returns-in-Ok-clause-more g c = λ is holds.
    let stands = rw (← c.merge.view_is, ← c.self.view_is) at c.in-Some.ensures.stands in
    let before = rw (← c.merge.view_is, ← c.self.view_is) at holds in
    let ts = c.self.inside.tablets.items in
    let run = c.merge.inside.merge in
    let there = found_there ts c.in-Some.index stands.tablet c.index.result.now stands.there c.index.ensures in
    let same = is_there ts c.in-Some.index stands.tablet c.index.result.now stands.there c.index.ensures in
    more_holds c.runs_alike.ensures c.merge.inside.tablet c.merge.inside.range c.merge.inside.was.value.files c.merge.inside.name c.merge.inside.limit run c.merge_step.new.merge
    c.merge.invariant.4 c.merge.invariant.1 c.merge_step.ensures.sources c.merge_step.ensures.kept c.merge_step.ensures.keep
    c.index.result.now (subst (λ (t : Tablet). t.range ≡ c.merge.inside.range) (sym same) stands.range)
    stands.at (subst (λ (t : Tablet). IsRunAt t.files (map name_of (these c.merge.inside.was.value.files run)) stands.at) (sym same) stands.run)
    c.self.inside.file_limit c.self.inside.next_name ts c.in-Some.index there
    (g.F.Files.contents c.self.inside.files) (g.F.Files.contents c.merge_step.new.files) c.merge_step.ensures.same (c.in-Ok.ensures.goes is) before

pub returns-in-Ok-clause-done : goal.returns-in-Ok-clause-done
returns-in-Ok-clause-done g c = λ is holds.
    let stands = rw (← c.merge.view_is, ← c.self.view_is) at c.in-Some.ensures.stands in
    let before = rw (← c.merge.view_is, ← c.self.view_is) at holds in
    let ts = c.self.inside.tablets.items in
    let run = c.merge.inside.merge in
    let there = found_there ts c.in-Some.index stands.tablet c.index.result.now stands.there c.index.ensures in
    let same = is_there ts c.in-Some.index stands.tablet c.index.result.now stands.there c.index.ensures in
    all_holds c.runs_alike.ensures c.merge.inside.tablet c.merge.inside.range c.merge.inside.was.value.files c.merge.inside.name c.merge.inside.limit run c.merge_step.new.merge
    c.merge.invariant.4 c.merge.invariant.1 c.merge_step.ensures.sources c.merge_step.ensures.kept c.merge_step.ensures.keep
    c.index.result.now (subst (λ (t : Tablet). t.range ≡ c.merge.inside.range) (sym same) stands.range)
    stands.at (subst (λ (t : Tablet). IsRunAt t.files (map name_of (these c.merge.inside.was.value.files run)) stands.at) (sym same) stands.run)
    c.self.inside.file_limit c.self.inside.next_name ts c.in-Some.index there
    (g.F.Files.contents c.self.inside.files) (g.F.Files.contents c.merge_step.new.files) c.merge_step.ensures.same (c.in-Ok.ensures.done is) before
