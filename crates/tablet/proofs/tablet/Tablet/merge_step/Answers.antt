use Rattle.std.proofs.Common.{◌≡◌, ◌+◌, ◌≤◌, ℕ, List, Option, Some, None, drop, length, map, take, arith, ap, sym, subst, ◌∙◌}
use Rattle.std.specs.Option.{option_copied}
use Rattle.std.specs.List.{AllByRecursion}
use Rattle.cell_key.specs.Entries.{Entry, IsEntryList, entries_from, merged}
use Rattle.file_store.specs.Store.{Contents}
use Rattle.sorted_file.specs.File.{IsOpen, listed}
use Rattle.sorted_file.specs.PartialFiles.{IsUnderWay, IsWhole, next_of}
use Rattle.sorted_file.specs.declared.file.SortedFile.{SortedFile}
use Rattle.compaction.proofs.StepLists.{on_ok}
use Rattle.tablet.specs.Ranges.{lower_fence, upper_fence}
use Rattle.tablet.specs.Reads.{later}
use Rattle.tablet.specs.RunMerges.{run_at}
use Rattle.tablet.specs.Sources.{IsOpenIn, entries_between, lists_over}
use Rattle.tablet.specs.Views.{files_of, range_of}
use Rattle.tablet.proofs.RunEnds.{moved, run_open}
use Rattle.tablet.proofs.RunSteps.{run_within, step_parts, where_told, whole_seen}
use Rattle.tablet.proofs.tablet.Tablet.merge_step.Goals as goal

pub run-requires : goal.run-requires
run-requires g c = omega (arith, run_within (files_of c.args.self.now) c.args.merge.now.names.items c.in-Some.at c.in-Some.ensures, c.len.ensures, c.args.merge.now.names.ok.0)

pub locks_behind-requires : goal.locks_behind-requires
locks_behind-requires g c = omega (arith, run_within (files_of c.args.self.now) c.args.merge.now.names.items c.in-Some.at c.in-Some.ensures, c.len-2.ensures, c.args.merge.now.names.ok.0, c.saturating_add.ensures)

pub returns-clause-goes : goal.returns-clause-goes
returns-clause-goes g c =
    let told = g.F.Files.contents c.args.files.now in
    let files = files_of c.args.self.now in
    let range = range_of c.args.self.now in
    let names = c.args.merge.now.names.items in
    let low = lower_fence range in
    let end = upper_fence range in
    let next = next_of c.args.merge.now.file in
    let at = c.in-Some.at in
    let run = run_at files names at in
    let same : c.run.result.1.now ≡ run = c.run.ensures.files ∙ ap (λ (n : ℕ). take n (drop at files)) (c.len.ensures ∙ c.args.merge.now.names.ok.0) in
    let from_is : c.later-from.result.now ≡ later low next = c.later-from.ensures ∙ (λ i. later ((c.deref.ensures.value ∙ c.in_ok-low.ensures.from) i) ((c.deref-2.ensures.value ∙ c.in_ok-next.ensures.items ∙ c.next.ensures) i)) in
    let end_is : option_copied c.as_deref.result ≡ end = c.as_deref.ensures.value ∙ c.in_ok-low.ensures.end in
    on_ok c.merge_on.result _ _ c.merge_on.ensures.goes (λ more h is. where_told told _ (λ m known. λ all part. record {
      at = at;
      run = c.in-Some.ensures;
      under_way =
          let there = run_open m files names at all in
          let was = subst (λ (es : List Entry). IsUnderWay es c.args.merge.now.file) (moved c.one_listing.ensures range m files names part.at at part.run c.in-Some.ensures all) part.under_way in
          let lists = map (listed m) run in
          let opened = subst (λ (fs : List SortedFile). AllByRecursion (IsOpenIn told) fs) (sym same) (subst (λ (d : Option Contents). AllByRecursion (IsOpenIn d) run) (sym known) there) in
          let are : lists_over told (option_copied c.run.result.0) c.run.result.1.now ≡ lists = (λ i. lists_over (known i) (c.run.ensures.memory i) (same i)) in
          let parts = c.in_ok-sources.ensures.lists told opened ∙ (λ i. map (entries_between c.later-from.result.now (end_is i)) (are i)) ∙ step_parts low next c.later-from.result.now end lists from_is in
          let whole = whole_seen c.merges_ranges.ensures range lists (subst (AllByRecursion IsEntryList) are (c.in_ok-sources.ensures.entries told opened)) in
          subst (λ (es : List Entry). IsUnderWay es c.merge_on.new.file) whole
          (h is (map (entries_from low) lists) end (c.in_ok-sources.ensures.start told opened) parts (subst (λ (es : List Entry). IsUnderWay es c.args.merge.now.file) (sym whole) was));
    }))

pub returns-clause-done : goal.returns-clause-done
returns-clause-done g c =
    let told = g.F.Files.contents c.args.files.now in
    let files = files_of c.args.self.now in
    let range = range_of c.args.self.now in
    let names = c.args.merge.now.names.items in
    let low = lower_fence range in
    let end = upper_fence range in
    let next = next_of c.args.merge.now.file in
    let at = c.in-Some.at in
    let run = run_at files names at in
    let same : c.run.result.1.now ≡ run = c.run.ensures.files ∙ ap (λ (n : ℕ). take n (drop at files)) (c.len.ensures ∙ c.args.merge.now.names.ok.0) in
    let from_is : c.later-from.result.now ≡ later low next = c.later-from.ensures ∙ (λ i. later ((c.deref.ensures.value ∙ c.in_ok-low.ensures.from) i) ((c.deref-2.ensures.value ∙ c.in_ok-next.ensures.items ∙ c.next.ensures) i)) in
    let end_is : option_copied c.as_deref.result ≡ end = c.as_deref.ensures.value ∙ c.in_ok-low.ensures.end in
    on_ok c.merge_on.result _ _ c.merge_on.ensures.done (λ more h is. where_told told _ (λ m known. λ all part. record {
      at = at;
      run = c.in-Some.ensures;
      whole =
          let there = run_open m files names at all in
          let was = subst (λ (es : List Entry). IsUnderWay es c.args.merge.now.file) (moved c.one_listing.ensures range m files names part.at at part.run c.in-Some.ensures all) part.under_way in
          let lists = map (listed m) run in
          let opened = subst (λ (fs : List SortedFile). AllByRecursion (IsOpenIn told) fs) (sym same) (subst (λ (d : Option Contents). AllByRecursion (IsOpenIn d) run) (sym known) there) in
          let are : lists_over told (option_copied c.run.result.0) c.run.result.1.now ≡ lists = (λ i. lists_over (known i) (c.run.ensures.memory i) (same i)) in
          let parts = c.in_ok-sources.ensures.lists told opened ∙ (λ i. map (entries_between c.later-from.result.now (end_is i)) (are i)) ∙ step_parts low next c.later-from.result.now end lists from_is in
          let whole = whole_seen c.merges_ranges.ensures range lists (subst (AllByRecursion IsEntryList) are (c.in_ok-sources.ensures.entries told opened)) in
          subst (λ (es : List Entry). IsWhole es c.merge_on.new.file) whole
          (h is (map (entries_from low) lists) end (c.in_ok-sources.ensures.start told opened) parts (subst (λ (es : List Entry). IsUnderWay es c.args.merge.now.file) (sym whole) was));
    }))
