use Rattle.std.proofs.Common.{map, subst, ap, ◌∙◌}
use Rattle.cell_key.specs.Entries.{merged}
use Rattle.sorted_file.specs.Source.{ComesToEnd}
use Rattle.sorted_file.specs.Grammar.{IsFile}
use Rattle.sorted_file.specs.declared.format.Format.TheVariants.{Two}
use Rattle.compaction.specs.Merging.{first_lent, MergeHolds, merge_remaining}
use Rattle.compaction.specs.Writing.{only_written}
use Rattle.compaction.proofs.Ending.{OrderedSteps, values_end}
use Rattle.compaction.proofs.Falls.{on_ok}
use Rattle.compaction.proofs.Passed.{either, file_of_merge, merge_breaks, merges_no_list, merges_too_much}
use Rattle.compaction.proofs.writing.merge_into.Goals as goal

pub returns-clause-written : goal.returns-clause-written
returns-clause-written g c =
    let keep = c.new-values.result.keep_erasures in
    on_ok c.write_file.result _ _ c.write_file.ensures.written (λ w. (
      w.0,
      (
        w.1.0,
        w.1.1,
        (λ h.
            let m = g.F.Files.contents c.args.files.now in
            let of_merge = subst (λ s. MergeHolds g.S.Source.lent (g.S.Source.remaining m) (g.S.Source.holds m) s.sources.items s.order.items → IsFile Two (only_written keep (merge_remaining g.S.Source.lent (g.S.Source.remaining m) s.sources.items s.order.items)) w.0) c.new-values.ensures.source w.1.3 in
            let of_lists = subst (λ es. IsFile Two (only_written keep es) w.0) (c.in_ok-merge.ensures.remaining m h) (of_merge (c.in_ok-merge.ensures.holds m h)) in
            subst (λ k. IsFile Two (only_written k (merged (map (g.S.Source.remaining m) c.args.sources.items))) w.0) c.new-values.ensures.keep of_lists),
      ),
    ))

pub returns-clause-comes : goal.returns-clause-comes
returns-clause-comes g c =
    let m = g.F.Files.contents c.args.files.now in
    let steps = g.S.Source.steps m in
    let lent = g.S.Source.lent in
    on_ok c.write_file.result _ _ c.write_file.ensures.comes (λ h.
    let of_values = values_end (OrderedSteps steps lent (λ s. s.sources.items) (λ s. s.order.items)) (λ s. first_lent lent s.sources.items s.order.items) (λ v. v.source) (λ v. v.keep_erasures) c.new-values.result h in
    c.in_ok-merge.ensures.comes m (subst (ComesToEnd (OrderedSteps steps lent (λ s. s.sources.items) (λ s. s.order.items)) (λ s. first_lent lent s.sources.items s.order.items)) c.new-values.ensures.source of_values))

pub returns-clause-too_much : goal.returns-clause-too_much
returns-clause-too_much g c = λ err.
    let m = g.F.Files.contents c.args.files.now in
    let all = ap (λ s. s.sources.items) c.new-values.ensures.source ∙ ap (λ xs. xs.items) c.in_ok-merge.ensures.sources in
    let fresh = ap (λ s. s.order.items) c.new-values.ensures.source ∙ c.in_ok-merge.ensures.order in
    merges_too_much (g.S.Source.steps m) g.S.Source.lent (λ s. s.sources.items) (λ s. s.order.items) (λ v. v.source) (λ v. v.keep_erasures) c.args.keep_erasures c.new-values.result c.args.sources.items c.new-values.ensures.keep all fresh c.args.file_limit (c.write_file.ensures.too_much err)

pub returns-clause-broken : goal.returns-clause-broken
returns-clause-broken g c = λ err.
    let m = g.F.Files.contents c.args.files.now in
    let all = ap (λ s. s.sources.items) c.new-values.ensures.source ∙ ap (λ xs. xs.items) c.in_ok-merge.ensures.sources in
    let fresh = ap (λ s. s.order.items) c.new-values.ensures.source ∙ c.in_ok-merge.ensures.order in
    either (c.write_file.ensures.broken err)
    (merge_breaks (g.S.Source.steps m) g.S.Source.lent (λ s. s.sources.items) (λ s. s.order.items) (λ v. v.source) (λ v. v.keep_erasures) c.args.keep_erasures c.new-values.result c.args.sources.items c.new-values.ensures.keep all fresh (g.S.Source.breaks m))
    (merges_no_list (g.S.Source.steps m) g.S.Source.lent (λ s. s.sources.items) (λ s. s.order.items) (λ v. v.source) (λ v. v.keep_erasures) c.args.keep_erasures c.new-values.result c.args.sources.items c.new-values.ensures.keep all fresh)

pub returns-clause-whole : goal.returns-clause-whole
returns-clause-whole g c =
    let m = g.F.Files.contents c.args.files.now in
    let all = ap (λ s. s.sources.items) c.new-values.ensures.source ∙ ap (λ xs. xs.items) c.in_ok-merge.ensures.sources in
    let fresh = ap (λ s. s.order.items) c.new-values.ensures.source ∙ c.in_ok-merge.ensures.order in
    on_ok c.write_file.result _ _ c.write_file.ensures.written (λ w. (
      w.0,
      w.1.0,
      file_of_merge (g.S.Source.steps m) g.S.Source.lent (λ s. s.sources.items) (λ s. s.order.items) (λ v. v.source) (λ v. v.keep_erasures) c.args.keep_erasures c.new-values.result c.args.sources.items c.new-values.ensures.keep all fresh w.0 w.1.2,
    ))
