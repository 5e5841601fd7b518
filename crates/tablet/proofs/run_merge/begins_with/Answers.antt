use Rattle.std.proofs.Common.{ℕ, List, ◌++◌, ◌∷◌, [], ap, map, ◌∙◌, sym}
use Rattle.sorted_file.specs.File.{name_of}
use Rattle.tablet.proofs.RunSteps.{one_more}
use Rattle.tablet.proofs.run_merge.begins_with.Goals as goal

pub names-preserved : goal.names-preserved
names-preserved c =
    let i = c.names.invariant in (
      i.0 ++ c.in-Some.name.now ∷ [],
      one_more _ i.0 _ _ c.in-Some.name.now i.1 c.in-Some.ensures.cases.0,
      one_more _ i.0 _ _ c.in-Some.name.now i.2
          (ap (map name_of) c.in-Some-split_first.ensures.cases.0 ∙ ap (λ (n : ℕ). n ∷ map name_of c.in-Some-split_first.later_files.now) (sym c.name.ensures ∙ c.if-name.false)),
    )
