use Rattle.std.proofs.Common.{◌∷◌, ◌++◌, ◌+◌, take, drop, List, sym, subst}
use Rattle.std.proofs.lemmas.List.Elements.{All-same}
use Rattle.sorted_file.specs.KeyFilters.{Covers}
use Rattle.sorted_file.specs.LockIndexes.{IsIndexOf}
use Rattle.sorted_file.specs.declared.file.SortedFile.{SortedFile}
use Rattle.tablet.proofs.RunFiles.{covered_run}
use Rattle.tablet.proofs.open_files.OpenFiles.replace_run.Goals as goal

pub invariant_of-self : goal.invariant_of-self
invariant_of-self c =
    let index = c.in_ok-locks.locks in (
      All-same (Covers c.add.new.self) _ _ c.put_run.ensures
          (covered_run c.self.inside.filter c.add.new.self c.args.at _ c.args.file c.self.inside.files.items c.add.ensures.covers c.add.ensures.keeps c.self.invariant.0),
      subst (IsIndexOf index) (sym c.put_run.ensures)
          (subst (λ (l : List SortedFile). IsIndexOf index (take c.args.at l ++ c.args.file ∷ drop (c.args.at + c.args.count) l)) (sym c.self.view_is) c.in_ok-locks.ensures.index),
    )
