use Rattle.std.proofs.Common.{◌∷◌, drop, List, sym, subst}
use Rattle.std.proofs.lemmas.List.Elements.{All-same, All-weaker}
use Rattle.sorted_file.specs.KeyFilters.{Covers}
use Rattle.sorted_file.specs.LockIndexes.{IsIndexOf}
use Rattle.sorted_file.specs.declared.file.SortedFile.{SortedFile}
use Rattle.tablet.proofs.OpenFiles.{covered_more}
use Rattle.tablet.proofs.open_files.OpenFiles.replace_newest.Goals as goal

pub invariant_of-self : goal.invariant_of-self
invariant_of-self c = (
  All-same (Covers c.add.new.self) _ _ c.in_err-put_newest.ensures.err
      (All-weaker (Covers c.self.inside.filter) (Covers c.add.new.self) c.add.ensures.keeps c.self.inside.files.items c.self.invariant.0),
  subst (IsIndexOf c.self.inside.locks) (sym c.in_err-put_newest.ensures.err) c.self.invariant.1,
)

pub invariant_of-self-2 : goal.invariant_of-self-2
invariant_of-self-2 c =
    let index = c.in_ok-locks.locks in (
      All-same (Covers c.add.new.self) _ _ c.in_ok-put_newest.ensures.ok
          (covered_more c.self.inside.filter c.add.new.self c.args.count c.args.file c.self.inside.files.items c.add.ensures.covers c.add.ensures.keeps c.self.invariant.0),
      subst (IsIndexOf index) (sym c.in_ok-put_newest.ensures.ok)
          (subst (λ (l : List SortedFile). IsIndexOf index (c.args.file ∷ drop c.args.count l)) (sym c.self.view_is) c.in_ok-locks.ensures.index),
    )
