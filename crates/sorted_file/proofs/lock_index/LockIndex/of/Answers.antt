use Rattle.std.proofs.Common.{◌∙◌, ◌∷◌, ◌++◌, [], List, ap, sym}
use Rattle.std.proofs.lemmas.List.{append_assoc}
use Rattle.sorted_file.specs.declared.file.SortedFile.{SortedFile}
use Rattle.sorted_file.proofs.lock_index.LockIndex.of.Goals as goal

pub loop-file-preserved : goal.loop-file-preserved
loop-file-preserved c =
    let i = c.loop-file.invariant in
    record {
      older = c.in-Some.file.now ∷ i.older;
      all = sym (append_assoc c.in-Some.rest.now (c.in-Some.file.now ∷ []) i.older) ∙ ap (λ (l : List SortedFile). l ++ i.older) (sym c.in-Some.ensures.cases.0) ∙ i.all;
      index = c.in_ok-index.ensures.over i.older i.index;
    }
