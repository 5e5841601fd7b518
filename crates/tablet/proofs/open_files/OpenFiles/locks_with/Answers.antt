use Rattle.std.proofs.Common.{◌≡◌, ◌∙◌, ◌∷◌, ◌+◌, ◌++◌, [], List, take, drop, length, ap, sym, arith}
use Rattle.std.proofs.lemmas.List.{append_assoc}
use Rattle.sorted_file.specs.declared.file.SortedFile.{SortedFile}
use Rattle.tablet.proofs.open_files.OpenFiles.locks_with.Goals as goal

pub overflow_add-at : goal.overflow_add-at
overflow_add-at c = omega (arith, c.requires, ap (λ (l : List SortedFile). length l) c.self.view_is, c.self.inside.files.ok.0, c.self.inside.files.small)

pub newer-init : goal.newer-init
newer-init c =
    let older = c.args.file.now ∷ drop (c.args.at + c.args.count) c.args.self.now in
    record {
      older = older;
      all = ap (λ (l : List SortedFile). take c.args.at l ++ older) (c.deref.ensures.value ∙ c.self.view_is);
      index = c.in_ok-index.ensures.index;
    }

pub newer-preserved : goal.newer-preserved
newer-preserved c =
    let i = c.newer.invariant in
    record {
      older = c.in-Some.next.now ∷ i.older;
      all = sym (append_assoc c.in-Some.rest.now (c.in-Some.next.now ∷ []) i.older) ∙ ap (λ (l : List SortedFile). l ++ i.older) (sym c.in-Some.ensures.cases.0) ∙ i.all;
      index = c.in_ok-index-2.ensures.over i.older i.index;
    }
