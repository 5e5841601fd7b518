use Rattle.std.proofs.Common.{◌≡◌, sym, ap, ◌∙◌, ◌++◌, append-nil}
use Rattle.std.specs.FinMap as map
use Rattle.file_store.proofs.Seen.{keys-contents}
use Rattle.file_store.proofs.memory.MemFilesFiles.list.Goals as goal

pub returns-clause-ok : goal.returns-clause-ok
returns-clause-ok c =
    let k : map.keys c.args.self.now ≡ c.keys-name-items.result = ap map.keys (sym c.self.view_is) ∙ keys-contents c.self.inside.files.entries c.keys-name-items.ensures.ordered ∙ sym c.keys-name-items.ensures.rest in
    rw k (sym (append-nil c.loop-name.names.items) ∙ ap (λ t. c.loop-name.names.items ++ t) (sym c.in-None.ensures.steps.0) ∙ c.loop-name.invariant.0 ∙ ap (λ t. c.reserve.new.self.items ++ t) c.into_iter-name-iterator.ensures.into_iter_gives ∙ ap (λ t. t ++ c.keys-name-items.result) c.in_ok-reserve.ensures.items)
