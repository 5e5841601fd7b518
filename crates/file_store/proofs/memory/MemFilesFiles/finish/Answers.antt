use Rattle.std.proofs.Common.{◌∙◌, ap}
use Rattle.std.specs.FinMap as map
use Rattle.file_store.specs.Store.{Contents}
use Rattle.file_store.proofs.Kept.{elsewhere}
use Rattle.file_store.proofs.Seen.{one_put}
use Rattle.file_store.proofs.memory.MemFilesFiles.finish.Goals as goal

pub returns-clause-ok : goal.returns-clause-ok
returns-clause-ok c =
    one_put c.self.inside.files.entries c.insert.new.self.entries c.args.writing.name c.shrink_to_fit.new.self c.in_ok-insert.ensures.updates.0
    ∙ ap (map.insert _ c.args.writing.name) c.shrink_to_fit.ensures.items ∙ ap (λ m. map.insert m c.args.writing.name c.args.writing.bytes.items) c.self.view_is

pub returns-clause-others : goal.returns-clause-others
returns-clause-others c = λ other apart.
    ap (λ (m : Contents). map.get m other) (returns-clause-ok c) ∙ elsewhere c.args.self.now c.args.writing.name other c.args.writing.bytes.items apart
