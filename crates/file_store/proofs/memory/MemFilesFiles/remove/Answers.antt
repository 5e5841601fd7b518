use Rattle.std.proofs.Common.{◌∙◌, ap}
use Rattle.std.specs.FinMap as map
use Rattle.file_store.proofs.Seen.{one_removed}
use Rattle.file_store.proofs.memory.MemFilesFiles.remove.Goals as goal

pub returns-clause-removed : goal.returns-clause-removed
returns-clause-removed c = one_removed c.self.inside.files.entries c.remove.new.self.entries c.args.name c.remove.ensures.updates.0 ∙ ap (λ m. map.remove m c.args.name) c.self.view_is
