use Rattle.file_store.proofs.Opened.{found_as_put}
use Rattle.file_store.proofs.open_files.OpenFiles.keep.Goals as goal

pub returns : goal.returns
returns g c = found_as_put c.args.self.now.files c.put-kept.new.self c.args.name c.args.file c.put-kept.result c.put-kept.ensures.entries c.put-kept.ensures.err c.put-kept.ensures.succeeds
