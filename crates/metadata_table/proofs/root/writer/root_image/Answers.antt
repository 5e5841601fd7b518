use Rattle.metadata_table.proofs.RootChecks.{small_files}
use Rattle.metadata_table.proofs.root.writer.root_image.Goals as goal

pub push_places-requires-clause-files : goal.push_places-requires-clause-files
push_places-requires-clause-files c = small_files c.args.next_name c.args.places.now c.requires.naming.files
