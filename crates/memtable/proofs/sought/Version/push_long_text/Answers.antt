use Rattle.memtable.specs.Order.{key_of}
use Rattle.memtable.proofs.StackTexts.{has_room}
use Rattle.memtable.proofs.sought.Version.push_long_text.Goals as goal

pub unwrap-requires : goal.unwrap-requires
unwrap-requires c = has_room c.push_text.result c.args.out.now.items (key_of c.args.self) c.requires c.as_bytes-row.ensures.valid c.as_bytes-family.ensures.valid c.push_text.ensures.full
