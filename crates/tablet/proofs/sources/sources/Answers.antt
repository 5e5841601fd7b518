use Rattle.std.proofs.Common.{arith}
use Rattle.std.specs.Option.{option_copied}
use Rattle.tablet.proofs.SourceLists.{entry_lists, first_gathered, one_gathered, all_each, all_gathered, all_there}
use Rattle.tablet.proofs.sources.sources.Goals as goal

pub loop-file-init : goal.loop-file-init
loop-file-init g c = first_gathered c.args.from.now (option_copied c.args.end) (option_copied c.args.memtable) c.args.files.now c.in_ok-sources.sources.items c.in_ok-sources.ensures.start c.in_ok-sources.ensures.lists c.in_ok-sources.ensures.of

pub loop-file-preserved : goal.loop-file-preserved
loop-file-preserved g c =
    one_gathered c.args.from.now (option_copied c.args.end) (option_copied c.args.memtable) c.args.files.now c.loop-file.file-index c.loop-file.sources.items c.push.new.self.items c.file-item.result c.file_source-source.result
    c.loop-file.invariant (omega arith) c.file-item.is c.file_source-source.ensures.start c.file_source-source.ensures.list c.file_source-source.ensures.of c.in_ok-push.ensures.items

pub returns-clause-lists : goal.returns-clause-lists
returns-clause-lists g c = λ m opened. all_gathered c.args.from.now (option_copied c.args.end) (option_copied c.args.memtable) c.args.files.now c.loop-file.file-index c.loop-file.sources.items c.loop-file.invariant (omega arith) m opened

pub returns-clause-entries : goal.returns-clause-entries
returns-clause-entries g c = entry_lists (option_copied c.args.memtable) c.args.files.now c.in_ok-sources.ensures.entries

pub returns-clause-of : goal.returns-clause-of
returns-clause-of g c = all_there c.args.from.now (option_copied c.args.end) (option_copied c.args.memtable) c.args.files.now c.loop-file.file-index c.loop-file.sources.items c.loop-file.invariant (omega arith)

pub returns-clause-each : goal.returns-clause-each
returns-clause-each g c = all_each c.args.from.now (option_copied c.args.end) (option_copied c.args.memtable) c.args.files.now c.loop-file.file-index c.loop-file.sources.items c.loop-file.invariant (omega arith)
