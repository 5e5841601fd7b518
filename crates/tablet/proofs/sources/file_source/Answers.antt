use Rattle.std.specs.Option.{option_copied}
use Rattle.tablet.proofs.SourceLists.{file_remaining, file_start}
use Rattle.tablet.proofs.sources.file_source.Goals as goal

pub returns-clause-start : goal.returns-clause-start
returns-clause-start c = λ told is. file_start told c.new.result c.cursor.result c.args.file.now c.new.ensures.source c.cursor.ensures.lent c.cursor.ensures.holds is

pub returns-clause-list : goal.returns-clause-list
returns-clause-list c = λ told is. file_remaining told c.new.result c.cursor.result c.args.file.now c.args.from.now (option_copied c.args.end) c.new.ensures.source c.new.ensures.end c.cursor.ensures.entries is

pub returns-clause-of : goal.returns-clause-of
returns-clause-of c = record { cursor = c.cursor.result; source = c.new.ensures.source; ends = c.new.ensures.end; of = c.cursor.ensures.of }
