use Rattle.std.proofs.Common.{sym, ◌∙◌}
use Rattle.cell_key.specs.Keys.{text}
use Rattle.sorted_file.specs.Newest.{at_stamp}
use Rattle.sorted_file.specs.Numbers.{number_of}
use Rattle.sorted_file.proofs.Numbered.{absent, one_number}
use Rattle.sorted_file.proofs.file.SortedFile.may_have.Goals as goal

pub returns-else-has : goal.returns-else-has
returns-else-has c = λ not s low high may.
    let key = c.args.key.now in
    absent c.args.self.now.numbers c.column_number.result (number_of (text (at_stamp key s))) c.has-2.result c.has-2.ensures.1 not (c.column_number.ensures ∙ sym (one_number key s)) may.column
