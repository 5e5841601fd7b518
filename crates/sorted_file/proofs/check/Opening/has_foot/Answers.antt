use Rattle.std.proofs.Common.{arith}
use Rattle.sorted_file.proofs.WholeFiles.{entries_fit, rows_fit}
use Rattle.sorted_file.proofs.check.Opening.has_foot.Goals as goal

pub push_foot-requires-clause-blocks : goal.push_foot-requires-clause-blocks
push_foot-requires-clause-blocks c = let fit = rows_fit c.args.self.now c.requires in let small = c.requires.small in omega (arith, fit, small)

pub push_foot-requires-clause-entries : goal.push_foot-requires-clause-entries
push_foot-requires-clause-entries c = let fit = entries_fit c.args.self.now c.requires in let small = c.requires.small in omega (arith, fit, small)
