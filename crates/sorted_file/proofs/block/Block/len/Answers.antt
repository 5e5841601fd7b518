use Rattle.std.proofs.Common.{length, ap, arith}
use Rattle.sorted_file.proofs.Starts.{starts_length}
use Rattle.sorted_file.proofs.block.Block.len.Goals as goal

pub returns : goal.returns
returns c = λ es p. omega (arith, c.len.ensures, ap length p.starts, starts_length 0 es, c.args.self.now.starts.ok)
