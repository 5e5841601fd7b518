use Rattle.std.proofs.Common.{arith}
use Rattle.request_codec.proofs.OperationParts.{few_writes}
use Rattle.request_codec.proofs.write_lists.push_commit.Goals as goal

pub overflow_cast-writes : goal.overflow_cast-writes
overflow_cast-writes c = omega (arith, few_writes c.args.start c.args.writes.now c.requires.short)
