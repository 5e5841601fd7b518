use Rattle.std.proofs.Common.{arith}
use Rattle.request_codec.proofs.OperationParts.{few_cells}
use Rattle.request_codec.proofs.write_lists.push_read.Goals as goal

pub overflow_cast-cells : goal.overflow_cast-cells
overflow_cast-cells c = omega (arith, few_cells c.args.start c.args.cells.now c.args.stays_open c.requires.short)
