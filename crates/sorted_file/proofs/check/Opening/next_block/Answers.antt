use Rattle.std.proofs.Common.{length, drop, ap, arith, length-take, length-drop}
use Rattle.sorted_file.proofs.Widths.{block_small}
use Rattle.sorted_file.proofs.check.Opening.next_block.Goals.{then-row-self-via-then-row-self, then-row-self-via-else-row-self+then-row-gt-LONGEST_BLOCK}
use Rattle.sorted_file.proofs.check.Opening.next_block.Goals as goal

pub returns-then-row-self-clause-damaged : goal.returns-then-row-self-clause-damaged
returns-then-row-self-clause-damaged g c = λ is image tells size es len block.
    let small = block_small es block.list.each block.fits in
    let there = ap length block.spelled in
    let taken = length-take c.args.row.length (drop c.args.self.now.end image) in
    let behind = length-drop c.args.self.now.end image in
    elim c.then-row-self.branch [
      | then-row-self-via-then-row-self w ↦ omega (arith, w.if-row-self.true, there, taken, behind, size, len)
      | then-row-self-via-else-row-self+then-row-gt-LONGEST_BLOCK w ↦ omega (arith, w.if-row-gt-LONGEST_BLOCK.true, small, len)
    ]
