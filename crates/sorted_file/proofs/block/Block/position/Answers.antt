use Rattle.std.proofs.Common.{length, refl, ap, arith}
use Rattle.sorted_file.proofs.Halves.{high_on, low_on, none_from}
use Rattle.sorted_file.proofs.Starts.{starts_length}
use Rattle.sorted_file.proofs.block.Block.position.Goals as goal

pub halves-init : goal.halves-init
halves-init c = record {
  ordered = omega arith;
  within = omega (arith, c.len-high.ensures, c.args.self.now.starts.ok);
  low = λ es p. refl;
  high = λ es p. none_from c.args.text.now es c.len-high.result (omega (arith, c.len-high.ensures, ap length p.starts, starts_length 0 es, c.args.self.now.starts.ok));
}

pub halves-preserved-then-is_before : goal.halves-preserved-then-is_before
halves-preserved-then-is_before c =
    let i = c.halves.invariant in
    record {
      ordered = omega (arith, c.halves-test.true);
      within = i.within;
      low = λ es p. low_on c.args.text.now es _ p.list.rising (c.is_before.ensures.before c.if-is_before.true es p);
      high = i.high;
    }

pub halves-preserved : goal.halves-preserved
halves-preserved c =
    let i = c.halves.invariant in
    let within = i.within in
    record {
      ordered = omega arith;
      within = omega (arith, within, c.halves-test.true);
      low = i.low;
      high = λ es p. high_on c.args.text.now es _ p.list.rising (c.is_before.ensures.behind c.if-is_before.false es p);
    }
