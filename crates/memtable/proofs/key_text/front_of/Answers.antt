use Rattle.std.proofs.Common.{arith}
use Rattle.memtable.proofs.key_text.front_of.Goals as goal

pub returns : goal.returns
returns c =
    record {
      long = c.requires;
      bytes = λ i. omega (arith, c.type_inv.bytes i);
      is = c.read_u64.ensures;
    }
