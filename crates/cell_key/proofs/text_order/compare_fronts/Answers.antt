use Rattle.std.proofs.Common.{ap, sym, drop, ◌∙◌, arith}
use Rattle.std.specs.FinMap.{nat_cmp-IsAntisymmetric}
use Rattle.std.specs.Ordering.{nat_cmp, ordering_then}
use Rattle.byteorder.specs.Endian.{big_number}
use Rattle.cell_key.specs.Keys.{byte_cmp}
use Rattle.cell_key.proofs.Words.{fronts, same_fronts}
use Rattle.cell_key.proofs.text_order.compare_fronts.Goals as goal

pub returns : goal.returns
returns c =
    let a = c.args.a.now in
    let b = c.args.b.now in
    let numbers = c.cmp.ensures ∙ ap (λ n. nat_cmp n c.read_u64-other.result) c.read_u64-front.ensures ∙ ap (nat_cmp (big_number 8 a)) c.read_u64-other.ensures in
    record {
      order = fronts 8 a b c.requires.first c.requires.second (λ i. omega (arith, c.type_inv.a i)) (λ i. omega (arith, c.type_inv.b i))
          ∙ ap (λ o. ordering_then o (byte_cmp (drop 8 a) (drop 8 b))) (sym numbers);
      same = λ tie. same_fronts 8 a b c.requires.first c.requires.second (λ i. omega (arith, c.type_inv.a i)) (λ i. omega (arith, c.type_inv.b i))
          (nat_cmp-IsAntisymmetric (big_number 8 a) (big_number 8 b) (sym numbers ∙ tie));
    }
