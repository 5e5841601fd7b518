use Rattle.std.proofs.Common.{◌<◌, arith, subst}
use Rattle.cell_key.specs.declared.keys.CellKey.{CellKey}
use Rattle.sorted_file.proofs.Newest.{apart}
use Rattle.sorted_file.proofs.lookup_key.LookupKey.stamp_from.Goals.{then-stamp-lo-via-then-stamp-lo, then-stamp-lo-via-else-stamp-lo+then-last-stamp}
use Rattle.sorted_file.proofs.lookup_key.LookupKey.stamp_from.Goals as goal

pub returns-then-stamp-lo-clause-none : goal.returns-then-stamp-lo-clause-none
returns-then-stamp-lo-clause-none c =
    let key = c.args.self.now in
    let stamp = c.in_ok-stamp.stamp in
    apart key c.key.ensures.limits c.args.lo stamp c.in_ok-stamp.ensures.small c.args.bytes.now (c.in_ok-stamp.ensures.some key c.text.ensures.text)
    (λ both.
    let low = both.0 in
    let high = both.1 in
    elim c.then-stamp-lo.branch [
      | then-stamp-lo-via-then-stamp-lo w ↦ (let below = w.if-stamp-lo.true in omega (arith, low, below))
      | then-stamp-lo-via-else-stamp-lo+then-last-stamp w ↦ (let above = subst (λ (k : CellKey). k.stamp < stamp) c.key.ensures.key w.if-last-stamp.true in omega (arith, high, above))
    ])
