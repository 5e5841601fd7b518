use Rattle.std.proofs.Common.{ℕ, List, map, subst}
use Rattle.cell_key.specs.declared.keys.CellKey.{CellKey}
use Rattle.cell_key.specs.Keys.{text}
use Rattle.sorted_file.specs.LockIndexes.{stamp_of}
use Rattle.sorted_file.specs.LockStamps.{IsLatest}
use Rattle.sorted_file.specs.Numbers.{number_of}
use Rattle.sorted_file.proofs.LockIndexes.{latest_among, none_later}
use Rattle.sorted_file.proofs.lock_index.LockIndex.latest.Goals as goal

pub returns-clause-latest : goal.returns-clause-latest
returns-clause-latest c =
    let found = c.latest.result in
    let column = number_of (text c.args.key.now) in
    let hi = c.args.key.now.stamp in
    let stamps = c.self.inside.stamps in
    let asked = subst (λ (n : ℕ). IsLatest stamps n c.args.lo hi found) c.column_number.ensures (subst (λ (k : CellKey). IsLatest stamps c.column_number.result c.args.lo k.stamp found) c.key.ensures.key c.latest.ensures) in
    subst (λ (l : List CellKey). IsLatest (map stamp_of l) column c.args.lo hi found) c.self.view_is
    (latest_among stamps (map stamp_of c.self.inside.values.items) column c.args.lo hi found c.self.invariant.1 c.self.invariant.0 asked)

pub returns-clause-none : goal.returns-clause-none
returns-clause-none c = none_later c.args.self.now c.args.key.now c.args.lo c.latest.result (returns-clause-latest c)
