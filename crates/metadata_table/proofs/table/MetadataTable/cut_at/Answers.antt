use Rattle.std.proofs.Common.{◌≡◌, ◌+◌, List, length, subst, sym, ap, arith}
use Rattle.metadata_table.specs.Places.{PlaceView, views}
use Rattle.metadata_table.specs.Table.{BarsSplit, Cuts}
use Rattle.metadata_table.proofs.Tables.{split}
use Rattle.metadata_table.proofs.table.MetadataTable.cut_at.Goals as goal

pub invariant_of-self-2 : goal.invariant_of-self-2
invariant_of-self-2 c =
    let xs = c.self.inside.places.items in
    let row = c.args.row.now in
    let bars = subst (λ (qs : List PlaceView). BarsSplit row qs → ⊥) (sym c.self.view_is) c.requires.free in
    let held = rw c.deref.ensures.value at c.by_row-position.ensures.holder in
    let next : c.len.result + 1 ≡ length (views xs) + 1 = omega (arith, c.len.ensures.len, ap length c.self.view_is) in
    (split row (c.len.result + 1) xs c.insert.new.self.items c.by_row-position.result c.in_ok-part.part c.index.result.now c.self.invariant bars next held c.index.ensures c.in_ok-part.ensures c.in_ok-insert.ensures.items).1

pub returns-clause-cut : goal.returns-clause-cut
returns-clause-cut c =
    let xs = c.self.inside.places.items in
    let row = c.args.row.now in
    let bars = subst (λ (qs : List PlaceView). BarsSplit row qs → ⊥) (sym c.self.view_is) c.requires.free in
    let held = rw c.deref.ensures.value at c.by_row-position.ensures.holder in
    let next : c.len.result + 1 ≡ length (views xs) + 1 = omega (arith, c.len.ensures.len, ap length c.self.view_is) in
    subst (λ (qs : List PlaceView). Cuts row (c.len.result + 1) qs (views c.insert.new.self.items)) c.self.view_is
    (split row (c.len.result + 1) xs c.insert.new.self.items c.by_row-position.result c.in_ok-part.part c.index.result.now c.self.invariant bars next held c.index.ensures c.in_ok-part.ensures c.in_ok-insert.ensures.items).0
