-- The cached number is the number of the row's tablet, and so is the number from the table.
use Rattle.std.proofs.Common.{◌≡◌, ◌+◌, ◌-◌, refl, sym, subst, ◌∙◌, arith}
use Rattle.metadata_table.specs.Places.{view_of}
use Rattle.row_atomic.specs.PlaceCaches.{AreHeld, IsHeldBy}
use Rattle.row_atomic.proofs.PlaceCaches.{found_held, held_added, held_number, held_promoted, only_held}
use Rattle.row_atomic.proofs.place_cache.index_of.Goals as goal
use Rattle.row_atomic.proofs.place_cache.index_of.Goals.{in-Some, in-None}

pub overflow_sub-result : goal.overflow_sub-result
overflow_sub-result c =
    let held : IsHeldBy c.args.table.now c.args.row.now c.match-find.number = elim c.match-find.branch [
      | in-Some w ↦ subst (IsHeldBy c.args.table.now c.args.row.now) (sym w.number-is) (found_held c.args.table.now c.args.row.now c.args.cache.now.numbers.entries w.in-Some.number c.requires (sym c.find.ensures.found ∙ w.in-Some.is))
      | in-None w ↦ record { place = view_of w.locate.result.now; holder = w.locate.ensures.holder; number = sym w.number-is }
    ] in
    held_number c.args.table.now c.args.row.now c.match-find.number c.len.ensures.table held

pub returns-clause-holder : goal.returns-clause-holder
returns-clause-holder c =
    let held : IsHeldBy c.args.table.now c.args.row.now c.match-find.number = elim c.match-find.branch [
      | in-Some w ↦ subst (IsHeldBy c.args.table.now c.args.row.now) (sym w.number-is) (found_held c.args.table.now c.args.row.now c.args.cache.now.numbers.entries w.in-Some.number c.requires (sym c.find.ensures.found ∙ w.in-Some.is))
      | in-None w ↦ record { place = view_of w.locate.result.now; holder = w.locate.ensures.holder; number = sym w.number-is }
    ] in
    let from = held_number c.args.table.now c.args.row.now c.match-find.number c.len.ensures.table held in
    let same : c.match-find.number ≡ c.match-find.number - 1 + 1 = omega arith in
    subst (IsHeldBy c.args.table.now c.args.row.now) same held

pub returns-clause-right : goal.returns-clause-right
returns-clause-right c =
    elim c.match-find.branch [
      | in-Some w ↦ subst (λ cache. AreHeld c.args.table.now cache.numbers.entries) (sym w.cache-is)
          (subst (AreHeld c.args.table.now) (sym c.find.ensures.first) (held_promoted c.args.table.now c.args.row.now c.args.cache.now.numbers.entries c.requires))
      | in-None w ↦ subst (λ cache. AreHeld c.args.table.now cache.numbers.entries) (sym w.cache-is)
          (held_added c.args.table.now c.args.row.now w.locate.result.now.tablet c.find.new.self.numbers.entries w.keep.new.self.numbers.entries
          (subst (AreHeld c.args.table.now) (sym c.find.ensures.first) (held_promoted c.args.table.now c.args.row.now c.args.cache.now.numbers.entries c.requires))
          (record { place = view_of w.locate.result.now; holder = w.locate.ensures.holder; number = refl }) w.keep.ensures.adds)
    ]

pub returns-then-len-eq1-clause-holder : goal.returns-then-len-eq1-clause-holder
returns-then-len-eq1-clause-holder c = only_held c.args.table.now c.args.row.now c.len.ensures.table (sym c.len.ensures.len ∙ c.if-len-eq1.true)
