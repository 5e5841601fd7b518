use Rattle.std.proofs.Common.{◌<◌, ◌≤◌, ◌^◌, ℕ, None, option_map, sym, subst, arith}
use Rattle.std.specs.Prelude.{IfSome, IsTrue}
use Rattle.cell_key.specs.Cells.{IsNewest, version}
use Rattle.cell_key.specs.Entries.{cells_of}
use Rattle.cell_key.specs.Versions.{stamped}
use Rattle.memtable.specs.Slots.{lent_version}
use Rattle.tablet.specs.Reads.{IsLater}
use Rattle.tablet.specs.Ranges.{has_row}
use Rattle.tablet.specs.Views.{range_of, memory_of, cells_at, Holds, IsSameTablet}
use Rattle.tablet.specs.declared.tablet.Tablet.{Tablet}
use Rattle.tablet.proofs.InMemory.{by_files, by_memory, later_still, with_equal}
use Rattle.tablet.proofs.tablet.Tablet.newest.Goals as goal

pub returns-then-not-may_be_in_files-clause-found : goal.returns-then-not-may_be_in_files-clause-found
returns-then-not-may_be_in_files-clause-found g c =
    let from = c.max-from.ensures in
    let to = c.min-to.ensures in
    let found = option_map lent_version c.newest-found.result in
    let after = later_still c.stamp_after.result c.max-from.result c.args.lo found (omega arith) c.stamp_after.ensures.after in
    let first : (s : ℕ) → 1 ≤ s → IsLater s c.args.lo found → c.max-from.result ≤ s = λ s one later. (let least = c.stamp_after.ensures.first s later in omega (arith, least, one)) in
    let last : (s : ℕ) → s < 2 ^ 63 → s ≤ c.args.hi → s ≤ c.min-to.result = λ s small high. omega (arith, small, high) in
    let none = c.may_be_in_files.ensures c.if-not-may_be_in_files.true in
    by_memory (g.F.Files.contents c.args.files.now) c.args.self.now c.args.row.now c.args.family.now c.args.qualifier c.args.lo c.args.hi found c.newest-found.ensures.found
    c.max-from.result c.min-to.result after first (omega arith) last c.in_ok-in_memory.in_memory c.in_ok-in_memory.ensures.copy none

pub returns-clause-found : goal.returns-clause-found
returns-clause-found g c =
    let from = c.max-from.ensures in
    let to = c.min-to.ensures in
    let found = option_map lent_version c.newest-found.result in
    let after = later_still c.stamp_after.result c.max-from.result c.args.lo found (omega arith) c.stamp_after.ensures.after in
    let first : (s : ℕ) → 1 ≤ s → IsLater s c.args.lo found → c.max-from.result ≤ s = λ s one later. (let least = c.stamp_after.ensures.first s later in omega (arith, least, one)) in
    let last : (s : ℕ) → s < 2 ^ 63 → s ≤ c.args.hi → s ≤ c.min-to.result = λ s small high. omega (arith, small, high) in
    let o = g.F.Files.contents c.args.files.now in
    let t = c.args.self.now in
    let at = version c.args.row.now c.args.family.now c.args.qualifier in
    let same = with_equal t c.newest-found.follows.lender-at-none c.newest-found.follows.holds-at-none in
    let later = subst (λ (t : Tablet). IfSome o (λ m. Holds m t → IsTrue (has_row (range_of t) c.args.row.now) → IsNewest (cells_of (memory_of t)) at c.max-from.result c.min-to.result None → IsNewest (cells_at m t) at c.max-from.result c.min-to.result (option_map stamped c.in_ok-later.later))) same c.in_ok-later.ensures.found in
    subst (λ (answer : _). IfSome o (λ m. Holds m t → IsTrue (has_row (range_of t) c.args.row.now) → IsNewest (cells_at m t) at c.args.lo c.args.hi (option_map stamped answer))) (sym c.or.ensures)
    (by_files o t c.args.row.now c.args.family.now c.args.qualifier c.args.lo c.args.hi found c.newest-found.ensures.found
    c.max-from.result c.min-to.result after first (omega arith) last c.in_ok-later.later c.in_ok-in_memory.in_memory c.in_ok-in_memory.ensures.copy later)

pub returns-in_err-later-clause-stays : goal.returns-in_err-later-clause-stays
returns-in_err-later-clause-stays g c =
    let o = g.F.Files.contents c.args.files.now in
    let t = c.args.self.now in
    let same = with_equal t c.newest-found.follows.lender-at-none c.newest-found.follows.holds-at-none in
    subst (λ (t : Tablet). IsSameTablet o t c.newest_in_files.new.self) same c.in_err-later.ensures.stays
