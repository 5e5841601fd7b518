use Rattle.std.proofs.Common.{◌≡◌, ◌≤◌, ◌+◌, ◌-◌, ℕ, List, Option, map, option_map, arith, ap, subst, sym, ◌∙◌, None, Some}
use Rattle.std.specs.Prelude.{IfSome, IsTrue}
use Rattle.cell_key.specs.Cells.{IsNewest, version}
use Rattle.cell_key.specs.Entries.{cells_of}
use Rattle.cell_key.specs.Versions.{stamped}
use Rattle.std.specs.FinMap.{get}
use Rattle.cell_key.specs.declared.keys.CellKey.{CellKey}
use Rattle.file_store.specs.Store.{Contents}
use Rattle.sorted_file.specs.File.{listed}
use Rattle.sorted_file.specs.Newest.{at_stamp}
use Rattle.tablet.specs.Ranges.{has_row}
use Rattle.tablet.specs.Reads.{HasNoLater, IsNextVersion}
use Rattle.tablet.specs.Views.{cells_at, files_of, memory_of, range_of, Holds}
use Rattle.tablet.specs.declared.tablet.Tablet.{Tablet}
use Rattle.tablet.proofs.Lookups.{if_one, ok_map}
use Rattle.cell_key.specs.declared.refusals.Refusal.TheVariants.{Device}
use Rattle.tablet.proofs.Newer.{hidden, newest_below, none_after, none_left, over_now, same_after_tablet, shows}
use Rattle.tablet.proofs.Passed.{not_err}
use Rattle.tablet.proofs.tablet.Tablet.newest_in_files.Goals as goal

-- a fact about a key holds for an equal one
same_next : (o : Option Contents) (u : Tablet) (lo : ℕ) (found : Option (ℕ × Option (List ℕ))) (key other : CellKey) → key ≡ other → IfSome o (λ m. Holds m u → IsNextVersion m u key lo found)
    → IfSome o (λ m. Holds m u → IsNextVersion m u other lo found)
same_next o u lo found key other e h = subst (λ (k : CellKey). IfSome o (λ m. Holds m u → IsNextVersion m u k lo found)) e h

later_of : (o : Option Contents) (u : Tablet) (key : CellKey) (lo : ℕ) (found : Option (ℕ × Option (List ℕ))) → IfSome o (λ m. Holds m u → IsNextVersion m u key lo found)
    → IfSome o (λ m. Holds m u → HasNoLater key lo (option_map (λ next. next.0) found) (map (listed m) (files_of u)))
later_of o u key lo found h = if_one o h (λ m next held. (next held).later)

here_of : (o : Option Contents) (u : Tablet) (key : CellKey) (lo : ℕ) (found : ℕ × Option (List ℕ)) → IfSome o (λ m. Holds m u → IsNextVersion m u key lo (Some found))
    → IfSome o (λ m. Holds m u → IsTrue (has_row (range_of u) key.row) → get (cells_of (memory_of u)) (at_stamp key found.0) ≡ None → IsNewest (cells_at m u) (at_stamp key) found.0 found.0 (option_map (λ value. (found.0, value)) found.1))
here_of o u key lo found h = if_one o h (λ m next held. (next held).here)

same_one : (o : Option Contents) (u : Tablet) (found : Option (ℕ × List ℕ)) (key other : CellKey) → key ≡ other
    → IfSome o (λ m. Holds m u → IsTrue (has_row (range_of u) key.row) → IsNewest (cells_at m u) (at_stamp key) key.stamp key.stamp found)
    → IfSome o (λ m. Holds m u → IsTrue (has_row (range_of u) other.row) → IsNewest (cells_at m u) (at_stamp other) other.stamp other.stamp found)
same_one o u found key other e h =
    subst (λ (k : CellKey). IfSome o (λ m. Holds m u → IsTrue (has_row (range_of u) k.row) → IsNewest (cells_at m u) (at_stamp k) k.stamp k.stamp found)) e h

-- the range has only one stamp
pub returns-then-lo-hi-clause-found : goal.returns-then-lo-hi-clause-found
returns-then-lo-hi-clause-found g c =
    let o = g.F.Files.contents c.args.files.now in
    let t = c.args.self.now in
    let at = version c.args.row.now c.args.family.now c.args.qualifier in
    let lo = c.args.lo in
    let hi = c.args.hi in
    let named : c.in_ok-key.key ≡ at hi = c.in_ok-key.ensures.key ∙ c.in_ok-last.ensures.key in
    let one : lo ≡ hi = c.if-lo-hi.true in
    ok_map c.version_at.result c.version_at.ensures.found (λ found h.
    if_one o (same_one o t (option_map stamped found) c.in_ok-key.key (at hi) named h) (λ m finds held has memory.
    subst (λ (least : ℕ). IsNewest (cells_at m t) at least hi (option_map stamped found)) (sym one) (finds held has)))

pub returns-in-Some-value-clause-found : goal.returns-in-Some-value-clause-found
returns-in-Some-value-clause-found g c =
    let o = g.F.Files.contents c.args.files.now in
    let i = c.hidden.invariant in
    let t = c.args.self.now in
    let now = g.F.Files.contents c.hidden.files in
    let at = version c.args.row.now c.args.family.now c.args.qualifier in
    let stamp = c.in-Some.stamp in
    let next = same_next now c.hidden.self c.args.lo (Some (stamp, Some c.in-Some-value.value.items)) c.hidden.key (at c.hidden.key.stamp) i.key
    (rw c.in-Some-value.is at (rw c.in-Some.is at c.in_ok-stamp.ensures.found)) in
    let within = rw c.in-Some.is at c.in_ok-stamp.ensures.within in
    let high : stamp ≤ c.args.hi = (let a = within.1 in let b = i.high in omega (arith, a, b)) in
    let after = none_after o t c.args.row.now c.args.family.now c.args.qualifier c.args.lo c.args.hi now c.hidden.self i.same i.stays c.hidden.key.stamp (Some stamp) i.told
    (later_of now c.hidden.self (at c.hidden.key.stamp) c.args.lo (Some (stamp, Some c.in-Some-value.value.items)) next) in
    shows o t c.args.row.now c.args.family.now c.args.qualifier c.args.lo c.args.hi now c.hidden.self i.same i.stays stamp within.0 high after (stamp, c.in-Some-value.value.items)
    (here_of now c.hidden.self (at c.hidden.key.stamp) c.args.lo (stamp, Some c.in-Some-value.value.items) next)

pub hidden-preserved : goal.hidden-preserved
hidden-preserved g c =
    let o = g.F.Files.contents c.args.files.now in
    let i = c.hidden.invariant in
    let t = c.args.self.now in
    let now = g.F.Files.contents c.hidden.files in
    let at = version c.args.row.now c.args.family.now c.args.qualifier in
    let stamp = c.in-Some.stamp in
    let next = same_next now c.hidden.self c.args.lo (Some (stamp, None)) c.hidden.key (at c.hidden.key.stamp) i.key (rw c.in_default-value.is at (rw c.in-Some.is at c.in_ok-stamp.ensures.found)) in
    let within = rw c.in-Some.is at c.in_ok-stamp.ensures.within in
    let low : c.args.lo ≤ stamp = within.0 in
    let high : stamp ≤ c.args.hi = (let a = within.1 in let b = i.high in omega (arith, a, b)) in
    let named = rw c.in-Some.is at c.in_ok-stamp.ensures.key ∙ ap (λ (k : CellKey). at_stamp k stamp) i.key in
    let last = ap (λ (k : CellKey). k.stamp) c.set_stamp.ensures in
    let one : c.set_stamp.new.self.stamp + 1 ≡ stamp = (let a = c.requires.from in omega (arith, a, low, last)) in
    let after = none_after o t c.args.row.now c.args.family.now c.args.qualifier c.args.lo c.args.hi now c.hidden.self i.same i.stays c.hidden.key.stamp (Some stamp) i.told
    (later_of now c.hidden.self (at c.hidden.key.stamp) c.args.lo (Some (stamp, None)) next) in
    record {
      same = c.next_version.ensures.reads.files.same ∙ i.same;
      quiet = c.in_ok-stamp.ensures.reads.files.reason.told (not_err _ Device) ∙ i.quiet;
      high = omega (arith, high, one);
      stays = same_after_tablet o t c.hidden.self c.next_version.new.self i.stays (over_now o now c.hidden.self c.next_version.new.self i.same c.next_version.ensures.stays);
      told = hidden o t c.args.row.now c.args.family.now c.args.qualifier c.args.lo c.args.hi now c.hidden.self i.same i.stays stamp low high after c.set_stamp.new.self.stamp one
          (here_of now c.hidden.self (at c.hidden.key.stamp) c.args.lo (stamp, None) next);
      key = c.set_stamp.ensures ∙ ap (λ (k : CellKey). at_stamp k (stamp - 1)) named ∙ ap at (sym last);
    }

pub returns-in_default-clause-found : goal.returns-in_default-clause-found
returns-in_default-clause-found g c =
    let o = g.F.Files.contents c.args.files.now in
    let i = c.hidden.invariant in
    let now = g.F.Files.contents c.hidden.files in
    let at = version c.args.row.now c.args.family.now c.args.qualifier in
    let next = same_next now c.hidden.self c.args.lo None c.hidden.key (at c.hidden.key.stamp) i.key (rw c.in_default.is at c.in_ok-stamp.ensures.found) in
    none_left o c.args.self.now c.args.row.now c.args.family.now c.args.qualifier c.args.lo c.args.hi
    (none_after o c.args.self.now c.args.row.now c.args.family.now c.args.qualifier c.args.lo c.args.hi now c.hidden.self i.same i.stays c.hidden.key.stamp None i.told
    (later_of now c.hidden.self (at c.hidden.key.stamp) c.args.lo None next))

pub returns-in_err-stamp-clause-stays : goal.returns-in_err-stamp-clause-stays
returns-in_err-stamp-clause-stays g c =
    let o = g.F.Files.contents c.args.files.now in
    let i = c.hidden.invariant in
    same_after_tablet o c.args.self.now c.hidden.self c.next_version.new.self i.stays (over_now o (g.F.Files.contents c.hidden.files) c.hidden.self c.next_version.new.self i.same c.next_version.ensures.stays)

pub returns-in-Some-value-clause-stays : goal.returns-in-Some-value-clause-stays
returns-in-Some-value-clause-stays g c =
    let o = g.F.Files.contents c.args.files.now in
    let i = c.hidden.invariant in
    same_after_tablet o c.args.self.now c.hidden.self c.next_version.new.self i.stays (over_now o (g.F.Files.contents c.hidden.files) c.hidden.self c.next_version.new.self i.same c.next_version.ensures.stays)

pub returns-in_default-clause-stays : goal.returns-in_default-clause-stays
returns-in_default-clause-stays g c =
    let o = g.F.Files.contents c.args.files.now in
    let i = c.hidden.invariant in
    same_after_tablet o c.args.self.now c.hidden.self c.next_version.new.self i.stays (over_now o (g.F.Files.contents c.hidden.files) c.hidden.self c.next_version.new.self i.same c.next_version.ensures.stays)

-- the remaining versions are skipped together
pub returns-clause-found : goal.returns-clause-found
returns-clause-found g c =
    let o = g.F.Files.contents c.args.files.now in
    let i = c.hidden.invariant in
    let t = c.args.self.now in
    let row = c.args.row.now in
    let family = c.args.family.now in
    let below = c.hidden.key.stamp in
    ok_map c.newest_by_pass.result c.newest_by_pass.ensures.found (λ found h. newest_below o t row family c.args.qualifier c.args.lo c.args.hi (g.F.Files.contents c.hidden.files) c.hidden.self i.same i.stays below i.high i.told (option_map stamped found)
    (subst (λ (n : ℕ). IfSome (g.F.Files.contents c.hidden.files) (λ m. Holds m c.hidden.self → IsTrue (has_row (range_of c.hidden.self) row) → IsNewest (cells_at m c.hidden.self) (version row family c.args.qualifier) c.args.lo n (option_map stamped found))) (ap (λ (k : CellKey). k.stamp) c.key-3.ensures.key) h))
