use Rattle.std.proofs.Common.{◌≡◌, ◌-◌, ◌++◌, ◌∷◌, ◌∙◌, [], ℕ, List, Some, length, map, ap, sym, subst, arith}
use Rattle.std.proofs.lemmas.List.{length-append, map-append}
use Rattle.std.specs.Global.{Global}
use Rattle.std.specs.List.{AllByRecursion}
use Rattle.std.specs.declared.vec.Vec.{Vec}
use Rattle.cell_key.specs.Cells.{IsNewest, version}
use Rattle.cell_key.specs.Versions.{IsVersion, stamped}
use Rattle.rows.specs.Slots.{slot_cells}
use Rattle.rows.proofs.PushedLists.{each_push}
use Rattle.rows.proofs.Halves.{at_none, at_some}
use Rattle.rows.proofs.Limits.{answered}
use Rattle.rows.proofs.NewestLists.{AreFollowed, newest_end, newest_more}
use Rattle.rows.proofs.slots.versions.Goals as goal

pub wanted-init : goal.wanted-init
wanted-init c =
    let none = c.new-found.ensures.items in
    let cells = slot_cells c.args.slots.now.entries in
    let at = version c.args.row.now c.args.family.now c.args.qualifier in
    let all : c.args.most ≡ c.args.most - 0 = omega arith in
    record {
      few = omega (arith, ap length none);
      limits = subst (AllByRecursion (λ version. IsVersion version.0 version.1.items)) (sym none) tt;
      newest = subst (λ (xs : List (ℕ × Vec ℕ Global)). AreFollowed cells at c.args.hi c.args.most c.args.hi (c.args.most - length xs) (map stamped xs)) (sym none)
          (subst (λ (n : ℕ). AreFollowed cells at c.args.hi c.args.most c.args.hi n []) all (λ rest newest. newest));
    }

pub wanted-preserved : goal.wanted-preserved
wanted-preserved c =
    let i = c.wanted.invariant in
    let cells = slot_cells c.args.slots.now.entries in
    let at = version c.args.row.now c.args.family.now c.args.qualifier in
    let found = c.wanted.found.items in
    let newest = at_some (IsNewest cells at 0 c.wanted.last) c.in_ok-stamp.field-0 (c.in-Some.stamp, c.in-Some.value) c.in-Some.is c.in_ok-stamp.ensures in
    let is = answered cells c.args.row.now c.args.family.now c.args.qualifier 0 c.wanted.last (Some (c.in-Some.stamp, c.in-Some.value.items)) c.requires.limits newest in
    let items : c.push.new.self.items ≡ found ++ (c.in-Some.stamp, c.in-Some.value) ∷ [] = c.in_ok-push.ensures.items in
    let grown = ap length items ∙ length-append found ((c.in-Some.stamp, c.in-Some.value) ∷ []) in
    let fewer : c.args.most - length found - 1 ≡ c.args.most - length c.push.new.self.items = omega (arith, grown) in
    record {
      few = omega (arith, grown, c.wanted-test.true, c.len.ensures, c.wanted.found.ok.0);
      limits = subst (AllByRecursion (λ version. IsVersion version.0 version.1.items)) (sym items) (each_push _ found (c.in-Some.stamp, c.in-Some.value) i.limits is.limits);
      newest = subst (λ (n : ℕ). AreFollowed cells at c.args.hi c.args.most (c.in-Some.stamp - 1) n (map stamped c.push.new.self.items)) fewer
          (newest_more cells at c.args.hi c.args.most c.wanted.last (c.args.most - length found) c.in-Some.stamp c.in-Some.value.items (map stamped found) (map stamped c.push.new.self.items)
          i.newest (omega (arith, c.wanted-test.true, c.len.ensures, c.wanted.found.ok.0)) newest is.limits.from (ap (map stamped) items ∙ map-append stamped found ((c.in-Some.stamp, c.in-Some.value) ∷ [])));
    }

pub returns-in_default-clause-found : goal.returns-in_default-clause-found
returns-in_default-clause-found c =
    let cells = slot_cells c.args.slots.now.entries in
    let at = version c.args.row.now c.args.family.now c.args.qualifier in
    newest_end cells at c.args.hi c.args.most c.wanted.last (c.args.most - length c.wanted.found.items) (map stamped c.wanted.found.items) c.wanted.invariant.newest
    (λ wanted. at_none (IsNewest cells at 0 c.wanted.last) c.in_ok-stamp.field-0 c.in_default.is c.in_ok-stamp.ensures)

pub returns-clause-found : goal.returns-clause-found
returns-clause-found c =
    let cells = slot_cells c.args.slots.now.entries in
    let at = version c.args.row.now c.args.family.now c.args.qualifier in
    newest_end cells at c.args.hi c.args.most c.wanted.last (c.args.most - length c.wanted.found.items) (map stamped c.wanted.found.items) c.wanted.invariant.newest
    (λ wanted. absurd (omega (arith, wanted, c.wanted-test.false, c.len.ensures, c.wanted.found.ok.0)))
