use Rattle.std.proofs.Common.{◌≡◌, ◌≤◌, ◌<◌, ◌-◌, ◌+◌, ◌++◌, ◌∷◌, ◌∙◌, [], ℕ, List, None, Option, Some, length, map, ap, refl, sym, subst, arith}
use Rattle.std.proofs.lemmas.List.{length-append, map-append}
use Rattle.std.specs.Global.{Global}
use Rattle.std.specs.List.{AllByRecursion}
use Rattle.std.specs.Prelude.{IfSome}
use Rattle.std.specs.declared.vec.Vec.{Vec}
use Rattle.cell_key.specs.Cells.{Cells, IsNewest}
use Rattle.cell_key.specs.Versions.{IsVersion, IsVersionIn, stamped}
use Rattle.cell_key.specs.declared.keys.Qualifier.TheVariants.{Write}
use Rattle.cell_key.specs.declared.refusals.Refusal.TheVariants.{Device}
use Rattle.cell_key.proofs.Reasons.{not_refused}
use Rattle.rows.proofs.PushedLists.{each_push}
use Rattle.rows.proofs.Calls.{reads_none, reads_then}
use Rattle.rows.proofs.Halves.{at_none, at_some}
use Rattle.rows.proofs.NewestLists.{AreFollowed, newest_end, newest_more}
use Rattle.si_model.specs.ShowsCells.{key_of}
use Rattle.version_collector.proofs.versions.look_up_records.Goals as goal

pub records-init : goal.records-init
records-init g c =
    let none = c.new-found.ensures.items in
    let cells = g.R.Rows.seen.cells c.args.rows.now in
    let at = key_of c.args.cell.now Write in
    let all : 32 ≡ 32 - 0 = omega arith in
    record {
      reads = reads_none;
      faults = refl;
      few = omega (arith, ap (λ (vs : List (ℕ × Vec ℕ Global)). length vs) none);
      limits = subst (AllByRecursion (λ (version : ℕ × Vec ℕ Global). IsVersion version.0 version.1.items)) (sym none) tt;
      newest = λ held. subst (λ (vs : List (ℕ × Vec ℕ Global)). AreFollowed cells at c.args.hi 32 c.args.hi (32 - length vs) (map stamped vs)) (sym none)
          (subst (λ (n : ℕ). AreFollowed cells at c.args.hi 32 c.args.hi n []) all (λ rest newest. newest));
    }

pub returns-in_default-clause-found : goal.returns-in_default-clause-found
returns-in_default-clause-found g c = λ held.
    let cells = g.R.Rows.seen.cells c.args.rows.now in
    let at = key_of c.args.cell.now Write in
    let i = c.records.invariant in
    newest_end cells at c.args.hi 32 c.records.last (32 - length c.records.found.items) (map stamped c.records.found.items) (i.newest held)
    (λ wanted. subst (λ (cs : Cells). IsNewest cs at 0 c.records.last None) i.reads.kept (at_none (IsNewest (g.R.Rows.seen.cells c.records.rows) at 0 c.records.last) c.in_ok-next.next c.in_default.is (c.in_ok-next.ensures.found (i.reads.readable c.args.cell.now.row held))))

pub records-preserved : goal.records-preserved
records-preserved g c =
    let i = c.records.invariant in
    let cells = g.R.Rows.seen.cells c.args.rows.now in
    let at = key_of c.args.cell.now Write in
    let found : List (ℕ × Vec ℕ Global) = c.records.found.items in
    let v : ℕ × Vec ℕ Global = (c.in-Some.commit, c.in-Some.text) in
    let items : c.push.new.self.items ≡ found ++ v ∷ [] = c.in_ok-push.ensures.items in
    let grown : length c.push.new.self.items ≡ length found + 1 = ap (λ (vs : List (ℕ × Vec ℕ Global)). length vs) items ∙ length-append found (v ∷ []) in
    let less : length found < 32 = omega (arith, c.records-test.true, c.len.ensures, c.records.found.ok.0) in
    let is = at_some (λ (f : Option (ℕ × List ℕ)). IfSome f (IsVersionIn 0 c.records.last)) c.in_ok-next.next v c.in-Some.is c.in_ok-next.ensures.limits in
    let fewer : 32 - length found - 1 ≡ 32 - length c.push.new.self.items = omega (arith, grown) in
    record {
      reads = reads_then i.reads c.in_ok-next.ensures.reads;
      faults = c.in_ok-next.ensures.reason.told (not_refused _ Device) ∙ i.faults;
      few = omega (arith, grown, less);
      limits = subst (AllByRecursion (λ (version : ℕ × Vec ℕ Global). IsVersion version.0 version.1.items)) (sym items) (each_push _ found v i.limits is.limits);
      newest = λ held.
          let newest = subst (λ (cs : Cells). IsNewest cs at 0 c.records.last (Some (stamped v))) i.reads.kept (at_some (IsNewest (g.R.Rows.seen.cells c.records.rows) at 0 c.records.last) c.in_ok-next.next v c.in-Some.is (c.in_ok-next.ensures.found (i.reads.readable c.args.cell.now.row held))) in
          subst (λ (n : ℕ). AreFollowed cells at c.args.hi 32 (c.in-Some.commit - 1) n (map stamped c.push.new.self.items)) fewer
          (newest_more cells at c.args.hi 32 c.records.last (32 - length found) c.in-Some.commit c.in-Some.text.items (map stamped found) (map stamped c.push.new.self.items)
          (i.newest held) (omega (arith, less)) newest is.limits.from (ap (map stamped) items ∙ map-append stamped found (v ∷ [])));
    }

pub returns-clause-found : goal.returns-clause-found
returns-clause-found g c = λ held.
    let full : 32 ≤ length c.records.found.items = omega (arith, c.records-test.false, c.len.ensures, c.records.found.ok.0) in
    newest_end (g.R.Rows.seen.cells c.args.rows.now) (key_of c.args.cell.now Write) c.args.hi 32 c.records.last (32 - length c.records.found.items) (map stamped c.records.found.items) (c.records.invariant.newest held)
    (λ wanted. absurd (omega (arith, wanted, full)))
