-- Places are skipped, or their tablets are asked for the cells still missing.
use Rattle.std.proofs.Common.{◌≡◌, ◌<◌, ◌+◌, ◌-◌, ◌++◌, ◌∷◌, ℕ, List, ◌∙◌, None, Some, Option, IfSome, IsErrOf, drop, inl, inr, length, refl, suc, take, ap, sym, subst, option_map, arith}
use Rattle.std.proofs.lemmas.List.{length-append}
use Rattle.std.proofs.lemmas.Result.{err_from_is_err_and}
use Rattle.cell_key.specs.Places.{AreNextCells, IsNextCell, last_or, place_named}
use Rattle.cell_key.specs.declared.refusals.Refusal.TheVariants.{Damaged}
use Rattle.file_store.specs.Store.{Contents}
use Rattle.metadata_table.specs.Places.{PlaceView, view_of, views}
use Rattle.metadata_table.specs.Table.{IsTable}
use Rattle.tablet.specs.Views.{Holds, cells_at}
use Rattle.tablet.specs.declared.tablet.Tablet.{Tablet}
use Rattle.row_atomic.specs.Changes.{IsOutOfOrder, Passes}
use Rattle.row_atomic.specs.Clusters.{ArePlaced, PrecedesCell, cells_in, tablet_numbered}
use Rattle.row_atomic.proofs.PassedRefusals.{not_both}
use Rattle.row_atomic.proofs.Shares.{at_told, each_map}
use Rattle.row_atomic.proofs.Scans.{at_item, parted_at, passed_more, place_numbered, scan_ends, scan_goes_on, scan_skips}
use Rattle.row_atomic.proofs.ManyNexts.{HasScanned, asked_begins, asked_ended, asked_next, asked_passed, asked_passes, begin_fewer, dropped_at, later_none, passes_more}
use Rattle.rows.proofs.NextLists.{next_all}
use Rattle.row_atomic.proofs.Nexts.{NoneAfter}
use Rattle.row_atomic.proofs.cluster.row_calls.next_cells_in.Goals as goal
use Rattle.row_atomic.proofs.cluster.row_calls.next_cells_in.Goals.{then-len-most+then-not-precedes+in_ok-more+in_ok-append, else-len-most, else-len-most-via-then-len-most+else-not-precedes, else-len-most-via-else-len-most}

pub overflow_sub-tablet : goal.overflow_sub-tablet
overflow_sub-tablet g c = (place_numbered c.args.tablets.now c.args.places.now c.loop-place.place-index c.place-item.result c.requires.placed c.loop-place-test.true c.place-item.is).from

pub bounds-tablets-place : goal.bounds-tablets-place
bounds-tablets-place g c = (place_numbered c.args.tablets.now c.args.places.now c.loop-place.place-index c.place-item.result c.requires.placed c.loop-place-test.true c.place-item.is).below

pub returns-clause-found : goal.returns-clause-found
returns-clause-found g c = λ m told open_there.
    let i = c.loop-place.invariant in
    let found = c.loop-place.found.items in
    let start = option_map place_named c.args.after in
    let s = i.told m told open_there in
    next_all (IsNextCell (cells_in (Some m) c.args.tablets.now)) (length found) c.args.most start found refl i.few s.next
    (λ wanted. scan_ends m c.args.tablets.now c.args.places.now (last_or start found) c.requires.placed c.requires.table c.requires.as_many c.loop-place.place-index c.loop-place-test.false (s.passed (omega (arith, wanted))))

pub returns-in_err-more-clause-meets : goal.returns-in_err-more-clause-meets
returns-in_err-more-clause-meets g c =
    let p = err_from_is_err_and c.from_residual.result c.from_residual.ensures.1 in
    let t = c.index-tablets-place.result in
    let number = place_numbered c.args.tablets.now c.args.places.now c.loop-place.place-index c.place-item.result c.requires.placed c.loop-place-test.true c.place-item.is in
    let numbered = number.there t ∙ ap Some (sym c.index-tablets-place.is) in
    let fewer : length c.loop-place.found.items < c.args.most = omega (arith, c.if-len-most.true, c.len.ensures, c.loop-place.found.ok.0) in
    λ damaged.
    let e : IsErrOf c.next_cells.result Damaged = cc (p.1, p.2, c.in_err-more.was, damaged) in
    record {
      before = views (take c.loop-place.place-index c.args.places.now);
      place = view_of c.place-item.result;
      rest = views (drop (suc c.loop-place.place-index) c.args.places.now);
      parts = parted_at c.args.places.now c.loop-place.place-index c.place-item.result c.loop-place-test.true c.place-item.is;
      found = c.loop-place.found.items;
      few = fewer;
      passed = c.loop-place.invariant.left fewer;
      within = λ low. not_both _ (c.precedes.ensures.1 low) c.if-not-precedes.true;
      out = record { tablet = t; numbered = numbered; such = subst (λ disk. IsOutOfOrder disk t) c.loop-place.invariant.same (c.next_cells.ensures.reads.damaged e) };
    }

pub loop-place-preserved : goal.loop-place-preserved
loop-place-preserved g c =
    let i = c.loop-place.invariant in
    let disk = g.F.Files.contents c.args.files.now in
    let ts = c.args.tablets.now in
    let places = c.args.places.now in
    let at = c.loop-place.place-index in
    let p = c.place-item.result in
    let start = option_map place_named c.args.after in
    let most = c.args.most in
    let found = c.loop-place.found.items in
    let within = c.loop-place-test.true in
    let is = c.place-item.is in
    let left = dropped_at places at p within is in
    elim c.if-len-most.branch [
      | then-len-most+then-not-precedes+in_ok-more+in_ok-append w ↦
          let t = w.index-tablets-place.result in
          let more = w.in_ok-more.more.items in
          let number = place_numbered ts places at p c.requires.placed within is in
          let numbered = number.there t ∙ ap Some (sym w.index-tablets-place.is) in
          let fewer : length found < most = omega (arith, w.if-len-most.true, c.len.ensures, c.loop-place.found.ok.0) in
          let asked : w.len-then-not-precedes.result ≡ length found = omega (arith, w.len-then-not-precedes.ensures, c.loop-place.found.ok.0) in
          let items : w.append.new.self.items ≡ found ++ more = w.in_ok-append.ensures.items in
          let plus : suc at ≡ at + 1 = omega arith in
          let whole = subst (λ (n : ℕ). views places ≡ views (take at places) ++ view_of p ∷ views (drop n places)) plus (parted_at places at p within is) in
          let found_more = subst (λ (n : ℕ). IfSome disk (λ m. Holds m t → AreNextCells (cells_at m t) start (most - n) more)) asked
          (subst (λ (o : Option Contents). IfSome o (λ m. Holds m t → AreNextCells (cells_at m t) start (most - w.len-then-not-precedes.result) more)) i.same w.in_ok-more.ensures.found) in
          let few = w.in_ok-more.ensures.few in
          let sum = length-append found more in
          rw w.files-is (rw w.found-is (rw items (record {
            same = w.next_cells.ensures.reads.files.same ∙ i.same;
            quiet = w.in_ok-more.ensures.reads.files.reason.told (λ e. cc) ∙ i.quiet;
            few = omega (arith, few, sum, asked, fewer);
            told = λ m told open_there.
                let open_t = at_item (λ q. ¬ PrecedesCell q start → (v : Tablet) → tablet_numbered q.tablet ts ≡ Some v → Holds m v) places at p open_there within is
                (λ low. not_both _ (w.precedes.ensures.1 low) w.if-not-precedes.true) t numbered in
                let next = at_told (λ m. Holds m t → AreNextCells (cells_at m t) start (most - length found) more) disk m told found_more open_t in
                let s = subst (λ (rest : List PlaceView). HasScanned m ts start most found (views (take at places)) rest) left (i.told m told open_there) in
                let table = subst IsTable whole c.requires.table in
                let as_many = subst (λ (ps : List PlaceView). length ts ≡ length ps) whole c.requires.as_many in
                let placed = subst (λ (ps : List PlaceView). ArePlaced ts None ps) whole c.requires.placed in
                record {
                  next = asked_next m ts (views (take at places)) (view_of p) (views (drop (at + 1) places)) t table as_many placed numbered start most found more fewer s next;
                  begins = asked_begins m ts (views (take at places)) (view_of p) (views (drop (at + 1) places)) t table as_many placed numbered start most found more fewer s next;
                  passed = λ wanted. passed_more (NoneAfter m ts (last_or start (found ++ more))) places at p within is
                      (asked_passed m ts (views (take at places)) (view_of p) (views (drop (at + 1) places)) t table as_many placed numbered start most found more fewer s next)
                      (scan_goes_on m ts places (last_or start (found ++ more)) c.requires.placed (view_of p) t numbered
                      (asked_ended m ts (views (take at places)) (view_of p) (views (drop (at + 1) places)) t table as_many placed numbered start most found more fewer s next wanted));
                };
            left = λ wanted. passed_more (Passes disk ts start (found ++ more)) places at p within is
                (each_map (Passes disk ts start found) (Passes disk ts start (found ++ more)) (λ q one. passes_more disk ts start found more q one) (views (take at places)) (i.left fewer))
                (inr (record { tablet = t; numbered = numbered; such = asked_passes disk start found more t (most - length found) found_more (omega (arith, wanted, sum)) }));
          })))
      | else-len-most w ↦
          let low : length found < most → PrecedesCell (view_of p) start = λ few. elim w.else-len-most.branch [
            | else-len-most-via-then-len-most+else-not-precedes w' ↦ w'.precedes.ensures.0 w'.if-not-precedes.false
            | else-len-most-via-else-len-most w' ↦ absurd (omega (arith, few, w'.if-len-most.false, c.len.ensures, c.loop-place.found.ok.0))
          ] in
          rw w.files-is (rw w.found-is (record {
            same = i.same;
            quiet = i.quiet;
            few = i.few;
            told = λ m told open_there.
                let s = subst (λ (rest : List PlaceView). HasScanned m ts start most found (views (take at places)) rest) left (i.told m told open_there) in
                record {
                  next = s.next;
                  begins = begin_fewer ts (last_or None found) (view_of p) (views (drop (at + 1) places)) s.begins;
                  passed = λ few. passed_more (NoneAfter m ts (last_or start found)) places at p within is (s.passed few)
                      (later_none m ts (cells_in (Some m) ts) (length found) start found s.next (view_of p) (scan_skips m ts places start c.requires.placed at p within is (low few)));
                };
            left = λ few. passed_more (Passes disk ts start found) places at p within is (i.left few) (inl (low few));
          }))
    ]
