-- Places are skipped, or their tablets are asked for the cells still missing.
use Rattle.std.proofs.Common.{◌≡◌, ◌+◌, ◌-◌, ◌++◌, ◌∷◌, ℕ, List, ◌∙◌, Bool, true, false, None, Some, Option, IfSome, IsErrOf, drop, inl, inr, length, suc, take, ap, sym, subst, option_map, arith}
use Rattle.std.specs.Bool.{OnFalse}
use Rattle.std.proofs.lemmas.List.{length-append}
use Rattle.std.proofs.lemmas.List.Sums.{sum_by-append}
use Rattle.std.proofs.lemmas.Result.{err_from_is_err_and}
use Rattle.cell_key.specs.Places.{last_or, place_named}
use Rattle.cell_key.specs.declared.refusals.Refusal.TheVariants.{Damaged}
use Rattle.file_store.specs.Store.{Contents}
use Rattle.metadata_table.specs.Places.{PlaceView, view_of, views}
use Rattle.metadata_table.specs.Table.{IsTable}
use Rattle.rows.specs.Batches.{AreNextVersions, IsFull, bytes_in, bytes_of, places_in}
use Rattle.tablet.specs.Views.{Holds, cells_at}
use Rattle.rows.specs.declared.batches.BatchLimits.{BatchLimits}
use Rattle.rows.specs.declared.batches.CellVersions.{CellVersions}
use Rattle.tablet.specs.declared.tablet.Tablet.{Tablet}
use Rattle.row_atomic.specs.Clusters.{ArePlaced, PrecedesCell, cells_in, tablet_numbered}
use Rattle.row_atomic.proofs.PassedRefusals.{not_both}
use Rattle.row_atomic.proofs.Shares.{at_told}
use Rattle.row_atomic.proofs.Scans.{at_item, parted_at, passed_more, place_numbered, scan_ends, scan_goes_on, scan_skips}
use Rattle.row_atomic.proofs.ManyNexts.{begin_fewer, dropped_at, later_none}
use Rattle.row_atomic.proofs.ManyVersions.{HasFound, more_begins, more_ended, more_newest, more_next, more_passed}
use Rattle.row_atomic.proofs.Nexts.{NoneAfter}
use Rattle.row_atomic.proofs.cluster.row_calls.next_versions_in.Goals as goal
use Rattle.row_atomic.proofs.cluster.row_calls.next_versions_in.Goals.{then-is_last+then-not-precedes+in_ok-more+in_ok-found, else-is_last, else-is_last-via-then-is_last+else-not-precedes, else-is_last-via-else-is_last}

-- cells that fill the limits left after others fill the limits together with these
full_more : (b : Bool) (limits left : BatchLimits) (found more : List CellVersions) → left.cells ≡ limits.cells - length found → left.bytes ≡ limits.bytes - bytes_in found → OnFalse b (IsFull left more) → OnFalse b (IsFull limits (found ++ more))
full_more true limits left found more cells bytes full = tt
full_more false limits left found more cells bytes (inl many) = inl (let sum = length-append found more in omega (arith, cells, many, sum))
full_more false limits left found more cells bytes (inr long) = inr (let sum : bytes_in (found ++ more) ≡ bytes_in found + bytes_in more = sum_by-append bytes_of found more in omega (arith, bytes, long, sum))

pub overflow_sub-tablet : goal.overflow_sub-tablet
overflow_sub-tablet g c = (place_numbered c.args.tablets.now c.args.places.now c.loop-place.place-index c.place-item.result c.requires.placed c.loop-place-test.true c.place-item.is).from

pub bounds-tablets-place : goal.bounds-tablets-place
bounds-tablets-place g c = (place_numbered c.args.tablets.now c.args.places.now c.loop-place.place-index c.place-item.result c.requires.placed c.loop-place-test.true c.place-item.is).below

pub returns-clause-found : goal.returns-clause-found
returns-clause-found g c = λ m told open_there.
    let i = c.loop-place.invariant in
    let start = option_map place_named c.args.after in
    let s = i.told m told open_there in
    record {
      next = s.next;
      newest = s.newest;
      last = λ last. scan_ends m c.args.tablets.now c.args.places.now (last_or start (places_in c.loop-place.found.items)) c.requires.placed c.requires.table c.requires.as_many c.loop-place.place-index c.loop-place-test.false (s.passed last);
    }

pub returns-in_err-more-clause-damaged : goal.returns-in_err-more-clause-damaged
returns-in_err-more-clause-damaged g c = λ damaged m told open_there.
    let p = err_from_is_err_and c.from_residual.result c.from_residual.ensures.1 in
    let disk = g.F.Files.contents c.args.files.now in
    let ts = c.args.tablets.now in
    let t = c.index-tablets-place.result in
    let start = option_map place_named c.args.after in
    let number = place_numbered ts c.args.places.now c.loop-place.place-index c.place-item.result c.requires.placed c.loop-place-test.true c.place-item.is in
    let numbered = number.there t ∙ ap Some (sym c.index-tablets-place.is) in
    let open_t = at_item (λ q. ¬ PrecedesCell q start → (v : Tablet) → tablet_numbered q.tablet ts ≡ Some v → Holds m v) c.args.places.now c.loop-place.place-index c.place-item.result open_there c.loop-place-test.true c.place-item.is
    (λ low. not_both _ (c.precedes.ensures.1 low) c.if-not-precedes.true) t numbered in
    let e : IsErrOf c.next_versions.result Damaged = cc (p.1, p.2, c.in_err-more.was, damaged) in
    at_told (λ n. ¬ Holds n t) disk m told (subst (λ (o : Option Contents). IfSome o (λ n. ¬ Holds n t)) c.loop-place.invariant.same (c.next_versions.ensures.reads.damaged e)) open_t

pub loop-place-preserved : goal.loop-place-preserved
loop-place-preserved g c =
    let i = c.loop-place.invariant in
    let disk = g.F.Files.contents c.args.files.now in
    let ts = c.args.tablets.now in
    let places = c.args.places.now in
    let at = c.loop-place.place-index in
    let p = c.place-item.result in
    let start = option_map place_named c.args.after in
    let hi = c.args.hi in
    let found = c.loop-place.found.items in
    let within = c.loop-place-test.true in
    let is = c.place-item.is in
    let left = dropped_at places at p within is in
    elim c.if-is_last.branch [
      | then-is_last+then-not-precedes+in_ok-more+in_ok-found w ↦
          let t = w.index-tablets-place.result in
          let more = w.in_ok-more.more in
          let number = place_numbered ts places at p c.requires.placed within is in
          let numbered = number.there t ∙ ap Some (sym w.index-tablets-place.is) in
          let items : w.in_ok-found.found.items ≡ found ++ more.cells.items = w.in_ok-found.ensures.ok in
          let plus : suc at ≡ at + 1 = omega arith in
          let whole = subst (λ (n : ℕ). views places ≡ views (take at places) ++ view_of p ∷ views (drop n places)) plus (parted_at places at p within is) in
          let found_more = subst (λ (o : Option Contents). IfSome o (λ m. Holds m t → AreNextVersions (cells_at m t) start hi more)) i.same w.in_ok-more.ensures.found in
          let few = w.in_ok-more.ensures.few in
          let sum = length-append found more.cells.items in
          let asked = w.after-left.ensures.cells ∙ ap (λ (xs : List CellVersions). c.args.limits.cells - length xs) w.deref.ensures.value in
          let room = w.after-left.ensures.bytes ∙ ap (λ (xs : List CellVersions). c.args.limits.bytes - bytes_in xs) w.deref.ensures.value in
          rw w.files-is (rw w.found-is (rw w.is_last-is (rw items (record {
            same = w.next_versions.ensures.reads.files.same ∙ i.same;
            quiet = w.in_ok-more.ensures.reads.files.reason.told (λ e. cc) ∙ i.quiet;
            few = omega (arith, few, sum, asked, i.few);
            full = full_more more.is_last c.args.limits w.after-left.result found more.cells.items asked room w.in_ok-more.ensures.full;
            told = λ m told open_there.
                let open_t = at_item (λ q. ¬ PrecedesCell q start → (v : Tablet) → tablet_numbered q.tablet ts ≡ Some v → Holds m v) places at p open_there within is
                (λ low. not_both _ (w.precedes.ensures.1 low) w.if-not-precedes.true) t numbered in
                let next = at_told (λ m. Holds m t → AreNextVersions (cells_at m t) start hi more) disk m told found_more open_t in
                let s = subst (λ (b : Bool). HasFound m ts start hi found b (views (take at places)) (view_of p ∷ views (drop (at + 1) places))) w.if-is_last.true
                (subst (λ (rest : List PlaceView). HasFound m ts start hi found c.loop-place.is_last (views (take at places)) rest) left (i.told m told open_there)) in
                let table = subst IsTable whole c.requires.table in
                let as_many = subst (λ (ps : List PlaceView). length ts ≡ length ps) whole c.requires.as_many in
                let placed = subst (λ (ps : List PlaceView). ArePlaced ts None ps) whole c.requires.placed in
                record {
                  next = more_next m ts (views (take at places)) (view_of p) (views (drop (at + 1) places)) t table as_many placed numbered start hi found more s next;
                  newest = more_newest m ts (views (take at places)) (view_of p) (views (drop (at + 1) places)) t table as_many placed numbered start hi found more s next;
                  begins = more_begins m ts (views (take at places)) (view_of p) (views (drop (at + 1) places)) t table as_many placed numbered start hi found more s next;
                  passed = λ last. passed_more (NoneAfter m ts (last_or start (places_in (found ++ more.cells.items)))) places at p within is
                      (more_passed m ts (views (take at places)) (view_of p) (views (drop (at + 1) places)) t table as_many placed numbered start hi found more s next)
                      (scan_goes_on m ts places (last_or start (places_in (found ++ more.cells.items))) c.requires.placed (view_of p) t numbered
                      (more_ended m ts (views (take at places)) (view_of p) (views (drop (at + 1) places)) t table as_many placed numbered start hi found more s next last));
                };
          }))))
      | else-is_last w ↦
          let low : c.loop-place.is_last ≡ true → PrecedesCell (view_of p) start = λ last. elim w.else-is_last.branch [
            | else-is_last-via-then-is_last+else-not-precedes w' ↦ w'.precedes.ensures.0 w'.if-not-precedes.false
            | else-is_last-via-else-is_last w' ↦ absurd (let no : false ≡ true = sym w'.if-is_last.false ∙ last in cc)
          ] in
          rw w.files-is (rw w.found-is (rw w.is_last-is (record {
            same = i.same;
            quiet = i.quiet;
            few = i.few;
            full = i.full;
            told = λ m told open_there.
                let s = subst (λ (rest : List PlaceView). HasFound m ts start hi found c.loop-place.is_last (views (take at places)) rest) left (i.told m told open_there) in
                record {
                  next = s.next;
                  newest = s.newest;
                  begins = begin_fewer ts (last_or None (places_in found)) (view_of p) (views (drop (at + 1) places)) s.begins;
                  passed = λ last. passed_more (NoneAfter m ts (last_or start (places_in found))) places at p within is (s.passed last)
                      (later_none m ts (cells_in (Some m) ts) (length found) start (places_in found) s.next (view_of p) (scan_skips m ts places start c.requires.placed at p within is (low last)));
                };
          })))
    ]
