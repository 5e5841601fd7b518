use Rattle.std.proofs.Common.{◌<◌, ◌≤◌, ◌+◌, ℕ, inl, inr, length, map, option_map, refl, sym, subst, ◌∙◌, arith}
use Rattle.std.specs.Prelude.{IfSome}
use Rattle.cell_key.specs.Entries.{merged}
use Rattle.cell_key.specs.declared.keys.CellKey.{CellKey}
use Rattle.cell_key.specs.declared.refusals.Refusal.TheVariants.{Device}
use Rattle.sorted_file.specs.File.{listed}
use Rattle.sorted_file.specs.Newest.{found_bytes, IsNewestEntry, IsShortValue}
use Rattle.tablet.proofs.Passed.{not_err, over_any, passed_on}
use Rattle.tablet.proofs.SameFiles.{ended, goes_on, goes_over, or_none, not_open, same_files, same_length, same_set, Goes}
use Rattle.tablet.proofs.lookup.newest.Goals.{in-Some, in_default}
use Rattle.tablet.proofs.lookup.newest.Goals as goal

pub loop-file-init : goal.loop-file-init
loop-file-init g c = record {
  same = refl;
  quiet = refl;
  from = omega arith;
  within = tt;
  short = tt;
  stay = same_files (g.F.Files.contents c.args.store.now) c.args.files.now;
  told = over_any (g.F.Files.contents c.args.store.now) _ (λ m each newest is. or_none newest (IsNewestEntry (merged (map (listed m) c.args.files.now)) c.args.key.now c.args.lo) is);
}

pub loop-file-preserved : goal.loop-file-preserved
loop-file-preserved g c =
    let told = g.F.Files.contents c.args.store.now in
    let now = g.F.Files.contents c.loop-file.store in
    let below : c.loop-file.file-index < length c.loop-file.files = omega arith in
    let i = c.loop-file.invariant in
    let key = c.args.key.now in
    let lo = c.args.lo in
    let same = c.newest.ensures.reads.same ∙ i.same in
    let quiet = c.in_ok-entry.ensures.reads.reason.told (not_err _ Device) ∙ i.quiet in
    let stay = same_set told now i.same c.args.files.now c.loop-file.files c.loop-file.file-index c.file-item.result below i.stay c.newest.new.self c.newest.ensures.stays in
    elim c.match-branch-2.branch [
      | in-Some w ↦
          let entry = w.in-Some.entry in
          let here = rw w.in-Some.is at c.in_ok-entry.ensures.within in
          let low = i.from in
          let from = here.0 in
          let goes = goes_over told now i.same c.args.files.now c.loop-file.files c.loop-file.file-index c.file-item.result below i.stay key lo c.loop-file.from (option_map found_bytes c.loop-file.found) (found_bytes entry) i.told
          (rw w.in-Some.is at c.in_ok-entry.ensures.found) in
          record {
            same = same;
            quiet = quiet;
            from = subst (λ (n : ℕ). lo ≤ n) (sym w.from-is) (omega (arith, low, from));
            within = subst (λ o. IfSome o (λ e. (lo ≤ e.0) × (e.0 ≤ key.stamp))) (sym w.found-is) (omega (arith, low, from), here.1);
            short = subst (λ o. IfSome o (λ e. IsShortValue e.1)) (sym w.found-is) (rw w.in-Some.is at c.in_ok-entry.ensures.short);
            stay = stay;
            told = subst (λ (n : ℕ). Goes told now i.same c.args.files.now c.loop-file.files c.loop-file.file-index c.file-item.result below i.stay key lo (c.loop-file.file-index + 1) n (option_map found_bytes c.match-branch-2.found)) (sym w.from-is)
                (subst (λ o. Goes told now i.same c.args.files.now c.loop-file.files c.loop-file.file-index c.file-item.result below i.stay key lo (c.loop-file.file-index + 1) (entry.0 + 1) (option_map found_bytes o)) (sym w.found-is) goes);
          }
      | in_default w ↦
          let goes = goes_on told now i.same c.args.files.now c.loop-file.files c.loop-file.file-index c.file-item.result below i.stay key lo c.loop-file.from (option_map found_bytes c.loop-file.found) i.told
          (rw w.in_default.is at c.in_ok-entry.ensures.found) in
          record {
            same = same;
            quiet = quiet;
            from = subst (λ (n : ℕ). lo ≤ n) (sym w.from-is) i.from;
            within = subst (λ o. IfSome o (λ e. (lo ≤ e.0) × (e.0 ≤ key.stamp))) (sym w.found-is) i.within;
            short = subst (λ o. IfSome o (λ e. IsShortValue e.1)) (sym w.found-is) i.short;
            stay = stay;
            told = subst (λ (n : ℕ). Goes told now i.same c.args.files.now c.loop-file.files c.loop-file.file-index c.file-item.result below i.stay key lo (c.loop-file.file-index + 1) n (option_map found_bytes c.match-branch-2.found)) (sym w.from-is)
                (subst (λ o. Goes told now i.same c.args.files.now c.loop-file.files c.loop-file.file-index c.file-item.result below i.stay key lo (c.loop-file.file-index + 1) c.loop-file.from (option_map found_bytes o)) (sym w.found-is) goes);
          }
    ]

pub returns-then-key-from-clause-found : goal.returns-then-key-from-clause-found
returns-then-key-from-clause-found g c =
    ended (g.F.Files.contents c.args.store.now) c.args.files.now c.args.key.now c.args.lo c.loop-file.file-index c.loop-file.from (option_map found_bytes c.loop-file.found) c.loop-file.invariant.told
    (inl (subst (λ (k : CellKey). k.stamp < c.loop-file.from) c.key.ensures.key c.if-key-from.true))

pub returns-clause-found : goal.returns-clause-found
returns-clause-found g c =
    let same = same_length (g.F.Files.contents c.args.store.now) c.args.files.now c.loop-file.files c.loop-file.invariant.stay in
    ended (g.F.Files.contents c.args.store.now) c.args.files.now c.args.key.now c.args.lo c.loop-file.file-index c.loop-file.from (option_map found_bytes c.loop-file.found) c.loop-file.invariant.told
    (inr (omega (arith, same, c.loop-file-test.false)))

pub returns-in_err-entry-clause-stay : goal.returns-in_err-entry-clause-stay
returns-in_err-entry-clause-stay g c =
    let below : c.loop-file.file-index < length c.loop-file.files = omega arith in
    same_set (g.F.Files.contents c.args.store.now) (g.F.Files.contents c.loop-file.store) c.loop-file.invariant.same c.args.files.now c.loop-file.files c.loop-file.file-index c.file-item.result below c.loop-file.invariant.stay c.newest.new.self c.newest.ensures.stays

pub returns-in_err-entry-clause-damaged : goal.returns-in_err-entry-clause-damaged
returns-in_err-entry-clause-damaged g c = λ is.
    let below : c.loop-file.file-index < length c.loop-file.files = omega arith in
    not_open (g.F.Files.contents c.args.store.now) (g.F.Files.contents c.loop-file.store) c.loop-file.invariant.same c.args.files.now c.loop-file.files c.loop-file.file-index c.file-item.result below c.loop-file.invariant.stay
    (c.in_err-entry.ensures.damaged (passed_on c.from_residual.result _ c.in_err-entry.field-0.0 _ c.from_residual.ensures.1 refl is))
