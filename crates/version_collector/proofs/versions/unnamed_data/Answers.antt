use Rattle.std.proofs.Common.{◌≡◌, ◌<◌, ◌∙◌, ◌+◌, ◌^◌, ℕ, List, [], ◌∷◌, ◌++◌, length, vec_len, refl, sym, ap, subst, arith}
use Rattle.cell_key.specs.declared.keys.Qualifier.TheVariants.{Data}
use Rattle.cell_key.specs.declared.refusals.Refusal.TheVariants.{Device}
use Rattle.cell_key.proofs.Reasons.{not_refused}
use Rattle.rows.proofs.Calls.{reads_none, reads_then}
use Rattle.version_collector.specs.Versions.{IsUnnamed}
use Rattle.version_collector.proofs.Greatest.{AreAll, length-last}
use Rattle.version_collector.proofs.Starts.{among_named, data_all, data_begin, data_full, data_more, data_past, latest_none, latest_some, lower_some, moment_some, named_among}
use Rattle.version_collector.proofs.versions.unnamed_data.Goals as goal

pub loop-near-init : goal.loop-near-init
loop-near-init g c =
    let none : length c.in_ok-found.found.items ≡ 0 = ap (λ (ts : List ℕ). length ts) c.in_ok-found.ensures.items in
    record {
      reads = reads_none;
      faults = refl;
      len = c.in_ok-found.ensures.len ∙ sym none;
      few = omega (arith, none);
      low = c.lesser-below.ensures.low;
      all = λ held shown one near named. subst (AreAll (IsUnnamed (g.R.Rows.seen.cells c.args.rows.now) c.args.cell.now c.args.floor) c.lesser-below.result) (sym c.in_ok-found.ensures.items)
          (data_begin (g.R.Rows.seen.cells c.args.rows.now) c.args.cell.now c.args.floor c.args.from c.lesser-below.result named c.lesser-below.ensures.least);
    }

pub returns-in_default-clause-found : goal.returns-in_default-clause-found
returns-in_default-clause-found g c = λ held shown one near named.
    let before = c.loop-near.invariant in
    data_all (g.R.Rows.seen.cells c.args.rows.now) c.args.cell.now c.args.floor c.loop-near.below c.loop-near.found.items one (before.all held shown one near named) before.few
    (latest_none before.reads held c.args.cell.now Data c.loop-near.below c.in_ok-next.next c.in_default.is c.in_ok-next.ensures.found)

-- the data is named
pub loop-near-preserved-then-is_among : goal.loop-near-preserved-then-is_among
loop-near-preserved-then-is_among g c =
    let cells = g.R.Rows.seen.cells c.args.rows.now in
    let x = c.args.cell.now in
    let t : ℕ = c.in-Some.start in
    let before = c.loop-near.invariant in
    let less : t < c.loop-near.below = lower_some c.in_ok-next.next (c.in-Some.start, c.in-Some._value) c.loop-near.below c.in-Some.is c.in_ok-next.ensures.lower in
    let under = before.low in
    record {
      reads = reads_then before.reads c.in_ok-next.ensures.reads;
      faults = c.in_ok-next.ensures.reason.told (not_refused _ Device) ∙ before.faults;
      len = before.len;
      few = before.few;
      low = omega (arith, less, under);
      all = λ held shown one near named. data_past cells x c.args.floor c.loop-near.below t c.in-Some._value.items c.loop-near.found.items (before.all held shown one near named)
          (latest_some before.reads held x Data c.loop-near.below c.in_ok-next.next (c.in-Some.start, c.in-Some._value) c.in-Some.is c.in_ok-next.ensures.found)
          (among_named cells shown x c.args.floor c.args.near t near (c.is_among.ensures.0 c.if-is_among.true));
    }

-- no record names it
pub loop-near-preserved : goal.loop-near-preserved
loop-near-preserved g c =
    let cells = g.R.Rows.seen.cells c.args.rows.now in
    let x = c.args.cell.now in
    let t : ℕ = c.in-Some.start in
    let before = c.loop-near.invariant in
    let less : t < c.loop-near.below = lower_some c.in_ok-next.next (c.in-Some.start, c.in-Some._value) c.loop-near.below c.in-Some.is c.in_ok-next.ensures.lower in
    let top : t < 2 ^ 63 = (moment_some c.in_ok-next.next (c.in-Some.start, c.in-Some._value) c.in-Some.is c.in_ok-next.ensures.limits).1 in
    let under = before.low in
    let len : vec_len c.loop-near.found ≡ length c.loop-near.found.items = before.len in
    let items : c.push.new.self.items ≡ c.loop-near.found.items ++ t ∷ [] = c.in_ok-push.ensures.items ∙ ap (λ (n : ℕ). c.loop-near.found.items ++ n ∷ []) c.new.ensures in
    let longer : length c.push.new.self.items ≡ length c.loop-near.found.items + 1 = ap (λ (ts : List ℕ). length ts) items ∙ length-last c.loop-near.found.items t in
    let pushed : vec_len c.push.new.self ≡ vec_len c.loop-near.found + 1 = c.in_ok-push.ensures.len in
    let room = c.loop-near-test.true in
    let counted = c.len.ensures in
    record {
      reads = reads_then before.reads c.in_ok-next.ensures.reads;
      faults = c.in_ok-next.ensures.reason.told (not_refused _ Device) ∙ before.faults;
      len = omega (arith, len, longer, pushed);
      few = omega (arith, len, longer, room, counted);
      low = omega (arith, less, under);
      all = λ held shown one near named. subst (AreAll (IsUnnamed cells x c.args.floor) t) (sym items)
          (data_more cells x c.args.floor c.loop-near.below t c.in-Some._value.items c.loop-near.found.items (before.all held shown one near named) under
          (latest_some before.reads held x Data c.loop-near.below c.in_ok-next.next (c.in-Some.start, c.in-Some._value) c.in-Some.is c.in_ok-next.ensures.found)
          (λ is. cc (c.is_among.ensures.1 (named_among cells shown x c.args.floor one c.args.near t near (omega (arith, less, under)) top is), c.if-is_among.false)));
    }

pub returns-clause-found : goal.returns-clause-found
returns-clause-found g c = λ held shown one near named.
    let before = c.loop-near.invariant in
    let full = c.loop-near-test.false in
    let counted = c.len.ensures in
    let few = before.few in
    let len = before.len in
    data_full (g.R.Rows.seen.cells c.args.rows.now) c.args.cell.now c.args.floor c.loop-near.below c.loop-near.found.items one (before.all held shown one near named) (omega (arith, full, counted, few, len))
