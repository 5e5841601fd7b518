use Rattle.std.proofs.Common.{◌≡◌, ◌+◌, ◌<◌, ◌≤◌, [], ◌∷◌, ◌++◌, Some, true, false, refl}
use Rattle.cell_key.proofs.Passed.{passed_err}
use Rattle.cell_key.specs.declared.refusals.Refusal.{Refusal}
use Rattle.cell_key.specs.declared.refusals.Refusal.TheVariants.{Damaged}
use Rattle.si_model.specs.Replies.{found_item}
use Rattle.si_model.specs.Scans.{item_length, items_length, most_items}
use Rattle.txn_client.specs.Gathering.{Gathers, items_in, last_of}
use Rattle.txn_client.specs.Ranges.{range_named}
use Rattle.txn_client.specs.Scans.{DoesNotFit, IsScanDamaged}
use Rattle.txn_client.proofs.GatheredItems.{fits_so, full_so, gathers_more, gathers_past}
use Rattle.txn_client.proofs.Scanned.{next_between}
use Rattle.txn_client.proofs.scan.Gathered.look.Goals as goal

not_true : false ≡ true → ⊥
not_true is = cc

pub returns-then-not-is_of_family-clause-looked : goal.returns-then-not-is_of_family-clause-looked
returns-then-not-is_of_family-clause-looked g c = λ held newest gathers next.
    gathers_past (g.R.Rows.seen.cells c.args.rows.now) c.args.scan.now c.args.self.now c.pass.new.self c.args.cell gathers next (λ family. absurd (not_true (c.if-not-is_of_family.ensures.1 family))) c.pass.ensures.items c.pass.ensures.looked c.pass.ensures.last

pub returns-in_err-found-clause-damaged : goal.returns-in_err-found-clause-damaged
returns-in_err-found-clause-damaged g c = λ held newest gathers next.
    let cells = g.R.Rows.seen.cells c.args.rows.now in
    let scan = c.args.scan.now in
    let old = c.args.self.now in
    passed_err c.from_residual.result c.in_err-found.field-0.0 (λ (e : Refusal). e ≡ Damaged → IsScanDamaged cells (range_named scan.range) scan.start) c.from_residual.ensures.1
    (λ is. (c.args.cell, next_between cells scan.start (range_named scan.range) scan.keys_only (items_in old) old.looked (last_of old) c.args.cell gathers next.next next.up_to, c.in_err-found.ensures.damaged held newest is))

pub returns-in-Some-clause-looked : goal.returns-in-Some-clause-looked
returns-in-Some-clause-looked g c = λ held newest gathers next.
    let cells = g.R.Rows.seen.cells c.args.rows.now in
    let scan = c.args.scan.now in
    fits_so c.name.result ((items_in c.name.new.self ≡ items_in c.args.self.now ++ ((c.args.cell, found_item c.in-Some.found) ∷ [])) × (c.name.new.self.looked ≡ c.args.self.now.looked + 1) × (last_of c.name.new.self ≡ Some c.args.cell))
    (Gathers cells scan c.name.new.self)
    (gathers_more cells scan c.args.self.now c.name.new.self c.args.cell (found_item c.in-Some.found) gathers next (c.if-not-is_of_family.ensures.0 refl) (c.in-Some.ensures.said cells scan.start (c.in_ok-found.ensures.found held newest)))
    c.name.ensures.named

pub returns-in-Some-clause-full : goal.returns-in-Some-clause-full
returns-in-Some-clause-full g c = λ held newest next.
    let cells = g.R.Rows.seen.cells c.args.rows.now in
    let scan = c.args.scan.now in
    let old = c.args.self.now in
    full_so c.name.result
    ((c.name.new.self ≡ old) × (1 ≤ old.looked) × (most_items < items_length (items_in old) + item_length (c.args.cell, found_item c.in-Some.found)))
    (DoesNotFit cells scan.start (range_named scan.range) scan.keys_only (items_in old) (last_of old))
    (λ full. record {
      cell = c.args.cell;
      item = found_item c.in-Some.found;
      next = next.next;
      up_to = next.up_to;
      family = c.if-not-is_of_family.ensures.0 refl;
      read = c.in-Some.ensures.said cells scan.start (c.in_ok-found.ensures.found held newest);
      long = full.2;
    })
    c.name.ensures.full

pub returns-in-None-clause-looked : goal.returns-in-None-clause-looked
returns-in-None-clause-looked g c = λ held newest gathers next.
    let cells = g.R.Rows.seen.cells c.args.rows.now in
    let scan = c.args.scan.now in
    gathers_past cells scan c.args.self.now c.pass-in-None.new.self c.args.cell gathers next (λ family. c.in-None.ensures.said cells scan.start (c.in_ok-found.ensures.found held newest)) c.pass-in-None.ensures.items c.pass-in-None.ensures.looked c.pass-in-None.ensures.last
