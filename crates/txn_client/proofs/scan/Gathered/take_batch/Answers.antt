use Rattle.std.proofs.Common.{◌≡◌, ℕ, ◌+◌, ◌≤◌, [], ◌∷◌, List, None, Option, Some, length, true, false, refl, sym, subst, ap, ◌∙◌, arith}
use Rattle.std.specs.Prelude.{option_map}
use Rattle.std.specs.Bool.{OnFalse, OnTrue}
use Rattle.std.specs.List.{AllByRecursion}
use Rattle.std.specs.Vec.Iter.{into_iter_items}
use Rattle.std.proofs.lemmas.Bool.{OnFalse_at, OnTrue_at}
use Rattle.cell_key.specs.Cells.{Cells}
use Rattle.cell_key.specs.Places.{AreNextCells, IsNextCell, Place, last_or}
use Rattle.cell_key.specs.declared.keys.Qualifier.TheVariants.{Data, Lock, Write}
use Rattle.cell_key.specs.declared.refusals.Refusal.{Refusal}
use Rattle.cell_key.specs.declared.refusals.Refusal.TheVariants.{Damaged, Device}
use Rattle.cell_key.proofs.Passed.{passed_err}
use Rattle.cell_key.proofs.Reasons.{not_refused}
use Rattle.rows.specs.Calls.{AreReadableFrom, View}
use Rattle.rows.proofs.Calls.{read_undamaged, reads_then}
use Rattle.si_model.specs.Reads.{cell_of}
use Rattle.si_model.specs.Scans.{place_at}
use Rattle.si_model.specs.declared.replies.Cell.{Cell}
use Rattle.rows.specs.Batches.{HasNewest, place_in, places_in}
use Rattle.rows.specs.declared.batches.CellVersions.{CellVersions}
use Rattle.txn_client.specs.Gathering.{Gathers, IsNextIn, items_in, last_of}
use Rattle.txn_client.specs.Ranges.{range_named}
use Rattle.txn_client.specs.Reads.{AreNewest}
use Rattle.txn_client.specs.Scans.{DoesNotFit, IsScanDamaged, IsScanReadable}
use Rattle.txn_client.specs.declared.newest_read.Newest.{Newest}
use Rattle.txn_client.specs.declared.scan.Gathered.{Gathered}
use Rattle.txn_client.specs.declared.scan.Scan.{Scan}
use Rattle.txn_client.proofs.GatheredItems.{at_call}
use Rattle.txn_client.proofs.Scanned.{first_next, looks_from, none_left, past_end, row_from}
use Rattle.txn_client.proofs.scan.Gathered.take_batch.Goals as goal

not_true : false ≡ true → ⊥
not_true is = cc

count_on : (looked looked' rest rest' all : ℕ) → looked + rest ≡ all → rest ≡ rest' + 1 → looked' ≡ looked + 1 → looked' + rest' ≡ all
count_on looked looked' rest rest' all before less more = omega arith

grown : (looked looked' looked0 : ℕ) → looked0 ≤ looked → looked' ≡ looked + 1 → looked0 ≤ looked'
grown looked looked' looked0 grows more = omega arith

-- the cell of versions, and the newest versions of its columns
abbrev cell_in : CellVersions → Cell
cell_in v = cell_of v.row v.family

abbrev newest_in : CellVersions → Newest
newest_in v = record { «data» = v.data; lock = v.lock; write = v.write }

are_newest : (cells now : Cells) (s : ℕ) (v : CellVersions) → now ≡ cells → HasNewest cells s v → AreNewest now (cell_in v) s (newest_in v)
are_newest cells now s v same h = subst (λ (m : Cells). AreNewest m (cell_in v) s (newest_in v)) (sym same) (record { of_data = h Data; of_lock = h Lock; of_write = h Write })

first_newest : (cells : Cells) (s : ℕ) (all : List CellVersions) (v : CellVersions) (rest : List CellVersions) → all ≡ v ∷ rest → AllByRecursion (HasNewest cells s) all → HasNewest cells s v × AllByRecursion (HasNewest cells s) rest
first_newest cells s all v rest is newest = subst (AllByRecursion (HasNewest cells s)) is newest

one_fewer : (all rest : List CellVersions) (v : CellVersions) → all ≡ v ∷ rest → length all ≡ length rest + 1
one_fewer all rest v is = let e : length all ≡ length (v ∷ rest) = ap (λ (xs : List CellVersions). length xs) is in omega (arith, e)

first_of : (cells : Cells) (after : Option Place) (all rest : List CellVersions) (v : CellVersions) → all ≡ v ∷ rest → AreNextCells cells after (length all) (places_in all) → IsNextCell cells after (Some (place_in v)) × AreNextCells cells (Some (place_in v)) (length rest) (places_in rest)
first_of cells after all rest v is next =
    let one = first_next cells after (length all) (places_in all) (place_in v) (places_in rest) next (ap places_in is) in
    (one.1, subst (λ (n : ℕ). AreNextCells cells (Some (place_in v)) n (places_in rest)) (let less = one_fewer all rest v is in omega (arith, less)) one.2)

ends_on : (cells : Cells) (after : Option Place) (all rest : List CellVersions) (v : CellVersions) (last : Option Cell) → all ≡ v ∷ rest → last ≡ Some (cell_in v) → IsNextCell cells (last_or after (places_in all)) None → IsNextCell cells (last_or (option_map place_at last) (places_in rest)) None
ends_on cells after all rest v last is at ends =
    subst (λ (o : Option Cell). IsNextCell cells (last_or (option_map place_at o) (places_in rest)) None) (sym at)
    (subst (λ (xs : List CellVersions). IsNextCell cells (last_or after (places_in xs)) None) is ends)

next_on : (cells : Cells) (rest : List CellVersions) (v : CellVersions) (last : Option Cell) → last ≡ Some (cell_in v) → AreNextCells cells (Some (place_in v)) (length rest) (places_in rest) → AreNextCells cells (option_map place_at last) (length rest) (places_in rest)
next_on cells rest v last at next = subst (λ (o : Option Cell). AreNextCells cells (option_map place_at o) (length rest) (places_in rest)) (sym at) next

none_ends : (cells : Cells) (after : Option Place) (all : List CellVersions) → length all ≡ 0 → IsNextCell cells (last_or after (places_in all)) None → IsNextCell cells after None
none_ends cells after [] none ends = ends
none_ends cells after (v ∷ all) none ends = absurd (omega (arith, none))

-- the rows from the last cell on are readable, if the rows from the beginning of the range on are
last_readable : {R : Type 0} (seen : View R) (rows : R) (cells : Cells) (scan : Scan) (gathered : Gathered) → IsScanReadable seen rows (range_named scan.range) → Gathers cells scan gathered → AreReadableFrom seen rows (option_map place_at (last_of gathered))
last_readable seen rows cells scan gathered held gathers row from = held row (looks_from cells (range_named scan.range) gathered.looked (last_of gathered) gathers.looks row from)

pub loop-versions-init : goal.loop-versions-init
loop-versions-init g c =
    let cells = g.R.Rows.seen.cells c.args.rows.now in
    let last = option_map place_at (last_of c.args.self.now) in
    let gives : into_iter_items c.into_iter-versions-iterator.result ≡ c.in_ok-batch.batch.cells.items = c.into_iter-versions-iterator.ensures.into_iter_gives.0 in
    let found = λ (held : IsScanReadable g.R.Rows.seen c.args.rows.now (range_named c.args.scan.now.range)) (gathers : Gathers cells c.args.scan.now c.args.self.now). c.in_ok-batch.ensures.found (last_readable g.R.Rows.seen c.args.rows.now cells c.args.scan.now c.args.self.now held gathers) in
    record {
      limits = c.requires.limits;
      cells = refl;
      count = refl;
      grows = omega arith;
      gathers = λ held gathers. gathers;
      next = λ held gathers. subst (λ (xs : List CellVersions). AreNextCells cells last (length xs) (places_in xs)) (sym gives) (found held gathers).next;
      newest = λ held gathers. subst (AllByRecursion (HasNewest cells c.args.scan.now.start)) (sym gives) (found held gathers).newest;
      ends = λ held gathers is. subst (λ (xs : List CellVersions). IsNextCell cells (last_or last (places_in xs)) None) (sym gives) ((found held gathers).last is);
      reads = c.in_ok-batch.ensures.reads;
      faults = c.in_ok-batch.ensures.reason.told (not_refused _ Device);
    }

pub loop-versions-preserved : goal.loop-versions-preserved
loop-versions-preserved g c =
    let cells = g.R.Rows.seen.cells c.args.rows.now in
    let scan = c.args.scan.now in
    let v = c.in-Some.versions in
    let x = cell_in v in
    let before = c.loop-versions.invariant in
    let now = c.in_ok-look.ensures in
    let all = into_iter_items c.loop-versions.versions-iterator in
    let rest = into_iter_items c.next.new.self in
    let first = c.in-Some.ensures.steps.0 in
    let fits = c.if-not-branch.false in
    let more = OnTrue_at fits now.more in
    record {
      limits = now.limits;
      cells = now.cells ∙ before.cells;
      count = count_on c.loop-versions.self.looked c.look.new.self.looked (length all) (length rest) _ before.count (one_fewer all rest v first) more.0;
      grows = grown c.loop-versions.self.looked c.look.new.self.looked c.args.self.now.looked before.grows more.0;
      gathers = λ held gathers.
          let next = first_of cells (option_map place_at (last_of c.loop-versions.self)) all rest v first (before.next held gathers) in
          let newest = first_newest cells scan.start all v rest first (before.newest held gathers) in
          let up_to = c.if-not-is_up_to.ensures.0 refl in
          OnTrue_at fits (at_call cells (g.R.Rows.seen.cells c.loop-versions.rows) scan c.loop-versions.self x (λ (m : Cells). OnTrue c.in_ok-look.field-0 (Gathers m scan c.look.new.self)) before.reads.kept
          (now.looked (before.reads.readable v.row (held v.row (row_from cells scan.start (range_named scan.range) scan.keys_only (items_in c.loop-versions.self) c.loop-versions.self.looked (last_of c.loop-versions.self) x (before.gathers held gathers) next.0 up_to)))
          (are_newest cells (g.R.Rows.seen.cells c.loop-versions.rows) scan.start v before.reads.kept newest.0)) (before.gathers held gathers)
          (record { next = next.0; up_to = up_to }));
      next = λ held gathers. next_on cells rest v (last_of c.look.new.self) more.1 (first_of cells (option_map place_at (last_of c.loop-versions.self)) all rest v first (before.next held gathers)).1;
      newest = λ held gathers. (first_newest cells scan.start all v rest first (before.newest held gathers)).1;
      ends = λ held gathers is. ends_on cells (option_map place_at (last_of c.loop-versions.self)) all rest v (last_of c.look.new.self) first more.1 (before.ends held gathers is);
      reads = reads_then before.reads now.reads;
      faults = now.reason.told (not_refused _ Device) ∙ before.faults;
    }

pub returns-then-not-is_up_to-clause-come : goal.returns-then-not-is_up_to-clause-come
returns-then-not-is_up_to-clause-come g c = λ held gathers.
    let cells = g.R.Rows.seen.cells c.args.rows.now in
    let v = c.in-Some.versions in
    let before = c.loop-versions.invariant in
    let next = first_of cells (option_map place_at (last_of c.loop-versions.self)) _ (into_iter_items c.next.new.self) v c.in-Some.ensures.steps.0 (before.next held gathers) in (
      before.gathers held gathers,
      past_end cells (range_named c.args.scan.now.range) (last_of c.loop-versions.self) (cell_in v) next.0 (λ up. not_true (c.if-not-is_up_to.ensures.1 up)),
    )

pub returns-in_err-look-clause-damaged : goal.returns-in_err-look-clause-damaged
returns-in_err-look-clause-damaged g c = λ held gathers.
    let cells = g.R.Rows.seen.cells c.args.rows.now in
    let scan = c.args.scan.now in
    let v = c.in-Some.versions in
    let x = cell_in v in
    let before = c.loop-versions.invariant in
    let all = into_iter_items c.loop-versions.versions-iterator in
    let rest = into_iter_items c.next.new.self in
    let next = first_of cells (option_map place_at (last_of c.loop-versions.self)) all rest v c.in-Some.ensures.steps.0 (before.next held gathers) in
    let newest = first_newest cells scan.start all v rest c.in-Some.ensures.steps.0 (before.newest held gathers) in
    let up_to = c.if-not-is_up_to.ensures.0 refl in
    passed_err c.from_residual-in_err-look.result c.in_err-look.field-0.0 (λ (e : Refusal). e ≡ Damaged → IsScanDamaged cells (range_named scan.range) scan.start) c.from_residual-in_err-look.ensures.1
    (at_call cells (g.R.Rows.seen.cells c.loop-versions.rows) scan c.loop-versions.self x (λ (m : Cells). c.in_err-look.field-0.0 ≡ Damaged → IsScanDamaged m (range_named scan.range) scan.start) before.reads.kept
    (c.in_err-look.ensures.damaged (before.reads.readable v.row (held v.row (row_from cells scan.start (range_named scan.range) scan.keys_only (items_in c.loop-versions.self) c.loop-versions.self.looked (last_of c.loop-versions.self) x (before.gathers held gathers) next.0 up_to)))
    (are_newest cells (g.R.Rows.seen.cells c.loop-versions.rows) scan.start v before.reads.kept newest.0)) (before.gathers held gathers) (record { next = next.0; up_to = up_to }))

pub returns-then-is_last-clause-come : goal.returns-then-is_last-clause-come
returns-then-is_last-clause-come g c = λ held gathers.
    let cells = g.R.Rows.seen.cells c.args.rows.now in
    let before = c.loop-versions.invariant in
    let none : length (into_iter_items c.loop-versions.versions-iterator) ≡ 0 = sym c.loop-versions.versions-iterator.rest.ok.0 ∙ c.in-None.ensures.steps.0 in (
      before.gathers held gathers,
      none_left cells (range_named c.args.scan.now.range) (last_of c.loop-versions.self)
          (none_ends cells (option_map place_at (last_of c.loop-versions.self)) (into_iter_items c.loop-versions.versions-iterator) none (before.ends held gathers c.if-is_last.true)),
    )

pub returns-in_err-batch-clause-damaged : goal.returns-in_err-batch-clause-damaged
returns-in_err-batch-clause-damaged g c = λ held gathers.
    passed_err c.from_residual.result c.in_err-batch.field-0.0 _ c.from_residual.ensures.1
    (λ is. absurd (read_undamaged _ c.in_err-batch.field-0.0 c.in_err-batch.ensures.refusal (last_readable g.R.Rows.seen c.args.rows.now (g.R.Rows.seen.cells c.args.rows.now) c.args.scan.now c.args.self.now held gathers) is))

pub returns-then-not-branch-clause-come : goal.returns-then-not-branch-clause-come
returns-then-not-branch-clause-come g c = λ held gathers.
    let cells = g.R.Rows.seen.cells c.args.rows.now in
    let scan = c.args.scan.now in
    let v = c.in-Some.versions in
    let x = cell_in v in
    let before = c.loop-versions.invariant in
    let now = c.in_ok-look.ensures in
    let all = into_iter_items c.loop-versions.versions-iterator in
    let rest = into_iter_items c.next.new.self in
    let next = first_of cells (option_map place_at (last_of c.loop-versions.self)) all rest v c.in-Some.ensures.steps.0 (before.next held gathers) in
    let newest = first_newest cells scan.start all v rest c.in-Some.ensures.steps.0 (before.newest held gathers) in
    let up_to = c.if-not-is_up_to.ensures.0 refl in
    let from = row_from cells scan.start (range_named scan.range) scan.keys_only (items_in c.loop-versions.self) c.loop-versions.self.looked (last_of c.loop-versions.self) x (before.gathers held gathers) next.0 up_to in
    let full = subst (λ (m : Cells). IsNextIn m scan c.loop-versions.self x → OnFalse c.in_ok-look.field-0 (DoesNotFit m scan.start (range_named scan.range) scan.keys_only (items_in c.loop-versions.self) (last_of c.loop-versions.self))) before.reads.kept
    (now.full (before.reads.readable v.row (held v.row from)) (are_newest cells (g.R.Rows.seen.cells c.loop-versions.rows) scan.start v before.reads.kept newest.0)) in
    subst (λ (s : Gathered). Gathers cells scan s × DoesNotFit cells scan.start (range_named scan.range) scan.keys_only (items_in s) (last_of s)) (sym (OnFalse_at c.if-not-branch.true now.same).0)
    (before.gathers held gathers, OnFalse_at c.if-not-branch.true (full (record { next = next.0; up_to = up_to })))
