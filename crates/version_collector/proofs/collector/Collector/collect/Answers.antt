use Rattle.std.proofs.Common.{Option, Some, None, IfNone, IfSome, OnSome, ◌≡◌, sym, subst}
use Rattle.std.specs.Vec.Iter.{into_iter_items}
use Rattle.cell_key.specs.Cells.{Cells}
use Rattle.cell_key.specs.declared.refusals.Refusal.TheVariants.{MemtableFull}
use Rattle.rows.specs.Calls.{AppliesSuch, OnlyReads}
use Rattle.si_model.specs.declared.replies.CollectReply.TheVariants.{More}
use Rattle.si_model.specs.Collection.{IsTidy, place_at}
use Rattle.si_model.specs.declared.replies.Cell.{Cell}
use Rattle.version_collector.specs.Ahead.{AreAhead}
use Rattle.version_collector.specs.Erasing.{CollectsCell, IsKnown}
use Rattle.version_collector.specs.Versions.{IsTidyFrom}
use Rattle.version_collector.specs.Visits.{Visits, position_of}
use Rattle.version_collector.specs.declared.erasing.CellProgress.{CellProgress}
use Rattle.version_collector.proofs.AheadCells.{erased_ahead}
use Rattle.version_collector.proofs.Room.{no_room_of, room_applied, room_none}
use Rattle.cell_key.proofs.Passed.{passed as passed_on}
use Rattle.version_collector.proofs.Thinned.{thins_applied, thins_kept}
use Rattle.version_collector.proofs.OneVisit.{collect_erased, collect_past}
use Rattle.version_collector.proofs.collector.Collector.collect.Goals as goal

on_some : (o : Option CellProgress) (p : CellProgress) (P : Type 0) → o ≡ Some p → OnSome o P → P
on_some o p P is on = subst (λ (q : Option CellProgress). OnSome q P) is on

if_some : (o : Option CellProgress) (p : CellProgress) (P : CellProgress → Type 0) → o ≡ Some p → IfSome o P → P p
if_some o p P is on = subst (λ (q : Option CellProgress). IfSome q P) is on

if_none : (o : Option CellProgress) (P : Type 0) → o ≡ None → IfNone o P → P
if_none o P is on = subst (λ (q : Option CellProgress). IfNone q P) is on

pub returns-in_err-erased-clause-room : goal.returns-in_err-erased-clause-room
returns-in_err-erased-clause-room g c = room_none g.R.Rows.seen.overfills 1 c.args.rows.now c.erase_old.new.rows c.in_err-erased.ensures.err.room

pub returns-in_err-erased-clause-full : goal.returns-in_err-erased-clause-full
returns-in_err-erased-clause-full g c = λ is.
    no_room_of g.R.Rows.seen (IsKnown g.R.Rows.seen c.args.rows.now c.args.cell c.args.self.now.floor c.tidy_from.result) c.args.cell c.args.self.now.floor c.args.rows.now
    (c.in_err-erased.ensures.full (passed_on c.from_residual.result c.in_err-erased.field-0.0 MemtableFull c.from_residual.ensures.1 is))

pub returns-in-Some-clause-visit : goal.returns-in-Some-clause-visit
returns-in-Some-clause-visit g c = λ held shown pass right next.
    let cells = g.R.Rows.seen.cells c.args.rows.now in
    let new = g.R.Rows.seen.cells c.erase_old.new.rows in
    let x = c.args.cell in
    let floor = c.args.self.now.floor in
    let progress : CellProgress = c.in-Some.progress in
    let Known = IsKnown g.R.Rows.seen c.args.rows.now x floor c.tidy_from.result in
    let known : Known = (held, c.tidy_from.ensures cells right) in
    let made = on_some c.in_ok-erased.erased progress (AppliesSuch g.R.Rows.seen (CollectsCell Known cells x floor) c.args.rows.now c.erase_old.new.rows) c.in-Some.is c.in_ok-erased.ensures.erased in
    let cell = if_some c.in_ok-erased.erased progress (λ p. p.cell ≡ x) c.in-Some.is c.in_ok-erased.ensures.cell in
    let tidy = if_some c.in_ok-erased.erased progress (λ p. IsTidyFrom new x floor p.tidy) c.in-Some.is (c.in_ok-erased.ensures.progress known shown) in
    collect_erased cells c.args.self.now x pass next progress Known made.row made.edits new known shown made.such (made.applied.made (subst (g.R.Rows.seen.readable c.args.rows.now) (sym made.such.0) held))
    (subst (λ (y : Cell). IsTidyFrom new y floor progress.tidy) (sym cell) tidy)

pub returns-in-Some-clause-ahead : goal.returns-in-Some-clause-ahead
returns-in-Some-clause-ahead g c = λ held next follow none.
    let cells = g.R.Rows.seen.cells c.args.rows.now in
    let Known = IsKnown g.R.Rows.seen c.args.rows.now c.args.cell c.args.self.now.floor c.tidy_from.result in
    let made = on_some c.in_ok-erased.erased c.in-Some.progress (AppliesSuch g.R.Rows.seen (CollectsCell Known cells c.args.cell c.args.self.now.floor) c.args.rows.now c.erase_old.new.rows) c.in-Some.is c.in_ok-erased.ensures.erased in
    erased_ahead Known c.args.cell c.args.self.now.floor made.edits cells cells (g.R.Rows.seen.cells c.erase_old.new.rows) made.such.1 (made.applied.made (subst (g.R.Rows.seen.readable c.args.rows.now) (sym made.such.0) held))
    (position_of c.args.self.now.after) (into_iter_items c.args.ahead.now.places) c.args.ahead.now.is_end next follow

pub returns-clause-ahead : goal.returns-clause-ahead
returns-clause-ahead g c = λ held next follow none.
    let after = Some (place_at c.args.cell) in
    let places = into_iter_items c.args.ahead.now.places in
    let is_end = c.args.ahead.now.is_end in
    let left = if_none c.in_ok-erased.erased (OnlyReads g.R.Rows.seen c.args.rows.now c.erase_old.new.rows) c.in_default.is c.in_ok-erased.ensures.left in
    subst (λ (m : Cells). AreAhead m after c.args.ahead.now.doubted places is_end) (sym left.kept)
    (subst (λ (o : Option Cell). AreAhead (g.R.Rows.seen.cells c.args.rows.now) after o places is_end) (sym none) follow)

pub returns-in-Some-clause-room : goal.returns-in-Some-clause-room
returns-in-Some-clause-room g c =
    let Known = IsKnown g.R.Rows.seen c.args.rows.now c.args.cell c.args.self.now.floor c.tidy_from.result in
    room_applied g.R.Rows.seen Known c.args.cell c.args.self.now.floor c.args.rows.now c.erase_old.new.rows
    (on_some c.in_ok-erased.erased c.in-Some.progress (AppliesSuch g.R.Rows.seen (CollectsCell Known (g.R.Rows.seen.cells c.args.rows.now) c.args.cell c.args.self.now.floor) c.args.rows.now c.erase_old.new.rows) c.in-Some.is c.in_ok-erased.ensures.erased)

pub returns-clause-visit : goal.returns-clause-visit
returns-clause-visit g c = λ held shown pass right next.
    let cells = g.R.Rows.seen.cells c.args.rows.now in
    let left = if_none c.in_ok-erased.erased (OnlyReads g.R.Rows.seen c.args.rows.now c.erase_old.new.rows) c.in_default.is c.in_ok-erased.ensures.left in
    let tidy = if_none c.in_ok-erased.erased (IsTidy cells c.args.cell c.args.self.now.floor) c.in_default.is (c.in_ok-erased.ensures.tidy (held, c.tidy_from.ensures cells right) shown) in
    subst (λ (m : Cells). Visits cells c.args.self.now More m (record c.args.self.now { after = Some c.args.cell; within = None })) (sym left.kept) (collect_past cells c.args.self.now c.args.cell pass next tidy)

pub returns-clause-room : goal.returns-clause-room
returns-clause-room g c = room_none g.R.Rows.seen.overfills 1 c.args.rows.now c.erase_old.new.rows
    (if_none c.in_ok-erased.erased (OnlyReads g.R.Rows.seen c.args.rows.now c.erase_old.new.rows) c.in_default.is c.in_ok-erased.ensures.left).room

pub returns-in_err-erased-clause-thins : goal.returns-in_err-erased-clause-thins
returns-in_err-erased-clause-thins g c = λ held. thins_kept g.R.Rows.seen 1 c.args.rows.now c.erase_old.new.rows c.in_err-erased.ensures.err.kept

pub returns-in-Some-clause-thins : goal.returns-in-Some-clause-thins
returns-in-Some-clause-thins g c = λ held.
    let Known = IsKnown g.R.Rows.seen c.args.rows.now c.args.cell c.args.self.now.floor c.tidy_from.result in
    thins_applied g.R.Rows.seen Known c.args.cell c.args.self.now.floor c.args.rows.now c.erase_old.new.rows
    (on_some c.in_ok-erased.erased c.in-Some.progress (AppliesSuch g.R.Rows.seen (CollectsCell Known (g.R.Rows.seen.cells c.args.rows.now) c.args.cell c.args.self.now.floor) c.args.rows.now c.erase_old.new.rows) c.in-Some.is c.in_ok-erased.ensures.erased) held

pub returns-clause-thins : goal.returns-clause-thins
returns-clause-thins g c = λ held. thins_kept g.R.Rows.seen 1 c.args.rows.now c.erase_old.new.rows
    (if_none c.in_ok-erased.erased (OnlyReads g.R.Rows.seen c.args.rows.now c.erase_old.new.rows) c.in_default.is c.in_ok-erased.ensures.left).kept
