use Rattle.std.proofs.Common.{◌≢◌, ◌∙◌, ◌+◌, sym, ap, subst, refl, Option}
use Rattle.std.specs.Prelude.{is_some, if◌then◌else◌}
use Rattle.std.specs.BTreeMap as btree
use Rattle.cell_key.specs.Names.{IsRow, IsFamily}
use Rattle.cell_key.specs.declared.refusals.Refusal.TheVariants.{Exhausted, NoMemory, Damaged}
use Rattle.si_model.specs.Machine as machine
use Rattle.si_model.specs.Reads.{IsNameRefusal, cell_of}
use Rattle.si_model.specs.declared.replies.Cell.{Cell}
use Rattle.clean_up.specs.Locks.{LacksPlace, Stands}
use Rattle.clean_up.specs.Shows.{Steps}
use Rattle.clean_up.specs.declared.cleaner.Cleaner.{Cleaner}
use Rattle.cell_key.proofs.Passed.{as_err, passed_err, passed_none, same_refusal}
use Rattle.clean_up.proofs.Table.{begins_with, full_at, is_full, is_room, name_refused_at, no_lacking, no_lock_at, opens_at, opens_one, read_storage, refused_at, same_entries, same_itself, standing_none, standing_some}
use Rattle.clean_up.proofs.cleaners.Cleaners.begin.Goals as goal

no_damage : NoMemory ≢ Damaged
no_damage is = cc

pub returns-in_err-cell-clause-step : goal.returns-in_err-cell-clause-step
returns-in_err-cell-clause-step g c = λ held.
    let e = as_err c.from_residual.result c.in_err-cell.field-0.0 c.from_residual.ensures.1 in
    rw e (name_refused_at (g.R.Rows.seen.cells c.args.rows.now) c.args.self.now c.args.self.now (cell_of c.args.row.now c.args.family.now) c.in_err-cell.field-0.0 (same_itself c.args.self.now) c.in_err-cell.ensures.refusal)

pub returns-in_err-lock-clause-step : goal.returns-in_err-lock-clause-step
returns-in_err-lock-clause-step g c = λ held.
    let e = as_err c.from_residual-in_err-lock.result c.in_err-lock.field-0.0 c.from_residual-in_err-lock.ensures.1 in
    rw (e, c.in_err-lock.ensures.reads.kept) (refused_at (g.R.Rows.seen.cells c.args.rows.now) c.args.self.now c.args.self.now (machine.CleanBegin (cell_of c.args.row.now c.args.family.now)) c.in_err-lock.field-0.0
    (same_itself c.args.self.now) (read_storage c.in_err-lock.field-0.0 c.in_err-lock.ensures.refusal))

pub returns-in_err-lock-clause-undamaged : goal.returns-in_err-lock-clause-undamaged
returns-in_err-lock-clause-undamaged g c = λ held st reached store shown is.
    no_lacking (g.R.Rows.seen.cells c.args.rows.now) st reached store c.in_ok-cell.cell (c.in_err-lock.ensures.damaged (subst (λ (x : Cell). g.R.Rows.seen.readable c.args.rows.now x.row) (sym c.in_ok-cell.ensures.ok) held) (same_refusal c.from_residual-in_err-lock.result c.in_err-lock.field-0.0 Damaged c.from_residual-in_err-lock.ensures.1 is))

pub returns-in_default-clause-step : goal.returns-in_default-clause-step
returns-in_default-clause-step g c = λ held.
    rw c.in_ok-lock.ensures.reads.kept (no_lock_at (g.R.Rows.seen.cells c.args.rows.now) c.args.self.now (cell_of c.args.row.now c.args.family.now) c.in_ok-cell.ensures.row c.in_ok-cell.ensures.family
    (standing_none (g.R.Rows.seen.cells c.args.rows.now) c.in_ok-cell.cell (cell_of c.args.row.now c.args.family.now) c.in_ok-lock.field-0 c.in_default.is c.in_ok-cell.ensures.ok (c.in_ok-lock.ensures.found (g.R.Rows.seen.each_readable c.args.rows.now held c.in_ok-cell.cell.row))))

pub returns-then-len-ge-MOST_CLEANERS-clause-step : goal.returns-then-len-ge-MOST_CLEANERS-clause-step
returns-then-len-ge-MOST_CLEANERS-clause-step g c = λ held.
    let stands = standing_some (g.R.Rows.seen.cells c.args.rows.now) c.in_ok-cell.cell c.in_ok-lock.field-0 c.in-Some.lock c.in-Some.is (c.in_ok-lock.ensures.found (g.R.Rows.seen.each_readable c.args.rows.now held c.in_ok-cell.cell.row)) in
    rw c.in_ok-lock.ensures.reads.kept (full_at (g.R.Rows.seen.cells c.args.rows.now) c.args.self.now (cell_of c.args.row.now c.args.family.now) c.in-Some.lock c.in_ok-cell.ensures.row c.in_ok-cell.ensures.family
    (subst (λ (x : Cell). Stands (g.R.Rows.seen.cells c.args.rows.now) x c.in-Some.lock) c.in_ok-cell.ensures.ok stands) (is_full _ _ c.len.ensures.len c.if-len-ge-MOST_CLEANERS.true))

pub returns-then-number-gt-MOST_NUMBER-clause-step : goal.returns-then-number-gt-MOST_NUMBER-clause-step
returns-then-number-gt-MOST_NUMBER-clause-step g c = λ held.
    rw c.in_ok-lock.ensures.reads.kept (refused_at (g.R.Rows.seen.cells c.args.rows.now) c.args.self.now c.args.self.now (machine.CleanBegin (cell_of c.args.row.now c.args.family.now)) Exhausted (same_itself c.args.self.now) tt)

pub returns-in_err-insert-clause-step : goal.returns-in_err-insert-clause-step
returns-in_err-insert-clause-step g c = λ held.
    let e = as_err c.from_residual-in_err-insert.result NoMemory c.from_residual-in_err-insert.ensures.1 in
    rw (e, c.in_ok-lock.ensures.reads.kept) (refused_at (g.R.Rows.seen.cells c.args.rows.now) c.args.self.now (record c.args.self.now { cleaners = c.insert.new.self }) (machine.CleanBegin (cell_of c.args.row.now c.args.family.now)) NoMemory
    (same_entries c.args.self.now (record c.args.self.now { cleaners = c.insert.new.self }) refl c.in_err-insert.ensures.err) tt)

pub returns-clause-step : goal.returns-clause-step
returns-clause-step g c = λ held.
    let same = c.in_ok-cell.ensures.ok in
    let stands = standing_some (g.R.Rows.seen.cells c.args.rows.now) c.in_ok-cell.cell c.in_ok-lock.field-0 c.in-Some.lock c.in-Some.is (c.in_ok-lock.ensures.found (g.R.Rows.seen.each_readable c.args.rows.now held c.in_ok-cell.cell.row)) in
    rw (c.in_ok-lock.ensures.reads.kept, c.stamp-start.ensures.stamp)
    (subst (λ (x : Cell). Steps (g.R.Rows.seen.cells c.args.rows.now) c.args.self.now (machine.CleanBegin x) (machine.Cleaning c.args.self.now.next c.in-Some.lock.start) (g.R.Rows.seen.cells c.args.rows.now) (record c.args.self.now { next = c.args.self.now.next + 1; cleaners = c.insert.new.self })) same
    (opens_at (g.R.Rows.seen.cells c.args.rows.now) c.args.self.now (record c.args.self.now { next = c.args.self.now.next + 1; cleaners = c.insert.new.self }) c.in_ok-cell.cell c.in-Some.lock
    (subst (λ (x : Cell). IsRow x.row) (sym same) c.in_ok-cell.ensures.row) (subst (λ (x : Cell). IsFamily x.family) (sym same) c.in_ok-cell.ensures.family) stands
    (is_room _ _ c.len.ensures.len c.if-len-ge-MOST_CLEANERS.false) c.if-number-gt-MOST_NUMBER.false refl c.in_ok-insert.ensures.updates.0
    (c.in_ok-insert.ensures.len ∙ ap (λ (o : Option Cleaner). btree.btree_map_len c.args.self.now.cleaners + (if is_some o then 0 else 1)) c.in_ok-insert.ensures.old)))

pub returns-in_err-cell-clause-found : goal.returns-in_err-cell-clause-found
returns-in_err-cell-clause-found g c = λ held. passed_none c.from_residual.result c.in_err-cell.field-0.0 _ c.from_residual.ensures.1

pub returns-in_err-cell-clause-damaged : goal.returns-in_err-cell-clause-damaged
returns-in_err-cell-clause-damaged g c = λ held.
    passed_err c.from_residual.result c.in_err-cell.field-0.0 _ c.from_residual.ensures.1
    (λ is. absurd (subst (IsNameRefusal (cell_of c.args.row.now c.args.family.now)) is c.in_err-cell.ensures.refusal))

pub returns-in_err-lock-clause-found : goal.returns-in_err-lock-clause-found
returns-in_err-lock-clause-found g c = λ held. passed_none c.from_residual-in_err-lock.result c.in_err-lock.field-0.0 _ c.from_residual-in_err-lock.ensures.1

pub returns-in_err-lock-clause-damaged : goal.returns-in_err-lock-clause-damaged
returns-in_err-lock-clause-damaged g c = λ held.
    passed_err c.from_residual-in_err-lock.result c.in_err-lock.field-0.0 _ c.from_residual-in_err-lock.ensures.1
    (λ is. subst (λ (x : Cell). LacksPlace (g.R.Rows.seen.cells c.args.rows.now) x) c.in_ok-cell.ensures.ok (c.in_err-lock.ensures.damaged (subst (λ (x : Cell). g.R.Rows.seen.readable c.args.rows.now x.row) (sym c.in_ok-cell.ensures.ok) held) is))

pub returns-in_default-clause-found : goal.returns-in_default-clause-found
returns-in_default-clause-found g c = λ held.
    standing_none (g.R.Rows.seen.cells c.args.rows.now) c.in_ok-cell.cell (cell_of c.args.row.now c.args.family.now) c.in_ok-lock.field-0 c.in_default.is c.in_ok-cell.ensures.ok (c.in_ok-lock.ensures.found (g.R.Rows.seen.each_readable c.args.rows.now held c.in_ok-cell.cell.row))

pub returns-in_err-insert-clause-found : goal.returns-in_err-insert-clause-found
returns-in_err-insert-clause-found g c = λ held. passed_none c.from_residual-in_err-insert.result NoMemory _ c.from_residual-in_err-insert.ensures.1

pub returns-in_err-insert-clause-damaged : goal.returns-in_err-insert-clause-damaged
returns-in_err-insert-clause-damaged g c = λ held. passed_err c.from_residual-in_err-insert.result NoMemory _ c.from_residual-in_err-insert.ensures.1 (λ is. absurd (no_damage is))

pub returns-clause-found : goal.returns-clause-found
returns-clause-found g c = λ held.
    let stands = standing_some (g.R.Rows.seen.cells c.args.rows.now) c.in_ok-cell.cell c.in_ok-lock.field-0 c.in-Some.lock c.in-Some.is (c.in_ok-lock.ensures.found (g.R.Rows.seen.each_readable c.args.rows.now held c.in_ok-cell.cell.row)) in
    begins_with (g.R.Rows.seen.cells c.args.rows.now) c.args.self.now (record c.args.self.now { next = c.args.self.now.next + 1; cleaners = c.insert.new.self }) c.in_ok-cell.cell (cell_of c.args.row.now c.args.family.now) c.in-Some.lock _
    c.in_ok-cell.ensures.ok c.stamp-start.ensures.stamp stands c.in_ok-insert.ensures.updates.0

pub returns-in_err-cell-clause-opens : goal.returns-in_err-cell-clause-opens
returns-in_err-cell-clause-opens g c = passed_none c.from_residual.result c.in_err-cell.field-0.0 _ c.from_residual.ensures.1

pub returns-in_err-lock-clause-opens : goal.returns-in_err-lock-clause-opens
returns-in_err-lock-clause-opens g c = passed_none c.from_residual-in_err-lock.result c.in_err-lock.field-0.0 _ c.from_residual-in_err-lock.ensures.1

pub returns-in_default-clause-opens : goal.returns-in_default-clause-opens
returns-in_default-clause-opens g c = same_itself c.args.self.now

pub returns-in_err-insert-clause-opens : goal.returns-in_err-insert-clause-opens
returns-in_err-insert-clause-opens g c = passed_none c.from_residual-in_err-insert.result NoMemory _ c.from_residual-in_err-insert.ensures.1

pub returns-clause-opens : goal.returns-clause-opens
returns-clause-opens g c =
    opens_one c.args.self.now (record c.args.self.now { next = c.args.self.now.next + 1; cleaners = c.insert.new.self }) c.in_ok-cell.cell (cell_of c.args.row.now c.args.family.now) c.in-Some.lock _
    c.in_ok-cell.ensures.ok c.stamp-start.ensures.stamp refl c.in_ok-insert.ensures.updates.0
