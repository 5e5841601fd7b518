use Rattle.std.proofs.Common.{◌∙◌, ◌+◌, ap, refl, Option}
use Rattle.std.specs.Prelude.{is_some, if◌then◌else◌}
use Rattle.std.specs.BTreeMap as btree
use Rattle.cell_key.specs.declared.refusals.Refusal.TheVariants.{Exhausted, NoMemory}
use Rattle.version_collector.specs.declared.collector.Collector.{Collector}
use Rattle.cell_key.proofs.Passed.{as_err}
use Rattle.version_collector.proofs.Table.{begin_full, begin_refused, begins_at, begins_with, is_full, is_room, opens_one, same_entries, same_itself}
use Rattle.version_collector.proofs.collectors.Collectors.begin.Goals as goal

pub returns-then-len-ge-MOST_COLLECTORS-clause-step : goal.returns-then-len-ge-MOST_COLLECTORS-clause-step
returns-then-len-ge-MOST_COLLECTORS-clause-step c = λ cells st reached store shown is.
    (begin_full c.args.self.now c.args.floor (is_full _ _ c.len.ensures.len c.if-len-ge-MOST_COLLECTORS.true) cells st store shown).0

pub returns-then-len-ge-MOST_COLLECTORS-clause-begins : goal.returns-then-len-ge-MOST_COLLECTORS-clause-begins
returns-then-len-ge-MOST_COLLECTORS-clause-begins c = λ cells st reached store shown.
    (begin_full c.args.self.now c.args.floor (is_full _ _ c.len.ensures.len c.if-len-ge-MOST_COLLECTORS.true) cells st store shown).1

pub returns-then-number-gt-MOST_NUMBER-clause-step : goal.returns-then-number-gt-MOST_NUMBER-clause-step
returns-then-number-gt-MOST_NUMBER-clause-step c = λ cells st reached store shown is.
    (begin_refused c.args.self.now c.args.self.now c.args.floor Exhausted (same_itself c.args.self.now) tt cells st store shown).0

pub returns-then-number-gt-MOST_NUMBER-clause-begins : goal.returns-then-number-gt-MOST_NUMBER-clause-begins
returns-then-number-gt-MOST_NUMBER-clause-begins c = λ cells st reached store shown.
    (begin_refused c.args.self.now c.args.self.now c.args.floor Exhausted (same_itself c.args.self.now) tt cells st store shown).1

pub returns-in_err-insert-clause-step : goal.returns-in_err-insert-clause-step
returns-in_err-insert-clause-step c = λ cells st reached store shown is.
    let e = as_err c.from_residual.result NoMemory c.from_residual.ensures.1 in
    rw e ((begin_refused c.args.self.now (record c.args.self.now { collectors = c.insert.new.self }) c.args.floor NoMemory
    (same_entries c.args.self.now (record c.args.self.now { collectors = c.insert.new.self }) refl refl c.in_err-insert.ensures.err) tt cells st store shown).0)

pub returns-in_err-insert-clause-begins : goal.returns-in_err-insert-clause-begins
returns-in_err-insert-clause-begins c = λ cells st reached store shown.
    let e = as_err c.from_residual.result NoMemory c.from_residual.ensures.1 in
    rw e ((begin_refused c.args.self.now (record c.args.self.now { collectors = c.insert.new.self }) c.args.floor NoMemory
    (same_entries c.args.self.now (record c.args.self.now { collectors = c.insert.new.self }) refl refl c.in_err-insert.ensures.err) tt cells st store shown).1)

pub returns-clause-step : goal.returns-clause-step
returns-clause-step c = λ cells st reached store shown is.
    begins_at c.args.self.now (record c.args.self.now { next = c.args.self.now.next + 1; greatest_floor = c.max-self.result; collectors = c.insert.new.self }) c.args.floor
    (is_room _ _ c.len.ensures.len c.if-len-ge-MOST_COLLECTORS.false) c.if-number-gt-MOST_NUMBER.false refl c.max-self.ensures c.in_ok-insert.ensures.updates.0
    (c.in_ok-insert.ensures.len ∙ ap (λ (o : Option Collector). btree.btree_map_len c.args.self.now.collectors + (if is_some o then 0 else 1)) c.in_ok-insert.ensures.old) cells st reached store shown is

pub returns-clause-opens : goal.returns-clause-opens
returns-clause-opens c =
    opens_one c.args.self.now (record c.args.self.now { next = c.args.self.now.next + 1; greatest_floor = c.max-self.result; collectors = c.insert.new.self }) c.args.floor
    (is_room _ _ c.len.ensures.len c.if-len-ge-MOST_COLLECTORS.false) c.if-number-gt-MOST_NUMBER.false refl c.max-self.ensures c.in_ok-insert.ensures.updates.0
    (c.in_ok-insert.ensures.len ∙ ap (λ (o : Option Collector). btree.btree_map_len c.args.self.now.collectors + (if is_some o then 0 else 1)) c.in_ok-insert.ensures.old)

pub returns-clause-begins : goal.returns-clause-begins
returns-clause-begins c = λ cells st reached store shown.
    begins_with c.args.self.now (record c.args.self.now { next = c.args.self.now.next + 1; greatest_floor = c.max-self.result; collectors = c.insert.new.self }) c.args.floor
    (is_room _ _ c.len.ensures.len c.if-len-ge-MOST_COLLECTORS.false) c.if-number-gt-MOST_NUMBER.false refl c.max-self.ensures c.in_ok-insert.ensures.updates.0
    (c.in_ok-insert.ensures.len ∙ ap (λ (o : Option Collector). btree.btree_map_len c.args.self.now.collectors + (if is_some o then 0 else 1)) c.in_ok-insert.ensures.old) cells st reached store shown
