use Rattle.std.proofs.Common.{◌∙◌, ◌+◌, ℕ, length, subst, sym, ap, refl}
use Rattle.std.specs.declared.result.Result.TheVariants.{Err}
use Rattle.cell_key.proofs.Passed.{as_err}
use Rattle.cell_key.specs.declared.refusals.Refusal.{Refusal}
use Rattle.oracle.specs.Ranges.{OracleState}
use Rattle.si_model.specs.Answers.{told_items}
use Rattle.txn_client.specs.Buffers.{BeginsEmpty, BuffersNone}
use Rattle.txn_client.specs.declared.sessions.Clients.{Clients}
use Rattle.txn_client.specs.Transactions.{HasSession, IsSessionRefusal}
use Rattle.txn_client.proofs.Buffered.{named_itself, named_same, named_stopped, unnamed_begun, unnamed_stopped}
use Rattle.txn_client.proofs.ReadsShown.{bad_count, good_count, crowded_refusal, unknown_refusal, ends_open, ends_stopped, miscounts_at, session_refused_at, read_refused_at, begin_refused_at, reads_named_at, reads_new_at, steps_to}
use Rattle.txn_client.proofs.sessions.Clients.read.Goals as goal
use Rattle.txn_client.proofs.sessions.Clients.read.Goals.{then-start-eq0+in_ok-begin, else-start-eq0}

pub returns-then-is_empty-clause-step : goal.returns-then-is_empty-clause-step
returns-then-is_empty-clause-step g c = λ held.
    miscounts_at (g.R.Rows.seen.cells c.args.rows.now) (g.R.Rows.seen.cells c.args.rows.now) c.args.self.now c.args.oracle.now.last c.args.start c.args.names.now c.args.stays_open refl
    (bad_count (length c.args.names.now) c.is_empty.result c.is_empty.ensures c.then-is_empty.either)

pub returns-in_err-session-clause-step : goal.returns-in_err-session-clause-step
returns-in_err-session-clause-step g c = λ held.
    let cells = g.R.Rows.seen.cells c.args.rows.now in
    let e = c.in_err-session.field-0.0 in
    rw (as_err c.from_residual.result e c.from_residual.ensures.1)
    (session_refused_at cells cells c.args.self.now c.args.oracle.now.last c.args.start c.args.names.now c.args.stays_open refl (good_count (length c.args.names.now) c.is_empty.result c.is_empty.ensures c.if-is_empty.false c.if-names-gt-MOST_READ.false)
    e (subst (λ (n : ℕ). IsSessionRefusal c.args.self.now n c.args.start e) c.last.ensures.last c.in_err-session.ensures.refusal))

pub returns-in_err-session-clause-causes : goal.returns-in_err-session-clause-causes
returns-in_err-session-clause-causes g c = λ few st shown.
    let e = c.in_err-session.field-0.0 in
    let is = as_err c.from_residual.result e c.from_residual.ensures.1 in (
      λ some gone. is ∙ ap (λ (r : Refusal). Err r) (unknown_refusal c.args.self.now c.last.result c.args.start st e some shown gone c.in_err-session.ensures.refusal),
      λ is0 crowded. is ∙ ap (λ (r : Refusal). Err r) (crowded_refusal c.args.self.now c.last.result c.args.start st e is0 shown crowded c.in_err-session.ensures.refusal),
    )

pub returns-in_err-found-clause-step : goal.returns-in_err-found-clause-step
returns-in_err-found-clause-step g c = λ held.
    let cells = g.R.Rows.seen.cells c.args.rows.now in
    let e = c.in_err-found.field-0.0 in
    rw (as_err c.from_residual-in_err-found.result e c.from_residual-in_err-found.ensures.1)
    (read_refused_at cells (g.R.Rows.seen.cells c.read_all.new.rows) c.args.self.now c.args.oracle.now.last c.args.start c.args.names.now c.args.stays_open c.in_err-found.ensures.reads.kept
    (good_count (length c.args.names.now) c.is_empty.result c.is_empty.ensures c.if-is_empty.false c.if-names-gt-MOST_READ.false) c.in_ok-session.session e
    (subst (λ (n : ℕ). HasSession c.args.self.now n c.args.start c.in_ok-session.session) c.last.ensures.last c.in_ok-session.ensures.session)
    (c.in_err-found.ensures.refused (λ row from. g.R.Rows.seen.each_readable c.args.rows.now held row)))

pub returns-in_err-begin-clause-step : goal.returns-in_err-begin-clause-step
returns-in_err-begin-clause-step g c = λ held.
    let cells = g.R.Rows.seen.cells c.args.rows.now in
    let e = c.in_err-begin.field-0.0 in
    rw (as_err c.from_residual-in_err-begin.result e c.from_residual-in_err-begin.ensures.1)
    (begin_refused_at cells (g.R.Rows.seen.cells c.read_all.new.rows) c.args.self.now c.args.oracle.now.last c.args.start c.args.names.now c.args.stays_open c.in_ok-found.ensures.reads.kept
    (good_count (length c.args.names.now) c.is_empty.result c.is_empty.ensures c.if-is_empty.false c.if-names-gt-MOST_READ.false) c.begin.new.self c.begin.new.stamps.last e c.if-start-eq0.true (c.in_err-begin.ensures.step cells))

pub returns-then-stays_open-clause-step : goal.returns-then-stays_open-clause-step
returns-then-stays_open-clause-step g c = λ held.
    let cells = g.R.Rows.seen.cells c.args.rows.now in
    let s = c.in_ok-session.session in
    let has = subst (λ (n : ℕ). HasSession c.args.self.now n c.args.start s) c.last.ensures.last c.in_ok-session.ensures.session in
    let read = c.in_ok-found.ensures.read (λ row from. g.R.Rows.seen.each_readable c.args.rows.now held row) in
    let few = good_count (length c.args.names.now) c.is_empty.result c.is_empty.ensures c.if-is_empty.false c.if-names-gt-MOST_READ.false in
    let self = c.args.self.now in
    let last = c.args.oracle.now.last in
    let end = ends_open cells s c.if-start-eq0.self c.if-start-eq0.oracle.last c.args.stays_open c.if-stays_open.true in
    elim c.if-start-eq0.branch [
      | then-start-eq0+in_ok-begin w ↦ reads_new_at cells (g.R.Rows.seen.cells c.read_all.new.rows) self last c.args.start c.args.names.now c.args.stays_open c.in_ok-found.ensures.reads.kept few s w.in_ok-begin.field-0 (told_items c.in_ok-found.found.items) read
          w.if-start-eq0.true w.in_ok-begin.ensures.drawn.next has c.if-start-eq0.self c.if-start-eq0.oracle.last (steps_to w.self-is (ap (λ (o : OracleState g.row.M.Denot). o.last) w.oracle-is) (w.in_ok-begin.ensures.step cells)) _ end
      | else-start-eq0 w ↦ reads_named_at cells (g.R.Rows.seen.cells c.read_all.new.rows) self last c.args.start c.args.names.now c.args.stays_open c.in_ok-found.ensures.reads.kept few s (told_items c.in_ok-found.found.items) read
          w.if-start-eq0.false has c.if-start-eq0.self c.if-start-eq0.oracle.last w.self-is (ap (λ (o : OracleState g.row.M.Denot). o.last) w.oracle-is) _ end
    ]

pub returns-clause-step : goal.returns-clause-step
returns-clause-step g c = λ held.
    let cells = g.R.Rows.seen.cells c.args.rows.now in
    let s = c.in_ok-session.session in
    let has = subst (λ (n : ℕ). HasSession c.args.self.now n c.args.start s) c.last.ensures.last c.in_ok-session.ensures.session in
    let read = c.in_ok-found.ensures.read (λ row from. g.R.Rows.seen.each_readable c.args.rows.now held row) in
    let few = good_count (length c.args.names.now) c.is_empty.result c.is_empty.ensures c.if-is_empty.false c.if-names-gt-MOST_READ.false in
    let self = c.args.self.now in
    let last = c.args.oracle.now.last in
    let end = ends_stopped cells s c.if-start-eq0.self c.stop.new.self c.if-start-eq0.oracle.last c.args.stays_open c.stop.result c.if-stays_open.false c.stop.ensures.refusal (c.stop.ensures.step cells c.if-start-eq0.oracle.last) in
    elim c.if-start-eq0.branch [
      | then-start-eq0+in_ok-begin w ↦ reads_new_at cells (g.R.Rows.seen.cells c.read_all.new.rows) self last c.args.start c.args.names.now c.args.stays_open c.in_ok-found.ensures.reads.kept few s w.in_ok-begin.field-0 (told_items c.in_ok-found.found.items) read
          w.if-start-eq0.true w.in_ok-begin.ensures.drawn.next has c.if-start-eq0.self c.if-start-eq0.oracle.last (steps_to w.self-is (ap (λ (o : OracleState g.row.M.Denot). o.last) w.oracle-is) (w.in_ok-begin.ensures.step cells)) _ end
      | else-start-eq0 w ↦ reads_named_at cells (g.R.Rows.seen.cells c.read_all.new.rows) self last c.args.start c.args.names.now c.args.stays_open c.in_ok-found.ensures.reads.kept few s (told_items c.in_ok-found.found.items) read
          w.if-start-eq0.false has c.if-start-eq0.self c.if-start-eq0.oracle.last w.self-is (ap (λ (o : OracleState g.row.M.Denot). o.last) w.oracle-is) _ end
    ]

pub returns-then-is_empty-clause-buffered : goal.returns-then-is_empty-clause-buffered
returns-then-is_empty-clause-buffered g c = named_itself c.args.self.now c.args.start

pub returns-in_err-session-clause-buffered : goal.returns-in_err-session-clause-buffered
returns-in_err-session-clause-buffered g c = named_itself c.args.self.now c.args.start

pub returns-in_err-found-clause-buffered : goal.returns-in_err-found-clause-buffered
returns-in_err-found-clause-buffered g c = named_itself c.args.self.now c.args.start

pub returns-in_err-begin-clause-buffered : goal.returns-in_err-begin-clause-buffered
returns-in_err-begin-clause-buffered g c = named_same c.args.self.now c.begin.new.self c.args.start c.in_err-begin.ensures.same

pub returns-then-stays_open-clause-buffered : goal.returns-then-stays_open-clause-buffered
returns-then-stays_open-clause-buffered g c = elim c.if-start-eq0.branch [
  | then-start-eq0+in_ok-begin w ↦ rw w.self-is (unnamed_begun c.args.self.now w.begin.new.self c.args.start w.in_ok-begin.field-0 w.if-start-eq0.true w.in_ok-begin.ensures.buffered)
  | else-start-eq0 w ↦ rw w.self-is (named_itself c.args.self.now c.args.start)
]

pub returns-clause-buffered : goal.returns-clause-buffered
returns-clause-buffered g c =
    let s = c.in_ok-session.session in
    let stopped = c.stop.ensures.buffered in
    elim c.if-start-eq0.branch [
      | then-start-eq0+in_ok-begin w ↦ unnamed_stopped c.args.self.now _ c.stop.new.self c.args.start w.in_ok-begin.field-0 s w.if-start-eq0.true
          (w.in_ok-begin.ensures.drawn.next ∙ ap (λ n. n + 1) (sym c.last.ensures.last) ∙ sym (c.in_ok-session.ensures.session.is_new w.if-start-eq0.true).0)
          (subst (λ (k : Clients). BeginsEmpty c.args.self.now k w.in_ok-begin.field-0) (sym w.self-is) w.in_ok-begin.ensures.buffered) stopped
      | else-start-eq0 w ↦ named_stopped c.args.self.now c.stop.new.self c.args.start s w.if-start-eq0.false (c.in_ok-session.ensures.session.is_open w.if-start-eq0.false).0
          (subst (λ (k : Clients). BuffersNone k c.stop.new.self s) w.self-is stopped)
    ]
