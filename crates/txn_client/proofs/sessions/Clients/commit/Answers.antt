use Rattle.std.proofs.Common.{◌∙◌, ℕ, List, map, length, sym, subst, ap, refl}
use Rattle.std.specs.declared.result.Result.TheVariants.{Err}
use Rattle.cell_key.proofs.Passed.{as_err, passed_kept, same_refusal}
use Rattle.rows.proofs.Calls.{reads_then}
use Rattle.cell_key.specs.Cells.{Cells}
use Rattle.cell_key.specs.declared.refusals.Refusal.{Refusal}
use Rattle.cell_key.specs.declared.refusals.Refusal.TheVariants.{MemtableFull}
use Rattle.oracle.specs.Ranges.{OracleState}
use Rattle.si_model.specs.Answers.{writes_named}
use Rattle.si_model.specs.Transactions.{Commit, CommitConflict, CommitDone}
use Rattle.si_model.specs.PutCells.{all_put_cells}
use Rattle.txn_client.specs.Commits.{CommitsIn, IsCopyRefusal}
use Rattle.txn_client.specs.Takings.{AreFree, IsFirstTaken}
use Rattle.txn_client.specs.Transactions.{GoesAs}
use Rattle.txn_client.specs.Writes.{write_of}
use Rattle.txn_client.specs.declared.writes.Write.{Write}
use Rattle.txn_client.proofs.Buffered.{named_ends, named_itself}
use Rattle.txn_client.proofs.CommitShown.{commit_at, conflict_at, empty_at, none_at, not_less, session_refused_at, some_at, some_writes, storage_at, taken_none, write_refused_at}
use Rattle.txn_client.proofs.Committed.{commit_stamp, commits_by, conflicts_by, no_room_by}
use Rattle.txn_client.proofs.OneReason.{one_reason_kept, one_reason_passed, one_reason_then}
use Rattle.txn_client.proofs.Passed.{at_most_itself}
use Rattle.txn_client.proofs.Refused.{draw_storage, put_storage, read_storage}
use Rattle.txn_client.proofs.sessions.Clients.commit.Goals as goal

pub returns-in_err-found-clause-step : goal.returns-in_err-found-clause-step
returns-in_err-found-clause-step g c = λ held.
    let cells = g.R.Rows.seen.cells c.args.rows.now in
    let e = c.in_err-found.field-0.0 in
    rw (as_err c.from_residual.result e c.from_residual.ensures.1)
    (session_refused_at cells c.args.self.now c.args.oracle.now.last c.args.start (writes_named c.args.asked.now) e
    (subst (λ (n : ℕ). IsCopyRefusal c.args.self.now n c.args.start e) c.last.ensures.last c.in_err-found.ensures.refusal))

pub returns-in_err-writes-clause-step : goal.returns-in_err-writes-clause-step
returns-in_err-writes-clause-step g c = λ held.
    let cells = g.R.Rows.seen.cells c.args.rows.now in
    let self = c.args.self.now in
    let last = c.args.oracle.now.last in
    let s = c.in_ok-found.found.start in
    let before = c.in_ok-found.found.writes in
    let has = subst (λ (n : ℕ). CommitsIn self n c.args.start s before) c.last.ensures.last c.in_ok-found.ensures.session in
    let e = c.in_err-writes.field-0.0 in
    rw (as_err c.from_residual-in_err-writes.result e c.from_residual-in_err-writes.ensures.1)
    (write_refused_at cells cells self last last c.args.start (writes_named c.args.asked.now) s before has refl (at_most_itself _) e c.in_err-writes.ensures.refusal)

pub returns-then-len-eq0-clause-step : goal.returns-then-len-eq0-clause-step
returns-then-len-eq0-clause-step g c = λ held.
    let cells = g.R.Rows.seen.cells c.args.rows.now in
    let self = c.args.self.now in
    let last = c.args.oracle.now.last in
    let s = c.in_ok-found.found.start in
    let before = c.in_ok-found.found.writes in
    let has = subst (λ (n : ℕ). CommitsIn self n c.args.start s before) c.last.ensures.last c.in_ok-found.ensures.session in
    empty_at cells cells self last last c.args.start (writes_named c.args.asked.now) s before has refl (at_most_itself _)
    (taken_none before c.in_ok-writes.writes (writes_named c.args.asked.now) c.len.result c.len.ensures.len c.if-len-eq0.true c.in_ok-writes.ensures.takes)

pub returns-in_err-place-clause-step : goal.returns-in_err-place-clause-step
returns-in_err-place-clause-step g c = λ held.
    let cells = g.R.Rows.seen.cells c.args.rows.now in
    let last = c.args.oracle.now.last in
    let e = c.in_err-place.field-0.0 in
    rw (as_err c.from_residual-in_err-place.result e c.from_residual-in_err-place.ensures.1)
    (storage_at cells (g.R.Rows.seen.cells c.first_taken.new.rows) c.args.self.now last last c.args.start (writes_named c.args.asked.now) c.in_err-place.ensures.reads.kept (at_most_itself _) e (read_storage e c.in_err-place.ensures.refusal))

pub returns-in_err-top-clause-step : goal.returns-in_err-top-clause-step
returns-in_err-top-clause-step g c = λ held.
    let cells = g.R.Rows.seen.cells c.args.rows.now in
    let last = c.args.oracle.now.last in
    let e = c.in_err-top.field-0.0 in
    rw (as_err c.from_residual-in_err-top.result e c.from_residual-in_err-top.ensures.1)
    (storage_at cells (g.R.Rows.seen.cells c.first_taken.new.rows) c.args.self.now last c.top_after_conflict.new.oracle.last c.args.start (writes_named c.args.asked.now) c.in_ok-place.ensures.reads.kept (not_less _ _ c.in_err-top.ensures.stays) e (draw_storage e c.in_err-top.ensures.refusal))

pub returns-in-Some-clause-step : goal.returns-in-Some-clause-step
returns-in-Some-clause-step g c = λ held.
    let cells = g.R.Rows.seen.cells c.args.rows.now in
    let self = c.args.self.now in
    let last = c.args.oracle.now.last in
    let s = c.in_ok-found.found.start in
    let before = c.in_ok-found.found.writes in
    let has = subst (λ (n : ℕ). CommitsIn self n c.args.start s before) c.last.ensures.last c.in_ok-found.ensures.session in
    let place = c.in-Some.place in
    let first = some_at (IsFirstTaken cells c.stamp-session.result c.as_slice.result.now) c.in_ok-place.field-0 place c.in-Some.is (c.in_ok-place.ensures.taken (λ k w there. g.R.Rows.seen.each_readable c.args.rows.now held w.cell.row)) in
    subst (λ (n : ℕ). GoesAs cells self last (Commit c.args.start (writes_named c.args.asked.now)) (CommitConflict n place) (g.R.Rows.seen.cells c.first_taken.new.rows) c.end.new.self c.top_after_conflict.new.oracle.last) (sym c.stamp-session.ensures.stamp)
    (conflict_at cells (g.R.Rows.seen.cells c.first_taken.new.rows) self last c.top_after_conflict.new.oracle.last c.args.start (writes_named c.args.asked.now) s before has c.in_ok-writes.writes c.in_ok-writes.ensures.takes
    c.in_ok-place.ensures.reads.kept c.end.new.self c.in_ok-top.top place c.end.ensures c.in_ok-top.ensures.named (λ is0. (c.in_ok-top.ensures.new is0).0)
    (λ ne. ap (λ (o : OracleState g.row.M.Denot). o.last) (c.in_ok-top.ensures.aside ne)) (λ is0. (c.in_ok-top.ensures.new is0).1 ∙ (c.in_ok-top.ensures.new is0).0)
    (subst (λ (p : ℕ × List Write). IsFirstTaken cells p.0 p.1 place) (λ j. (c.stamp-session.ensures.stamp j, c.as_slice.ensures.writes j)) first))

pub returns-in-Some-clause-does : goal.returns-in-Some-clause-does
returns-in-Some-clause-does g c =
    let last = c.args.oracle.now.last in
    let place = c.in-Some.place in
    conflicts_by g.R.Rows.seen c.args.rows.now c.first_taken.new.rows c.first_taken.new.rows c.in_ok-place.ensures.reads c.args.self.now last c.args.start (writes_named c.args.asked.now) c.in_ok-found.found.writes c.in_ok-writes.writes c.in_ok-found.found.start c.last.result
    c.last.ensures.last c.in_ok-found.ensures.session c.in_ok-writes.ensures.takes c.as_slice.result.now c.stamp-session.result place c.as_slice.ensures.writes c.stamp-session.ensures.stamp
    (λ readable. some_at (IsFirstTaken (g.R.Rows.seen.cells c.args.rows.now) c.stamp-session.result c.as_slice.result.now) c.in_ok-place.field-0 place c.in-Some.is (c.in_ok-place.ensures.taken readable))

pub returns-in_err-commit-clause-step : goal.returns-in_err-commit-clause-step
returns-in_err-commit-clause-step g c = λ held.
    let cells = g.R.Rows.seen.cells c.args.rows.now in
    let last = c.args.oracle.now.last in
    let e = c.in_err-commit.field-0.0 in
    rw (as_err c.from_residual-in_err-commit.result e c.from_residual-in_err-commit.ensures.1)
    (storage_at cells (g.R.Rows.seen.cells c.put_at_once.new.rows) c.args.self.now last c.put_at_once.new.oracle.last c.args.start (writes_named c.args.asked.now) (c.in_err-commit.ensures.reads.kept ∙ c.in_ok-place.ensures.reads.kept) (not_less _ _ c.in_err-commit.ensures.stays) e (put_storage e c.in_err-commit.ensures.refusal))

pub returns-in_err-commit-clause-refused : goal.returns-in_err-commit-clause-refused
returns-in_err-commit-clause-refused g c =
    let put = c.in_err-commit.ensures in
    passed_kept c.from_residual-in_err-commit.result _ (record { same = reads_then c.in_ok-place.ensures.reads put.reads; stays = put.stays; range = put.range; mark = put.mark })

pub returns-in_err-commit-clause-reason : goal.returns-in_err-commit-clause-reason
returns-in_err-commit-clause-reason g c =
    let put = c.in_err-commit.ensures in
    one_reason_passed c.from_residual-in_err-commit.result c.in_err-commit.field-0.0 _ _ _ _ c.from_residual-in_err-commit.ensures.1 (one_reason_then _ _ _ _ _ _ _ c.in_ok-place.ensures.reason put.reason)

pub returns-in_err-commit-clause-full : goal.returns-in_err-commit-clause-full
returns-in_err-commit-clause-full g c = λ is.
    let e = c.in_err-commit.field-0.0 in
    let last = c.args.oracle.now.last in
    no_room_by g.R.Rows.seen c.args.rows.now c.first_taken.new.rows c.first_taken.new.rows c.in_ok-place.ensures.reads c.args.self.now last c.args.start (writes_named c.args.asked.now) c.in_ok-found.found.writes c.in_ok-writes.writes c.in_ok-found.found.start c.last.result
    c.last.ensures.last c.in_ok-found.ensures.session c.in_ok-writes.ensures.takes c.into_vec.result.items _ c.into_vec.ensures
    (commit_stamp last c.args.start last c.stamps_drawn-count.result _ refl c.stamps_drawn-count.ensures.new c.stamps_drawn-count.ensures.named refl)
    (c.in_err-commit.ensures.full (ap (λ (r : Refusal). Err r) (same_refusal c.from_residual-in_err-commit.result e MemtableFull c.from_residual-in_err-commit.ensures.1 is)))

pub returns-clause-step : goal.returns-clause-step
returns-clause-step g c = λ held.
    let cells = g.R.Rows.seen.cells c.args.rows.now in
    let self = c.args.self.now in
    let last = c.args.oracle.now.last in
    let asked = writes_named c.args.asked.now in
    let s = c.in_ok-found.found.start in
    let before = c.in_ok-found.found.writes in
    let has = subst (λ (n : ℕ). CommitsIn self n c.args.start s before) c.last.ensures.last c.in_ok-found.ensures.session in
    let ws = c.in_ok-writes.writes in
    let commit = c.in_ok-commit.commit in
    let reads = c.in_ok-place.ensures.reads in
    let stamp = commit_stamp last c.args.start last c.stamps_drawn-count.result commit refl c.stamps_drawn-count.ensures.new c.stamps_drawn-count.ensures.named c.in_ok-commit.ensures.commit in
    let free = none_at (AreFree cells c.stamp-session.result c.as_slice.result.now _) c.in_ok-place.field-0 c.in_default.is (c.in_ok-place.ensures.free (λ k w there. g.R.Rows.seen.each_readable c.args.rows.now held w.cell.row)) in
    let puts = c.in_ok-commit.ensures.puts in
    let made = puts.made (reads.still held) ∙ (ap (λ (m : Cells). all_put_cells m (map write_of c.into_vec.result.items) s commit) reads.kept ∙ ap (λ (l : List Write). all_put_cells cells (map write_of l) s commit) c.into_vec.ensures) in
    subst (λ (n : ℕ). GoesAs cells self last (Commit c.args.start asked) (CommitDone n commit) (g.R.Rows.seen.cells c.put_at_once.new.rows) c.end-2.new.self c.put_at_once.new.oracle.last) (sym c.stamp-session.ensures.stamp)
    (commit_at cells (g.R.Rows.seen.cells c.put_at_once.new.rows) self last c.put_at_once.new.oracle.last c.args.start asked s before has ws c.in_ok-writes.ensures.takes commit c.end-2.new.self stamp c.in_ok-commit.ensures.limit c.in_ok-commit.ensures.served
    (some_writes ws c.len.result c.len.ensures.len c.if-len-eq0.false)
    (subst (λ (p : ℕ × List Write). AreFree cells p.0 p.1 (length p.1)) (λ j. (c.stamp-session.ensures.stamp j, c.as_slice.ensures.writes j)) free)
    made c.end-2.ensures)

pub returns-clause-reason : goal.returns-clause-reason
returns-clause-reason g c = one_reason_then _ _ _ _ _ _ _ c.in_ok-place.ensures.reason (one_reason_kept _ _ _ _ _ _ c.in_ok-commit.ensures.reason)

pub returns-clause-does : goal.returns-clause-does
returns-clause-does g c =
    let last = c.args.oracle.now.last in
    commits_by g.R.Rows.seen c.args.rows.now c.first_taken.new.rows c.put_at_once.new.rows c.in_ok-place.ensures.reads c.args.self.now last c.args.start (writes_named c.args.asked.now) c.in_ok-found.found.writes c.in_ok-writes.writes c.in_ok-found.found.start c.last.result
    c.last.ensures.last c.in_ok-found.ensures.session c.in_ok-writes.ensures.takes c.as_slice.result.now c.into_vec.result.items c.in_ok-commit.commit c.stamp-session.result c.as_slice.ensures.writes c.into_vec.ensures c.stamp-session.ensures.stamp
    (commit_stamp last c.args.start last c.stamps_drawn-count.result c.in_ok-commit.commit refl c.stamps_drawn-count.ensures.new c.stamps_drawn-count.ensures.named c.in_ok-commit.ensures.commit)
    (λ readable. none_at (AreFree (g.R.Rows.seen.cells c.args.rows.now) c.stamp-session.result c.as_slice.result.now _) c.in_ok-place.field-0 c.in_default.is (c.in_ok-place.ensures.free readable)) c.in_ok-commit.ensures.puts

pub returns-in_err-found-clause-buffered : goal.returns-in_err-found-clause-buffered
returns-in_err-found-clause-buffered g c = named_itself c.args.self.now c.args.start

pub returns-in_err-writes-clause-buffered : goal.returns-in_err-writes-clause-buffered
returns-in_err-writes-clause-buffered g c = named_itself c.args.self.now c.args.start

pub returns-then-len-eq0-clause-buffered : goal.returns-then-len-eq0-clause-buffered
returns-then-len-eq0-clause-buffered g c = named_itself c.args.self.now c.args.start

pub returns-in_err-place-clause-buffered : goal.returns-in_err-place-clause-buffered
returns-in_err-place-clause-buffered g c = named_itself c.args.self.now c.args.start

pub returns-in_err-top-clause-buffered : goal.returns-in_err-top-clause-buffered
returns-in_err-top-clause-buffered g c = named_itself c.args.self.now c.args.start

pub returns-in_err-commit-clause-buffered : goal.returns-in_err-commit-clause-buffered
returns-in_err-commit-clause-buffered g c = named_itself c.args.self.now c.args.start

pub returns-in-Some-clause-buffered : goal.returns-in-Some-clause-buffered
returns-in-Some-clause-buffered g c = named_ends c.args.self.now c.end.new.self c.args.start c.in_ok-top.top c.end.ensures

pub returns-clause-buffered : goal.returns-clause-buffered
returns-clause-buffered g c = named_ends c.args.self.now c.end-2.new.self c.args.start c.in_ok-commit.commit c.end-2.ensures
