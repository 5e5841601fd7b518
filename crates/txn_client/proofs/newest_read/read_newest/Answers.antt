use Rattle.std.proofs.Common.{List, ℕ, inl, sym, subst}
use Rattle.cell_key.specs.Columns.{NamesWrite}
use Rattle.si_model.specs.declared.replies.Found.TheVariants.{Pending}
use Rattle.txn_client.specs.Reads.{IsFound}
use Rattle.txn_client.proofs.ReadCells.{data_found, data_missing, last_record, newest_lock}
use Rattle.txn_client.proofs.newest_read.read_newest.Goals as goal

pub returns-in-Some-clause-found : goal.returns-in-Some-clause-found
returns-in-Some-clause-found g c = λ held newest.
    let cells = g.R.Rows.seen.cells c.args.rows.now in
    let pending = c.in-Some.pending in
    subst (λ (t : ℕ). IsFound cells c.args.cell.now c.args.start (Pending t)) (sym c.stamp.ensures) (newest_lock cells c.args.cell.now c.args.start pending.0 c.args.newest.lock pending.1 c.in-Some.is newest.of_lock)

pub returns-in_default-decode-clause-damaged : goal.returns-in_default-decode-clause-damaged
returns-in_default-decode-clause-damaged g c = λ held newest _.
    let cells = g.R.Rows.seen.cells c.args.rows.now in
    let last = c.in-Some-write.last in (
      last.0,
      last.1,
      last_record cells c.args.cell.now c.args.start last.0 c.args.newest.write last.1 c.in-Some-write.is newest.of_write,
      inl (λ t kind names. c.in_default-decode.ensures.none t kind (subst (λ (bytes : List ℕ). NamesWrite bytes t kind) (sym c.value.ensures) names)),
    )

pub returns-in-Some-2-clause-found : goal.returns-in-Some-2-clause-found
returns-in-Some-2-clause-found g c = λ held newest.
    let cells = g.R.Rows.seen.cells c.args.rows.now in
    let last = c.in-Some-write.last in
    let record_is = c.in-Some-decode.record in
    let found = c.in_ok-value-in-Set.ensures.found held c.args.start newest.of_data in
    data_found cells c.args.cell.now c.args.start last.0 record_is.start c.args.newest.lock c.args.newest.write record_is.kind last.1 c.in-Some-2.value.items c.in_default.is c.in-Some-write.is
    (subst (λ (bytes : List ℕ). NamesWrite bytes record_is.start record_is.kind) c.value.ensures c.in-Some-decode.ensures.named) c.in-Set.is newest.of_lock newest.of_write (sym (rw c.in-Some-2.is at found))

pub returns-clause-damaged : goal.returns-clause-damaged
returns-clause-damaged g c = λ held newest _.
    let cells = g.R.Rows.seen.cells c.args.rows.now in
    let last = c.in-Some-write.last in
    let record_is = c.in-Some-decode.record in
    let found = c.in_ok-value-in-Set.ensures.found held c.args.start newest.of_data in
    data_missing cells c.args.cell.now c.args.start last.0 record_is.start c.args.newest.write record_is.kind last.1 c.in-Some-write.is
    (subst (λ (bytes : List ℕ). NamesWrite bytes record_is.start record_is.kind) c.value.ensures c.in-Some-decode.ensures.named) c.in-Set.is newest.of_write (sym (rw c.in-None.is at found))
