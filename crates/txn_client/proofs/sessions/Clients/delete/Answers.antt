use Rattle.std.proofs.Common.{◌≡◌, Option, refl, sym, ap, subst, ◌∙◌}
use Rattle.cell_key.specs.declared.refusals.Refusal.{Refusal}
use Rattle.txn_client.proofs.Exact.{cell_unknown, is_open}
use Rattle.std.specs.Prelude.{IsSome, Some, None}
use Rattle.std.specs.Borrow.{MutBor}
use Rattle.std.specs.Option.{option_copied_mut}
use Rattle.std.specs.Ordering.{nat_cmp}
use Rattle.std.specs.BTreeMap as btree
use Rattle.std.specs.declared.result.Result.{Result}
use Rattle.std.specs.declared.result.Result.TheVariants.{Ok, Err}
use Rattle.cell_key.specs.Names.{IsRow, IsFamily}
use Rattle.si_model.specs.declared.replies.Cell.{Cell}
use Rattle.si_model.specs.Machine as machine
use Rattle.si_model.specs.Replies.{result_reply}
use Rattle.si_model.specs.Reads.{cell_of}
use Rattle.txn_client.specs.Shows.{Steps}
use Rattle.txn_client.specs.declared.session.Session.{Session}
use Rattle.cell_key.proofs.Passed.{as_err, passed_kept}
use Rattle.cell_key.proofs.Reasons.{not_refused}
use Rattle.txn_client.proofs.Buffered.{buffers_at, buffers_itself, buffers_same, same_err}
use Rattle.txn_client.proofs.Table.{same_each, deletes_at, delete_refused_at, open_same}
use Rattle.txn_client.proofs.sessions.Clients.delete.Goals as goal

pub returns-in_err-cell-clause-step : goal.returns-in_err-cell-clause-step
returns-in_err-cell-clause-step c = λ cells last.
    let e = as_err c.from_residual.result c.in_err-cell.field-0.0 c.from_residual.ensures.1 in
    rw e (delete_refused_at cells c.args.self.now last c.args.start (cell_of c.args.row.now c.args.family.now) c.in_err-cell.field-0.0 c.in_err-cell.ensures.refusal)

pub returns-clause-step : goal.returns-clause-step
returns-clause-step c = λ cells last.
    let session = c.unwrap-session.result.now in
    let was = sym c.get_mut.ensures.value ∙ ap option_copied_mut c.unwrap-session.ensures in
    let there : IsSome (btree.get nat_cmp c.args.self.now.sessions c.args.start) = subst (λ (o : Option Session). IsSome o) (sym was) refl in
    let w = record session { writes = c.buffer.new.self } in
    let lent = c.get_mut.follows.holds w in
    let same = c.in_ok-cell.ensures.ok in
    let new = record c.args.self.now { sessions = c.get_mut.follows.lender w; buffered = c.in_ok-bytes.bytes } in
    let done : Result (Unit {0}) Refusal = Ok tt in
    subst (λ (x : Cell). Steps cells c.args.self.now last (machine.Delete c.args.start x) (result_reply (λ _. machine.DeleteDone) done) cells new last) same
    (deletes_at cells c.args.self.now new last c.args.start session w c.in_ok-cell.cell was (open_same c.args.self.now c.args.start session was c.in_ok-cell.ensures.open)
    refl refl refl (subst (λ (x : Cell). IsRow x.row) (sym same) c.in_ok-cell.ensures.row) (subst (λ (x : Cell). IsFamily x.family) (sym same) c.in_ok-cell.ensures.family)
    refl (lent.3 there).0 lent.2
    done c.in_ok-bytes.ensures.ok c.in_ok-bytes.ensures.room tt tt (λ is. absurd (not_refused _ _ is)))

pub returns-in_err-bytes-clause-step : goal.returns-in_err-bytes-clause-step
returns-in_err-bytes-clause-step c = λ cells last.
    let session = c.unwrap-session.result.now in
    let was = sym c.get_mut.ensures.value ∙ ap option_copied_mut c.unwrap-session.ensures in
    let there : IsSome (btree.get nat_cmp c.args.self.now.sessions c.args.start) = subst (λ (o : Option Session). IsSome o) (sym was) refl in
    let w = record session { writes = c.buffer.new.self } in
    let lent = c.get_mut.follows.holds w in
    let same = c.in_ok-cell.ensures.ok in
    let new = record c.args.self.now { sessions = c.get_mut.follows.lender w } in
    let refused : Result (Unit {0}) Refusal = Err c.in_err-bytes.field-0.0 in
    rw (as_err c.from_residual-in_err-bytes.result c.in_err-bytes.field-0.0 c.from_residual-in_err-bytes.ensures.1) (
    subst (λ (x : Cell). Steps cells c.args.self.now last (machine.Delete c.args.start x) (result_reply (λ _. machine.DeleteDone) refused) cells new last) same
    (deletes_at cells c.args.self.now new last c.args.start session w c.in_ok-cell.cell was (open_same c.args.self.now c.args.start session was c.in_ok-cell.ensures.open)
    refl refl refl (subst (λ (x : Cell). IsRow x.row) (sym same) c.in_ok-cell.ensures.row) (subst (λ (x : Cell). IsFamily x.family) (sym same) c.in_ok-cell.ensures.family)
    refl (lent.3 there).0 lent.2
    refused tt tt c.in_err-bytes.ensures.err c.in_err-bytes.ensures.refusal (λ is. c.in_err-bytes.ensures.full (same_err _ _ is))))

pub returns-in_err-cell-clause-unknown : goal.returns-in_err-cell-clause-unknown
returns-in_err-cell-clause-unknown c = λ st shown gone.
    let e = as_err c.from_residual.result c.in_err-cell.field-0.0 c.from_residual.ensures.1 in
    e ∙ ap (λ (r : Refusal). Err r) (cell_unknown c.args.self.now c.args.start st shown _ _ gone c.in_err-cell.ensures.refusal)

pub returns-clause-unknown : goal.returns-clause-unknown
returns-clause-unknown c = λ st shown gone. absurd (is_open c.args.self.now c.args.start st shown gone c.in_ok-cell.ensures.open)

pub returns-in_err-bytes-clause-unknown : goal.returns-in_err-bytes-clause-unknown
returns-in_err-bytes-clause-unknown c = λ st shown gone. absurd (is_open c.args.self.now c.args.start st shown gone c.in_ok-cell.ensures.open)

pub returns-in_err-cell-clause-err : goal.returns-in_err-cell-clause-err
returns-in_err-cell-clause-err c = rw (as_err c.from_residual.result c.in_err-cell.field-0.0 c.from_residual.ensures.1) (record { top = refl; buffered = refl; limit = refl; each = λ t. refl })

pub returns-in_err-bytes-clause-err : goal.returns-in_err-bytes-clause-err
returns-in_err-bytes-clause-err c =
    let session = c.unwrap-session.result.now in
    let was = sym c.get_mut.ensures.value ∙ ap option_copied_mut c.unwrap-session.ensures in
    let there : IsSome (btree.get nat_cmp c.args.self.now.sessions c.args.start) = subst (λ (o : Option Session). IsSome o) (sym was) refl in
    let w = record session { writes = c.buffer.new.self } in
    let lent = c.get_mut.follows.holds w in
    passed_kept c.from_residual-in_err-bytes.result _ (record {
      top = refl;
      buffered = refl;
      limit = refl;
      each = same_each (btree.get nat_cmp c.args.self.now.sessions) (btree.get nat_cmp (c.get_mut.follows.lender w)) c.args.start session w was (ap (λ ws. record session { writes = ws }) c.in_err-bytes.ensures.err) (lent.3 there).0;
    })

pub returns-in_err-bytes-clause-buffered : goal.returns-in_err-bytes-clause-buffered
returns-in_err-bytes-clause-buffered c =
    let session = c.unwrap-session.result.now in
    let was = sym c.get_mut.ensures.value ∙ ap option_copied_mut c.unwrap-session.ensures in
    let there : IsSome (btree.get nat_cmp c.args.self.now.sessions c.args.start) = subst (λ (o : Option Session). IsSome o) (sym was) refl in
    let w = record session { writes = c.buffer.new.self } in
    let lent = c.get_mut.follows.holds w in
    buffers_same c.args.self.now (record c.args.self.now { sessions = c.get_mut.follows.lender w }) c.args.start (record {
      top = refl;
      buffered = refl;
      limit = refl;
      each = same_each (btree.get nat_cmp c.args.self.now.sessions) (btree.get nat_cmp (c.get_mut.follows.lender w)) c.args.start session w was (ap (λ ws. record session { writes = ws }) c.in_err-bytes.ensures.err) (lent.3 there).0;
    })

pub returns-in_err-cell-clause-buffered : goal.returns-in_err-cell-clause-buffered
returns-in_err-cell-clause-buffered c = buffers_itself c.args.self.now c.args.start

pub returns-clause-buffered : goal.returns-clause-buffered
returns-clause-buffered c =
    let session = c.unwrap-session.result.now in
    let was = sym c.get_mut.ensures.value ∙ ap option_copied_mut c.unwrap-session.ensures in
    let there : IsSome (btree.get nat_cmp c.args.self.now.sessions c.args.start) = subst (λ (o : Option Session). IsSome o) (sym was) refl in
    let w = record session { writes = c.buffer.new.self } in
    let lent = c.get_mut.follows.holds w in
    buffers_at c.args.self.now (record c.args.self.now { sessions = c.get_mut.follows.lender w; buffered = c.in_ok-bytes.bytes }) c.args.start session w was (lent.3 there).1 c.in_ok-bytes.ensures.bytes refl

there_mut : (o : Option (MutBor Session)) (session : Session) → option_copied_mut o ≡ Some session → IsSome o
there_mut None session e = cc
there_mut (Some lent) session e = refl

pub unwrap-session-requires : goal.unwrap-session-requires
unwrap-session-requires c = there_mut c.get_mut.result c.in_ok-cell.ensures.open.0 (c.get_mut.ensures.value ∙ c.in_ok-cell.ensures.open.1)
