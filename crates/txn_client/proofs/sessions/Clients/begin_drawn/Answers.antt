use Rattle.std.proofs.Common.{◌≡◌, ◌∙◌, ℕ, Some, ap, refl, sym, subst}
use Rattle.si_model.specs.Machine as machine
use Rattle.si_model.specs.Machine.{IsStorageRefusal}
use Rattle.cell_key.specs.declared.refusals.Refusal.TheVariants.{Exhausted, NoMemory}
use Rattle.txn_client.specs.Refusals.{IsStartRefusal}
use Rattle.std.specs.BTreeMap as btree
use Rattle.std.specs.Ordering.{nat_cmp}
use Rattle.txn_client.specs.Buffers.{session_bytes}
use Rattle.txn_client.specs.Shows.{SameClients, Steps, open_session}
use Rattle.txn_client.specs.declared.sessions.Clients.{Clients}
use Rattle.cell_key.proofs.Reasons.{not_refused, reason_kept, reason_passed}
use Rattle.txn_client.proofs.Passed.{as_err, passed_err, passed_none, passed_kept, passed_on, no_memory_only, device_not}
use Rattle.txn_client.proofs.Refused.{draw_start, draw_storage}
use Rattle.txn_client.proofs.Table.{begins_at, begin_storage_at, entries_each, upd_at}
use Rattle.txn_client.proofs.sessions.Clients.begin_drawn.Goals as goal

same_itself : (clients : Clients) → SameClients clients clients
same_itself clients = record { top = refl; buffered = refl; limit = refl; each = λ start. refl }

no_memory_not_exhausted : Exhausted ≡ NoMemory → ⊥
no_memory_not_exhausted is = cc

pub returns-in_err-start-clause-step : goal.returns-in_err-start-clause-step
returns-in_err-start-clause-step g c = λ cells.
    let source = g.S.Stamps.source in
    let e = as_err c.from_residual.result c.in_err-start.field-0.0 c.from_residual.ensures.1 in
    rw e (begin_storage_at cells c.args.self.now c.args.self.now (source.last c.args.stamps.now) (source.last c.draw.new.self) c.in_err-start.field-0.0 (draw_storage _ c.in_err-start.ensures.refusal) refl refl c.in_err-start.ensures.rises)

pub returns-in_err-start-clause-drawn : goal.returns-in_err-start-clause-drawn
returns-in_err-start-clause-drawn g c = passed_none c.from_residual.result c.in_err-start.field-0.0 _ c.from_residual.ensures.1

pub returns-in_err-start-clause-rises : goal.returns-in_err-start-clause-rises
returns-in_err-start-clause-rises g c = c.in_err-start.ensures.rises

pub returns-in_err-start-clause-refusal : goal.returns-in_err-start-clause-refusal
returns-in_err-start-clause-refusal g c = passed_err c.from_residual.result c.in_err-start.field-0.0 _ c.from_residual.ensures.1 (draw_start _ c.in_err-start.ensures.refusal)

pub returns-in_err-start-clause-same : goal.returns-in_err-start-clause-same
returns-in_err-start-clause-same g c = passed_kept c.from_residual.result _ (same_itself c.args.self.now)

pub returns-in_err-start-clause-undrawn : goal.returns-in_err-start-clause-undrawn
returns-in_err-start-clause-undrawn g c = λ is. c.in_err-start.ensures.undrawn (passed_on c.from_residual.result _ c.in_err-start.field-0.0 _ c.from_residual.ensures.1 refl is)

pub returns-in_err-start-clause-reason : goal.returns-in_err-start-clause-reason
returns-in_err-start-clause-reason g c = reason_passed c.from_residual.result c.in_err-start.field-0.0 _ _ c.from_residual.ensures.1 c.in_err-start.ensures.reason

pub returns-in_err-start-clause-buffered : goal.returns-in_err-start-clause-buffered
returns-in_err-start-clause-buffered g c = passed_none c.from_residual.result c.in_err-start.field-0.0 _ c.from_residual.ensures.1

pub returns-in_err-_replaced-clause-step : goal.returns-in_err-_replaced-clause-step
returns-in_err-_replaced-clause-step g c = λ cells.
    let source = g.S.Stamps.source in
    let e = as_err c.from_residual-in_err-_replaced.result c.in_err-_replaced.field-0.0 c.from_residual-in_err-_replaced.ensures.1 in
    rw e (begin_storage_at cells c.args.self.now c.make_session.new.self (source.last c.args.stamps.now) (source.last c.draw.new.self) c.in_err-_replaced.field-0.0 (subst IsStorageRefusal (sym c.in_err-_replaced.ensures.refusal) tt)
    (ap (λ (k : Clients). k.top) c.in_err-_replaced.ensures.others) c.in_err-_replaced.ensures.err c.in_ok-start.ensures.rises)

pub returns-in_err-_replaced-clause-drawn : goal.returns-in_err-_replaced-clause-drawn
returns-in_err-_replaced-clause-drawn g c = passed_none c.from_residual-in_err-_replaced.result c.in_err-_replaced.field-0.0 _ c.from_residual-in_err-_replaced.ensures.1

pub returns-in_err-_replaced-clause-rises : goal.returns-in_err-_replaced-clause-rises
returns-in_err-_replaced-clause-rises g c = c.in_ok-start.ensures.rises

pub returns-in_err-_replaced-clause-refusal : goal.returns-in_err-_replaced-clause-refusal
returns-in_err-_replaced-clause-refusal g c = passed_err c.from_residual-in_err-_replaced.result c.in_err-_replaced.field-0.0 _ c.from_residual-in_err-_replaced.ensures.1 (subst IsStartRefusal (sym c.in_err-_replaced.ensures.refusal) tt)

pub returns-in_err-_replaced-clause-same : goal.returns-in_err-_replaced-clause-same
returns-in_err-_replaced-clause-same g c = passed_kept c.from_residual-in_err-_replaced.result _ (record {
  top = ap (λ (k : Clients). k.top) c.in_err-_replaced.ensures.others;
  buffered = ap (λ (k : Clients). k.buffered) c.in_err-_replaced.ensures.others;
  limit = ap (λ (k : Clients). k.most_buffered) c.in_err-_replaced.ensures.others;
  each = entries_each c.args.self.now c.make_session.new.self c.in_err-_replaced.ensures.err;
})

pub returns-in_err-_replaced-clause-undrawn : goal.returns-in_err-_replaced-clause-undrawn
returns-in_err-_replaced-clause-undrawn g c = λ is. absurd (no_memory_only c.from_residual-in_err-_replaced.result c.in_err-_replaced.field-0.0 _ no_memory_not_exhausted c.from_residual-in_err-_replaced.ensures.1 c.in_err-_replaced.ensures.refusal is)

pub returns-in_err-_replaced-clause-reason : goal.returns-in_err-_replaced-clause-reason
returns-in_err-_replaced-clause-reason g c = reason_kept _ _ _ _ (no_memory_only c.from_residual-in_err-_replaced.result c.in_err-_replaced.field-0.0 _ device_not c.from_residual-in_err-_replaced.ensures.1 c.in_err-_replaced.ensures.refusal) c.in_ok-start.ensures.reason

pub returns-in_err-_replaced-clause-buffered : goal.returns-in_err-_replaced-clause-buffered
returns-in_err-_replaced-clause-buffered g c = passed_none c.from_residual-in_err-_replaced.result c.in_err-_replaced.field-0.0 _ c.from_residual-in_err-_replaced.ensures.1

pub returns-clause-step : goal.returns-clause-step
returns-clause-step g c = λ cells.
    let source = g.S.Stamps.source in
    let now = source.last c.args.stamps.now in
    let drawn = c.in_ok-start.ensures.drawn in
    let begun = c.new-begun.ensures in
    subst (λ (n : ℕ). Steps cells c.args.self.now now machine.Begin (machine.Begun n) cells (record c.make_session.new.self { top = n }) (source.last c.draw.new.self)) begun
    (begins_at cells c.args.self.now (record c.make_session.new.self { top = c.new-begun.result }) now (source.last c.draw.new.self) c.new-begun.result
    c.requires.room (rw begun drawn.above) (rw begun drawn.limit) (drawn.becomes ∙ sym begun) refl c.in_ok-_replaced.ensures.made.0 c.in_ok-_replaced.ensures.len)

pub returns-clause-drawn : goal.returns-clause-drawn
returns-clause-drawn g c = c.in_ok-start.ensures.drawn

pub returns-clause-rises : goal.returns-clause-rises
returns-clause-rises g c = c.in_ok-start.ensures.rises

pub returns-clause-reason : goal.returns-clause-reason
returns-clause-reason g c = reason_kept _ _ _ _ (not_refused _ _) c.in_ok-start.ensures.reason

pub returns-clause-buffered : goal.returns-clause-buffered
returns-clause-buffered g c =
    let made = upd_at (btree.get nat_cmp c.args.self.now.sessions) (btree.get nat_cmp c.make_session.new.self.sessions) c.new-begun.result (Some (open_session c.new-begun.result)) c.in_ok-_replaced.ensures.made.0 in
    record {
      empty = subst (λ (n : ℕ). session_bytes (btree.get nat_cmp c.make_session.new.self.sessions n) ≡ 0) c.new-begun.ensures (ap session_bytes made);
      bytes = ap (λ (k : Clients). k.buffered) c.in_ok-_replaced.ensures.others;
      limit = ap (λ (k : Clients). k.most_buffered) c.in_ok-_replaced.ensures.others;
    }
