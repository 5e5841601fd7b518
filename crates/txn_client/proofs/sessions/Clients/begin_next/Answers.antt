use Rattle.std.proofs.Common.{◌≡◌, ◌⊎◌, ◌∙◌, ◌+◌, ◌^◌, ◌<◌, ℕ, Some, inl, inr, ap, refl, sym, subst, arith}
use Rattle.si_model.specs.Machine as machine
use Rattle.si_model.specs.Machine.{IsStorageRefusal}
use Rattle.cell_key.specs.declared.refusals.Refusal.TheVariants.{Exhausted, Device, NoMemory}
use Rattle.cell_key.specs.declared.refusals.Refusal.{Refusal}
use Rattle.std.specs.Result.{IsErrOf}
use Rattle.std.specs.declared.result.Result.TheVariants.{Ok, Err}
use Rattle.rows.specs.Sources.{IsDrawRefusal}
use Rattle.txn_client.specs.Refusals.{IsStartRefusal}
use Rattle.std.specs.BTreeMap as btree
use Rattle.std.specs.Ordering.{nat_cmp}
use Rattle.txn_client.specs.Buffers.{session_bytes}
use Rattle.txn_client.specs.Shows.{SameClients, Steps, open_session}
use Rattle.txn_client.specs.declared.sessions.Clients.{Clients}
use Rattle.cell_key.proofs.Reasons.{not_refused, reason_kept, reason_none}
use Rattle.txn_client.proofs.CommitShown.{some_at}
use Rattle.txn_client.proofs.Passed.{as_err, at_most_itself, passed_err, passed_none, passed_kept, no_memory_only, device_not, refused_not}
use Rattle.txn_client.proofs.Refused.{draw_start, draw_storage}
use Rattle.txn_client.proofs.Table.{begins_at, begin_storage_at, begin_undone_at, undone_each, entries_each, upd_at}
use Rattle.txn_client.proofs.sessions.Clients.begin_next.Goals as goal

same_itself : (clients : Clients) → SameClients clients clients
same_itself clients = record { top = refl; buffered = refl; limit = refl; each = λ start. refl }

not_undrawn : {A : Type 0} (x : A) (m n : Refusal) → IsErrOf (Ok x) m ⊎ IsErrOf (Ok x) n → ⊥
not_undrawn x m n (inl is) = not_refused x m is
not_undrawn x m n (inr is) = not_refused x n is

undrawn_at : {A B : Type 0} (e : Refusal) (P : Type 0) → IsDrawRefusal e → (IsErrOf {T = A} (Err e) Exhausted → P) → IsErrOf {T = B} (Err e) Exhausted ⊎ IsErrOf {T = B} (Err e) NoMemory → P
undrawn_at e P u so (inl is) = let same : e ≡ Exhausted = cc in so (ap (λ (f : Refusal). Err f) same)
undrawn_at e P u so (inr is) = let same : e ≡ NoMemory = cc in absurd (subst IsDrawRefusal same u)

exhausted_no_device : Device ≡ Exhausted → ⊥
exhausted_no_device is = cc

no_memory_not_exhausted : Exhausted ≡ NoMemory → ⊥
no_memory_not_exhausted is = cc

above : (start last now : ℕ) → start ≡ last + 1 → last ≡ now → now < start
above start last now next same = omega arith

-- the stamp that was drawn is the next one
next_drawn : (next drawn last : ℕ) → next ≡ last + 1 → drawn ≡ last + 1 → next ≡ drawn
next_drawn next drawn last a b = a ∙ sym b

pub returns-in_err-start-clause-step : goal.returns-in_err-start-clause-step
returns-in_err-start-clause-step g c = λ cells.
    let now = g.S.Stamps.source.last c.args.stamps.now in
    let e = as_err c.from_residual.result c.in_err-start.field-0.0 c.from_residual.ensures.1 in
    rw e (begin_storage_at cells c.args.self.now c.args.self.now now now c.in_err-start.field-0.0 (subst IsStorageRefusal (sym c.in_err-start.ensures.refusal.0) tt) refl refl (at_most_itself _))

pub returns-in_err-replaced-clause-step : goal.returns-in_err-replaced-clause-step
returns-in_err-replaced-clause-step g c = λ cells.
    let now = g.S.Stamps.source.last c.args.stamps.now in
    let e = as_err c.from_residual-in_err-replaced.result c.in_err-replaced.field-0.0 c.from_residual-in_err-replaced.ensures.1 in
    rw e (begin_storage_at cells c.args.self.now c.make_session.new.self now now c.in_err-replaced.field-0.0 (subst IsStorageRefusal (sym c.in_err-replaced.ensures.refusal) tt)
    (ap (λ (k : Clients). k.top) c.in_err-replaced.ensures.others) c.in_err-replaced.ensures.err (at_most_itself _))

pub returns-in-Ok-clause-step : goal.returns-in-Ok-clause-step
returns-in-Ok-clause-step g c = λ cells.
    let source = g.S.Stamps.source in
    let now = source.last c.args.stamps.now in
    let drawn = c.in-Ok.ensures.drawn in
    let next = c.in_ok-start.ensures.next in
    let same = next_drawn c.in_ok-start.start c.in-Ok.start c.args.last next (some_at (λ n. c.in-Ok.start ≡ n + 1) (source.known c.args.stamps.now) c.args.last c.requires.known drawn.next) in
    subst (λ (n : ℕ). Steps cells c.args.self.now now machine.Begin (machine.Begun n) cells (record c.make_session.new.self { top = n }) (source.last c.draw.new.self)) same
    (begins_at cells c.args.self.now (record c.make_session.new.self { top = c.in_ok-start.start }) now (source.last c.draw.new.self) c.in_ok-start.start
    c.requires.room (above _ _ _ next c.requires.last) (subst (λ (n : ℕ). n < 2 ^ 63) (sym same) drawn.limit) (drawn.becomes ∙ sym same) refl c.in_ok-replaced.ensures.made.0 c.in_ok-replaced.ensures.len)

pub returns-in-Err-clause-step : goal.returns-in-Err-clause-step
returns-in-Err-clause-step g c = λ cells.
    let source = g.S.Stamps.source in
    begin_undone_at cells c.args.self.now c.make_session.new.self c.undo_session.new.self (source.last c.args.stamps.now) (source.last c.draw.new.self) c.in_ok-start.start c.in-Err.refusal c.in_ok-replaced.replaced
    (draw_storage c.in-Err.refusal c.in-Err.ensures.refusal) c.in-Err.ensures.rises (ap (λ (k : Clients). k.top) c.undo_session.ensures.others ∙ ap (λ (k : Clients). k.top) c.in_ok-replaced.ensures.others) c.in_ok-replaced.ensures.replaced
    (undone_each c.args.self.now c.make_session.new.self c.undo_session.new.self c.in_ok-start.start c.in_ok-replaced.replaced c.in_ok-replaced.ensures.replaced c.in_ok-replaced.ensures.made.0 c.undo_session.ensures.undone.0)
    c.in_ok-replaced.ensures.len c.undo_session.ensures.len

pub returns-in_err-start-clause-drawn : goal.returns-in_err-start-clause-drawn
returns-in_err-start-clause-drawn g c = passed_none c.from_residual.result c.in_err-start.field-0.0 _ c.from_residual.ensures.1

pub returns-in_err-start-clause-rises : goal.returns-in_err-start-clause-rises
returns-in_err-start-clause-rises g c = at_most_itself _

pub returns-in_err-start-clause-left : goal.returns-in_err-start-clause-left
returns-in_err-start-clause-left g c = passed_kept c.from_residual.result _ (inl refl)

pub returns-in_err-start-clause-same : goal.returns-in_err-start-clause-same
returns-in_err-start-clause-same g c = passed_kept c.from_residual.result _ (same_itself c.args.self.now)

pub returns-in_err-start-clause-refusal : goal.returns-in_err-start-clause-refusal
returns-in_err-start-clause-refusal g c = passed_err c.from_residual.result c.in_err-start.field-0.0 _ c.from_residual.ensures.1 (subst IsStartRefusal (sym c.in_err-start.ensures.refusal.0) tt)

pub returns-in_err-start-clause-undrawn : goal.returns-in_err-start-clause-undrawn
returns-in_err-start-clause-undrawn g c = λ is. refl

pub returns-in_err-start-clause-exhausted : goal.returns-in_err-start-clause-exhausted
returns-in_err-start-clause-exhausted g c = λ is. c.in_err-start.ensures.refusal.1

pub returns-in_err-start-clause-reason : goal.returns-in_err-start-clause-reason
returns-in_err-start-clause-reason g c = reason_none _ _ (refused_not c.from_residual.result c.in_err-start.field-0.0 _ (λ f. f ≡ Exhausted) exhausted_no_device c.from_residual.ensures.1 c.in_err-start.ensures.refusal.0)

pub returns-in_err-start-clause-buffered : goal.returns-in_err-start-clause-buffered
returns-in_err-start-clause-buffered g c = passed_none c.from_residual.result c.in_err-start.field-0.0 _ c.from_residual.ensures.1

pub returns-in_err-replaced-clause-drawn : goal.returns-in_err-replaced-clause-drawn
returns-in_err-replaced-clause-drawn g c = passed_none c.from_residual-in_err-replaced.result c.in_err-replaced.field-0.0 _ c.from_residual-in_err-replaced.ensures.1

pub returns-in_err-replaced-clause-rises : goal.returns-in_err-replaced-clause-rises
returns-in_err-replaced-clause-rises g c = at_most_itself _

pub returns-in_err-replaced-clause-left : goal.returns-in_err-replaced-clause-left
returns-in_err-replaced-clause-left g c = passed_kept c.from_residual-in_err-replaced.result _ (inl refl)

pub returns-in_err-replaced-clause-same : goal.returns-in_err-replaced-clause-same
returns-in_err-replaced-clause-same g c = passed_kept c.from_residual-in_err-replaced.result _ (record {
  top = ap (λ (k : Clients). k.top) c.in_err-replaced.ensures.others;
  buffered = ap (λ (k : Clients). k.buffered) c.in_err-replaced.ensures.others;
  limit = ap (λ (k : Clients). k.most_buffered) c.in_err-replaced.ensures.others;
  each = entries_each c.args.self.now c.make_session.new.self c.in_err-replaced.ensures.err;
})

pub returns-in_err-replaced-clause-refusal : goal.returns-in_err-replaced-clause-refusal
returns-in_err-replaced-clause-refusal g c = passed_err c.from_residual-in_err-replaced.result c.in_err-replaced.field-0.0 _ c.from_residual-in_err-replaced.ensures.1 (subst IsStartRefusal (sym c.in_err-replaced.ensures.refusal) tt)

pub returns-in_err-replaced-clause-undrawn : goal.returns-in_err-replaced-clause-undrawn
returns-in_err-replaced-clause-undrawn g c = λ is. refl

pub returns-in_err-replaced-clause-exhausted : goal.returns-in_err-replaced-clause-exhausted
returns-in_err-replaced-clause-exhausted g c = λ is. absurd (no_memory_only c.from_residual-in_err-replaced.result c.in_err-replaced.field-0.0 _ no_memory_not_exhausted c.from_residual-in_err-replaced.ensures.1 c.in_err-replaced.ensures.refusal is)

pub returns-in_err-replaced-clause-reason : goal.returns-in_err-replaced-clause-reason
returns-in_err-replaced-clause-reason g c = reason_none _ _ (no_memory_only c.from_residual-in_err-replaced.result c.in_err-replaced.field-0.0 _ device_not c.from_residual-in_err-replaced.ensures.1 c.in_err-replaced.ensures.refusal)

pub returns-in_err-replaced-clause-buffered : goal.returns-in_err-replaced-clause-buffered
returns-in_err-replaced-clause-buffered g c = passed_none c.from_residual-in_err-replaced.result c.in_err-replaced.field-0.0 _ c.from_residual-in_err-replaced.ensures.1

pub returns-in-Ok-clause-drawn : goal.returns-in-Ok-clause-drawn
returns-in-Ok-clause-drawn g c = c.in-Ok.ensures.drawn

pub returns-in-Ok-clause-rises : goal.returns-in-Ok-clause-rises
returns-in-Ok-clause-rises g c = c.in-Ok.ensures.rises

pub returns-in-Ok-clause-left : goal.returns-in-Ok-clause-left
returns-in-Ok-clause-left g c = tt

pub returns-in-Ok-clause-same : goal.returns-in-Ok-clause-same
returns-in-Ok-clause-same g c = tt

pub returns-in-Ok-clause-refusal : goal.returns-in-Ok-clause-refusal
returns-in-Ok-clause-refusal g c = tt

pub returns-in-Ok-clause-undrawn : goal.returns-in-Ok-clause-undrawn
returns-in-Ok-clause-undrawn g c = λ is. absurd (not_undrawn _ _ _ is)

pub returns-in-Ok-clause-exhausted : goal.returns-in-Ok-clause-exhausted
returns-in-Ok-clause-exhausted g c = λ is. absurd (not_refused _ _ is)

pub returns-in-Ok-clause-reason : goal.returns-in-Ok-clause-reason
returns-in-Ok-clause-reason g c = reason_kept _ _ _ _ (not_refused _ _) c.in-Ok.ensures.reason

pub returns-in-Ok-clause-buffered : goal.returns-in-Ok-clause-buffered
returns-in-Ok-clause-buffered g c =
    let drawn = c.in-Ok.ensures.drawn in
    let same = next_drawn c.in_ok-start.start c.in-Ok.start c.args.last c.in_ok-start.ensures.next (some_at (λ n. c.in-Ok.start ≡ n + 1) (g.S.Stamps.source.known c.args.stamps.now) c.args.last c.requires.known drawn.next) in
    let made = upd_at (btree.get nat_cmp c.args.self.now.sessions) (btree.get nat_cmp c.make_session.new.self.sessions) c.in_ok-start.start (Some (open_session c.in_ok-start.start)) c.in_ok-replaced.ensures.made.0 in
    record {
      empty = subst (λ (n : ℕ). session_bytes (btree.get nat_cmp c.make_session.new.self.sessions n) ≡ 0) same (ap session_bytes made);
      bytes = ap (λ (k : Clients). k.buffered) c.in_ok-replaced.ensures.others;
      limit = ap (λ (k : Clients). k.most_buffered) c.in_ok-replaced.ensures.others;
    }

pub returns-in-Err-clause-drawn : goal.returns-in-Err-clause-drawn
returns-in-Err-clause-drawn g c = tt

pub returns-in-Err-clause-rises : goal.returns-in-Err-clause-rises
returns-in-Err-clause-rises g c = c.in-Err.ensures.rises

pub returns-in-Err-clause-left : goal.returns-in-Err-clause-left
returns-in-Err-clause-left g c = inr c.in-Err.ensures.left

pub returns-in-Err-clause-same : goal.returns-in-Err-clause-same
returns-in-Err-clause-same g c = record {
  top = ap (λ (k : Clients). k.top) c.undo_session.ensures.others ∙ ap (λ (k : Clients). k.top) c.in_ok-replaced.ensures.others;
  buffered = ap (λ (k : Clients). k.buffered) c.undo_session.ensures.others ∙ ap (λ (k : Clients). k.buffered) c.in_ok-replaced.ensures.others;
  limit = ap (λ (k : Clients). k.most_buffered) c.undo_session.ensures.others ∙ ap (λ (k : Clients). k.most_buffered) c.in_ok-replaced.ensures.others;
  each = undone_each c.args.self.now c.make_session.new.self c.undo_session.new.self c.in_ok-start.start c.in_ok-replaced.replaced c.in_ok-replaced.ensures.replaced c.in_ok-replaced.ensures.made.0 c.undo_session.ensures.undone.0;
}

pub returns-in-Err-clause-refusal : goal.returns-in-Err-clause-refusal
returns-in-Err-clause-refusal g c = draw_start c.in-Err.refusal c.in-Err.ensures.refusal

pub returns-in-Err-clause-undrawn : goal.returns-in-Err-clause-undrawn
returns-in-Err-clause-undrawn g c = undrawn_at {A = ℕ} c.in-Err.refusal _ c.in-Err.ensures.refusal c.in-Err.ensures.undrawn

pub returns-in-Err-clause-exhausted : goal.returns-in-Err-clause-exhausted
returns-in-Err-clause-exhausted g c = some_at _ (g.S.Stamps.source.known c.args.stamps.now) c.args.last c.requires.known c.in-Err.ensures.exhausted

pub returns-in-Err-clause-reason : goal.returns-in-Err-clause-reason
returns-in-Err-clause-reason g c = c.in-Err.ensures.reason

pub returns-in-Err-clause-buffered : goal.returns-in-Err-clause-buffered
returns-in-Err-clause-buffered g c = tt
