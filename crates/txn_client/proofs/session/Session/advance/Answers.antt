use Rattle.std.proofs.Common.{ℕ, ◌≡◌, ◌≤◌, Some, None, inl, inr, length, refl, ap, ◌∙◌, subst, sym, IfErr, arith}
use Rattle.std.proofs.lemmas.Result.{IfOk-weaker, on_err_weaker}
use Rattle.std.specs.Prelude.{Option, IfSome}
use Rattle.std.specs.Result.{IsErrOf, OnErr}
use Rattle.std.specs.declared.result.Result.{Result}
use Rattle.std.specs.declared.result.Result.TheVariants.{Ok, Err}
use Rattle.cell_key.specs.Cells.{Cells}
use Rattle.cell_key.specs.declared.refusals.Refusal.{Refusal}
use Rattle.cell_key.specs.declared.refusals.Refusal.TheVariants.{EmptyCommit, MemtableFull, Exhausted, Device, NoMemory, Damaged}
use Rattle.cell_key.proofs.Reasons.{not_refused}
use Rattle.rows.specs.Calls.{OnlyReads, View}
use Rattle.rows.specs.Sources.{IsDrawRefusal, Source}
use Rattle.rows.proofs.Calls.{reads_none}
use Rattle.si_model.specs.declared.replies.Progress.{Progress}
use Rattle.si_model.specs.declared.replies.Progress.TheVariants as progress
use Rattle.txn_client.specs.Shows.{Advances, DrawsIn, DrawsNone, HasNoNext}
use Rattle.txn_client.specs.Refusals.{IsAdvanceRefusal, IsCellStepRefusal, IsReadableAt, StepLeaves, next_cell}
use Rattle.txn_client.specs.Room.{MeetsIn}
use Rattle.txn_client.specs.declared.session.Phase.{Phase}
use Rattle.txn_client.specs.declared.session.Phase.TheVariants.{Open, Holding, Stamped, Finishing}
use Rattle.txn_client.specs.declared.session.Session.{Session}
use Rattle.txn_client.proofs.Room.{does_so, edits_in, met_so, no_room_so, stamped_does, stamped_met}
use Rattle.txn_client.proofs.SessionSteps.{ok_at}
use Rattle.txn_client.proofs.session.Session.advance.Goals as goal

not_held_open : (p : Phase) (k : ℕ) → p ≡ Open → p ≡ Holding k → ⊥
not_held_open p k at_first held = cc

not_held_stamped : (p : Phase) (k : ℕ) → p ≡ Stamped → p ≡ Holding k → ⊥
not_held_stamped p k stamped held = cc

not_held_finishing : (p : Phase) (j k : ℕ) → p ≡ Finishing j → p ≡ Holding k → ⊥
not_held_finishing p j k finishing held = cc

not_open_stamped : (p : Phase) → p ≡ Stamped → p ≡ Open → ⊥
not_open_stamped p stamped at_first = cc

not_open_finishing : (p : Phase) (j : ℕ) → p ≡ Finishing j → p ≡ Open → ⊥
not_open_finishing p j finishing at_first = cc

held_all : (p : Phase) (k n m : ℕ) → p ≡ Holding k → k ≡ n → n ≡ m → p ≡ Holding m
held_all p k n m is all count = is ∙ ap (λ (x : ℕ). Holding x) (all ∙ count)

held_some : (p : Phase) (k n m : ℕ) → p ≡ Holding k → (k ≡ n → ⊥) → n ≡ m → p ≡ Holding m → ⊥
held_some p k n m is other count held = let same : k ≡ m = cc in other (same ∙ sym count)

no_next : (p : Phase) (k n m : ℕ) → p ≡ Holding k → (k ≡ n → ⊥) → n ≡ m → m ≤ k → HasNoNext p m
no_next p k n m is other count past = subst (λ (q : Phase). HasNoNext q m) (sym is) (past, λ same. other (same ∙ sym count))

-- a draw's refusals are a step's
draw_advance : (Readable P : Type 0) (e : Refusal) → IsDrawRefusal e → IsAdvanceRefusal Readable P e
draw_advance H P Exhausted u = tt
draw_advance H P Device u = tt
draw_advance H P _ u = absurd u

draw_refused : {A : Type 0} (r : Result A Refusal) (Readable P : Type 0) → IfErr r IsDrawRefusal → IfErr r (IsAdvanceRefusal Readable P)
draw_refused (Ok x) H P h = tt
draw_refused (Err e) H P h = draw_advance H P e h

draw_not : {A : Type 0} (r : Result A Refusal) (n : Refusal) → (IsDrawRefusal n → ⊥) → IfErr r IsDrawRefusal → IsErrOf r n → ⊥
draw_not (Ok x) n none h is = not_refused x n is
draw_not (Err e) n none h is = let same : e ≡ n = cc in none (subst IsDrawRefusal same h)

-- so are the refusals of a step on a cell, which are never Exhausted
cell_advance : (Readable P Q : Type 0) (e : Refusal) → (P → Q) → IsCellStepRefusal Readable P e → IsAdvanceRefusal Readable Q e
cell_advance R P Q EmptyCommit so u = so u
cell_advance R P Q MemtableFull so u = tt
cell_advance R P Q Device so u = tt
cell_advance R P Q NoMemory so u = tt
cell_advance R P Q Damaged so u = u
cell_advance R P Q _ so u = absurd u

cell_refused : {A R : Type 0} (seen : View R) (rows : R) (session : Session) (p : Phase) (r : Result A Refusal) (P Q : Type 0) → session.phase ≡ p → (P → Q)
    → IfErr r (IsCellStepRefusal (IsReadableAt seen rows session (next_cell p)) P) → IfErr r (IsAdvanceRefusal (IsReadableAt seen rows session (next_cell session.phase)) Q)
cell_refused seen rows session p (Ok x) P Q is so h = tt
cell_refused seen rows session p (Err e) P Q is so h = subst (λ (q : Phase). IsAdvanceRefusal (IsReadableAt seen rows session (next_cell q)) Q e) (sym is) (cell_advance (IsReadableAt seen rows session (next_cell p)) P Q e so h)

not_exhausted : {A : Type 0} (r : Result A Refusal) (Readable P : Type 0) → IfErr r (IsCellStepRefusal Readable P) → IsErrOf r Exhausted → ⊥
not_exhausted (Ok x) H P h is = not_refused x Exhausted is
not_exhausted (Err e) H P h is = let same : e ≡ Exhausted = cc in subst (IsCellStepRefusal H P) same h

-- a step that draws no stamp leaves the source
draws_none : {S : Type 0} (source : Source S) (stamps : S) (p : Progress) → DrawsNone p → DrawsIn source stamps stamps p
draws_none source stamps (progress.Stamped c) none = absurd none
draws_none source stamps (progress.Held k n) none = refl
draws_none source stamps (progress.Conflict k) none = refl
draws_none source stamps (progress.Committed c) none = refl
draws_none source stamps progress.Lost none = refl
draws_none source stamps (progress.Finished k n) none = refl

-- the last stamp, if it is known, by the answer
told_at : {P : Type 0} (known : Option ℕ) (most : ℕ) → P → IfSome known (λ last. P → last ≡ most) → IfSome known (λ last. last ≡ most)
told_at (Some last) most is told = told is
told_at None most is told = tt

at_most_itself : (n : ℕ) → n ≤ n
at_most_itself n = omega arith

-- the effects of a refused step on a cell, which doesn't reach the source
left_aside : {A R S : Type 0} (seen : View R) (source : Source S) (old new : R) (stamps : S) (r : Result A Refusal)
    → OnErr r (OnlyReads seen old new) → OnErr r (StepLeaves seen source old new stamps stamps)
left_aside seen source old new stamps r = on_err_weaker r (λ same. record { same = same; rises = at_most_itself (source.last stamps); left = inl refl })

-- the effects of a refused draw, which doesn't touch the rows
left_undrawn : {A R S : Type 0} (seen : View R) (source : Source S) (rows : R) (old new : S) (r : Result A Refusal)
    → source.last old ≤ source.last new → OnErr r (source.leaves old new) → OnErr r (StepLeaves seen source rows rows old new)
left_undrawn seen source rows old new (Ok x) rises left = tt
left_undrawn seen source rows old new (Err e) rises left = record { same = reads_none; rises = rises; left = inr left }

pub hold_next-requires : goal.hold_next-requires
hold_next-requires g c = inr (c.in-Open.is, refl)

pub draw_commit-requires : goal.draw_commit-requires
draw_commit-requires g c = held_all _ _ _ _ c.in-Holding.is c.if-k-len.true c.len.ensures.len

pub hold_next-requires-else-k-len : goal.hold_next-requires-else-k-len
hold_next-requires-else-k-len g c = inl c.in-Holding.is

pub commit_first-requires : goal.commit_first-requires
commit_first-requires g c = c.in-Stamped.is

pub finish_next-requires : goal.finish_next-requires
finish_next-requires g c = c.in-Finishing.is

pub returns-in-Open : goal.returns-in-Open
returns-in-Open g c =
    let at = c.hold_next.ensures in
    let r = c.hold_next.result in
    let rows = c.args.rows.now in
    let holds = g.R.Rows.seen.holds rows in
    let cells = g.R.Rows.seen.cells rows in
    let session = c.args.self.now in
    record {
      step = λ held. ok_at (λ o (n : ℕ). Advances cells session n o (g.R.Rows.seen.cells c.hold_next.new.rows) c.hold_next.new.self n) r (at.step held) (g.S.Stamps.source.last c.args.stamps.now);
      draws = IfOk-weaker r _ _ (λ o. draws_none g.S.Stamps.source c.args.stamps.now o.progress) at.draws;
      start = at.start;
      writes = at.writes;
      err = at.err;
      refused = left_aside _ _ _ _ _ r at.same;
      does = IfOk-weaker r _ _ (λ o. does_so g.R.Rows.seen rows c.hold_next.new.rows o.progress (edits_in holds cells session (Open) c.in-Open.is)) at.does;
      met = IfOk-weaker r _ _ (λ o. met_so o.progress (λ place met. subst (λ (p : Phase). MeetsIn p holds cells session place) (sym c.in-Open.is) met)) at.met;
      refusal = cell_refused g.R.Rows.seen rows session Open r _ _ c.in-Open.is (λ none. subst (λ (p : Phase). HasNoNext p (length session.writes)) (sym c.in-Open.is) none) at.refusal;
      empty = λ is. at.empty;
      drawing = λ is. absurd (not_held_open _ _ c.in-Open.is is);
      drawn = λ is. absurd (not_held_open _ _ c.in-Open.is is);
      full = λ is. no_room_so g.R.Rows.seen.overfills rows (edits_in holds cells session (Open) c.in-Open.is) (at.full is);
      no_stamp = λ is. absurd (not_exhausted r _ _ at.refusal is);
      aside = λ other. refl;
      reason = inl (at.reason, refl);
    }

pub returns-then-k-len : goal.returns-then-k-len
returns-then-k-len g c =
    let at = c.draw_commit.ensures in
    let r = c.draw_commit.result in
    let rows = c.args.rows.now in
    let all = held_all _ _ _ _ c.in-Holding.is c.if-k-len.true c.len.ensures.len in
    record {
      step = λ held. ok_at (λ o (cells : Cells). Advances cells c.args.self.now (g.S.Stamps.source.last c.args.stamps.now) o cells c.draw_commit.new.self (g.S.Stamps.source.last c.draw_commit.new.stamps)) r at.step (g.R.Rows.seen.cells rows);
      draws = at.draws;
      start = at.start;
      writes = at.writes;
      err = at.err;
      refused = left_undrawn _ _ _ _ _ r at.rises at.left;
      does = IfOk-weaker r _ _ (λ o. stamped_does g.R.Rows.seen rows _ o.progress) at.stamped;
      met = IfOk-weaker r _ _ (λ o. stamped_met _ o.progress) at.stamped;
      refusal = draw_refused r _ _ at.refusal;
      empty = λ is. absurd (not_held_open _ _ is c.in-Holding.is);
      drawing = λ is. at.refusal;
      drawn = λ is. refl;
      full = λ is. absurd (draw_not r MemtableFull (λ u. u) at.refusal is);
      no_stamp = λ is. record { exhausted = told_at _ _ is at.exhausted; draw_only = all; undrawn = at.undrawn is };
      aside = λ other. absurd (other all);
      reason = inr (at.reason, refl);
    }

pub returns-else-k-len : goal.returns-else-k-len
returns-else-k-len g c =
    let at = c.hold_next-else-k-len.ensures in
    let r = c.hold_next-else-k-len.result in
    let rows = c.args.rows.now in
    let holds = g.R.Rows.seen.holds rows in
    let cells = g.R.Rows.seen.cells rows in
    let session = c.args.self.now in
    record {
      step = λ held. ok_at (λ o (n : ℕ). Advances cells session n o (g.R.Rows.seen.cells c.hold_next-else-k-len.new.rows) c.hold_next-else-k-len.new.self n) r (at.step held) (g.S.Stamps.source.last c.args.stamps.now);
      draws = IfOk-weaker r _ _ (λ o. draws_none g.S.Stamps.source c.args.stamps.now o.progress) at.draws;
      start = at.start;
      writes = at.writes;
      err = at.err;
      refused = left_aside _ _ _ _ _ r at.same;
      does = IfOk-weaker r _ _ (λ o. does_so g.R.Rows.seen rows c.hold_next-else-k-len.new.rows o.progress (edits_in holds cells session (Holding c.in-Holding.k) c.in-Holding.is)) at.does;
      met = IfOk-weaker r _ _ (λ o. met_so o.progress (λ place met. subst (λ (p : Phase). MeetsIn p holds cells session place) (sym c.in-Holding.is) met)) at.met;
      refusal = cell_refused g.R.Rows.seen rows session (Holding c.in-Holding.k) r _ _ c.in-Holding.is (no_next _ _ _ _ c.in-Holding.is c.if-k-len.false c.len.ensures.len) at.refusal;
      empty = λ is. absurd (not_held_open _ _ is c.in-Holding.is);
      drawing = λ is. absurd (held_some _ _ _ _ c.in-Holding.is c.if-k-len.false c.len.ensures.len is);
      drawn = λ is. absurd (held_some _ _ _ _ c.in-Holding.is c.if-k-len.false c.len.ensures.len is);
      full = λ is. no_room_so g.R.Rows.seen.overfills rows (edits_in holds cells session (Holding c.in-Holding.k) c.in-Holding.is) (at.full is);
      no_stamp = λ is. absurd (not_exhausted r _ _ at.refusal is);
      aside = λ other. refl;
      reason = inl (at.reason, refl);
    }

pub returns-in-Stamped : goal.returns-in-Stamped
returns-in-Stamped g c =
    let at = c.commit_first.ensures in
    let r = c.commit_first.result in
    let rows = c.args.rows.now in
    let holds = g.R.Rows.seen.holds rows in
    let cells = g.R.Rows.seen.cells rows in
    let session = c.args.self.now in
    record {
      step = λ held. ok_at (λ o (n : ℕ). Advances cells session n o (g.R.Rows.seen.cells c.commit_first.new.rows) c.commit_first.new.self n) r (at.step held) (g.S.Stamps.source.last c.args.stamps.now);
      draws = IfOk-weaker r _ _ (λ o. draws_none g.S.Stamps.source c.args.stamps.now o.progress) at.draws;
      start = at.start;
      writes = at.writes;
      err = at.err;
      refused = left_aside _ _ _ _ _ r at.same;
      does = IfOk-weaker r _ _ (λ o. does_so g.R.Rows.seen rows c.commit_first.new.rows o.progress (edits_in holds cells session (Stamped) c.in-Stamped.is)) at.does;
      met = IfOk-weaker r _ _ (λ o. met_so o.progress (λ place none. absurd none)) at.met;
      refusal = cell_refused g.R.Rows.seen rows session Stamped r _ _ c.in-Stamped.is (λ none. subst (λ (p : Phase). HasNoNext p (length session.writes)) (sym c.in-Stamped.is) none) at.refusal;
      empty = λ is. absurd (not_open_stamped _ c.in-Stamped.is is);
      drawing = λ is. absurd (not_held_stamped _ _ c.in-Stamped.is is);
      drawn = λ is. absurd (not_held_stamped _ _ c.in-Stamped.is is);
      full = λ is. no_room_so g.R.Rows.seen.overfills rows (edits_in holds cells session (Stamped) c.in-Stamped.is) (at.full is);
      no_stamp = λ is. absurd (not_exhausted r _ _ at.refusal is);
      aside = λ other. refl;
      reason = inl (at.reason, refl);
    }

pub returns-in-Finishing : goal.returns-in-Finishing
returns-in-Finishing g c =
    let at = c.finish_next.ensures in
    let r = c.finish_next.result in
    let rows = c.args.rows.now in
    let holds = g.R.Rows.seen.holds rows in
    let cells = g.R.Rows.seen.cells rows in
    let session = c.args.self.now in
    record {
      step = λ held. ok_at (λ o (n : ℕ). Advances cells session n o (g.R.Rows.seen.cells c.finish_next.new.rows) c.finish_next.new.self n) r (at.step held) (g.S.Stamps.source.last c.args.stamps.now);
      draws = IfOk-weaker r _ _ (λ o. draws_none g.S.Stamps.source c.args.stamps.now o.progress) at.draws;
      start = at.start;
      writes = at.writes;
      err = at.err;
      refused = left_aside _ _ _ _ _ r at.same;
      does = IfOk-weaker r _ _ (λ o. does_so g.R.Rows.seen rows c.finish_next.new.rows o.progress (edits_in holds cells session (Finishing c.in-Finishing.k) c.in-Finishing.is)) at.does;
      met = IfOk-weaker r _ _ (λ o. met_so o.progress (λ place none. absurd none)) at.met;
      refusal = cell_refused g.R.Rows.seen rows session (Finishing c.in-Finishing.k) r _ _ c.in-Finishing.is (λ none. subst (λ (p : Phase). HasNoNext p (length session.writes)) (sym c.in-Finishing.is) none) at.refusal;
      empty = λ is. absurd (not_open_finishing _ _ c.in-Finishing.is is);
      drawing = λ is. absurd (not_held_finishing _ _ _ c.in-Finishing.is is);
      drawn = λ is. absurd (not_held_finishing _ _ _ c.in-Finishing.is is);
      full = λ is. no_room_so g.R.Rows.seen.overfills rows (edits_in holds cells session (Finishing c.in-Finishing.k) c.in-Finishing.is) (at.full is);
      no_stamp = λ is. absurd (not_exhausted r _ _ at.refusal is);
      aside = λ other. refl;
      reason = inl (at.reason, refl);
    }
