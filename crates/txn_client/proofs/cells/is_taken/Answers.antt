use Rattle.std.proofs.Common.{◌≡◌, ℕ, ◌≤◌, Bool, true, false, List, Option, Some, None, Result, Ok, Err, IfOk, IfErr, inl, inr, refl, sym, subst, ap, ◌∙◌}
use Rattle.std.specs.Prelude.{is_some}
use Rattle.std.specs.Bool.{OnFalse, OnTrue}
use Rattle.std.specs.FinMap.{get}
use Rattle.cell_key.specs.Cells.{Cells, IsNewest}
use Rattle.cell_key.specs.declared.keys.CellKey.{CellKey}
use Rattle.cell_key.specs.declared.keys.Qualifier.TheVariants.{Write}
use Rattle.cell_key.specs.declared.refusals.Refusal.{Refusal}
use Rattle.rows.specs.Reads.{HasVersion}
use Rattle.si_model.specs.ShowsCells.{IsThere, key_of}
use Rattle.cell_key.proofs.Reasons.{not_refused, reason_kept, reason_passed, reason_then}
use Rattle.rows.proofs.Calls.{reads_then, refusal_after}
use Rattle.txn_client.proofs.Passed.{passed_err, passed_none}
use Rattle.txn_client.proofs.cells.is_taken.Goals as goal

module _ (cells : Cells) (at : ℕ → CellKey) (lo hi : ℕ) (has : Bool) where
  nothing : has ≡ false → HasVersion cells at lo hi has → (s : ℕ) → lo ≤ s → s ≤ hi → get cells (at s) ≡ None
  nothing none h = go h.found (sym none ∙ h.is) h.newest
    where
      go : (found : Option (ℕ × List ℕ)) → false ≡ is_some found → IsNewest cells at lo hi found → (s : ℕ) → lo ≤ s → s ≤ hi → get cells (at s) ≡ None
      go None e none = none
      go (Some p) e some = cc

  there : has ≡ true → HasVersion cells at lo hi has → (s : ℕ) × (lo ≤ s) × ((b : List ℕ) × (get cells (at s) ≡ Some b))
  there some h = go h.found (sym some ∙ h.is) h.newest
    where
      go : (found : Option (ℕ × List ℕ)) → true ≡ is_some found → IsNewest cells at lo hi found → (s : ℕ) × (lo ≤ s) × ((b : List ℕ) × (get cells (at s) ≡ Some b))
      go None e none = absurd cc
      go (Some found) e (low, high, is, last) = (found.0, low, (found.1, is))

on_true : {P : Type 0} (b : Bool) → (b ≡ true → P) → OnTrue b P
on_true true h = h refl
on_true false h = tt

on_false : {P : Type 0} (b : Bool) → (b ≡ false → P) → OnFalse b P
on_false true h = tt
on_false false h = h refl

if_ok : {P Q : Bool → Type 0} (r : Result Bool Refusal) → IfOk r P → ((has : Bool) → P has → Q has) → IfOk r Q
if_ok (Ok has) h f = f has h
if_ok (Err e) h f = tt

if_err : {P Q : Refusal → Type 0} (r : Result Bool Refusal) → IfErr r P → ((e : Refusal) → P e → Q e) → IfErr r Q
if_err (Ok has) h f = tt
if_err (Err e) h f = f e h

pub returns-in_err-is_locked : goal.returns-in_err-is_locked
returns-in_err-is_locked g c =
    let r = c.from_residual.result in
    let e = c.in_err-is_locked.field-0.0 in
    let by = c.from_residual.ensures.1 in
    let at = c.in_err-is_locked.ensures in
    record {
      taken = λ readable. passed_none r e _ by;
      free = λ readable. passed_none r e _ by;
      reads = at.reads;
      refusal = passed_err r e _ by at.refusal;
      reason = reason_passed r e _ _ by at.reason;
    }

pub returns-then-is_locked : goal.returns-then-is_locked
returns-then-is_locked g c = record {
  taken = λ readable.
      let lock = there (g.R.Rows.seen.cells c.args.rows.now) _ 0 _ c.in_ok-is_locked.is_locked c.if-is_locked.true (c.in_ok-is_locked.ensures.found readable) in
      inl (lock.0, lock.2);
  free = λ readable. tt;
  reads = c.in_ok-is_locked.ensures.reads;
  refusal = tt;
  reason = reason_kept _ _ _ _ (not_refused _ _) c.in_ok-is_locked.ensures.reason;
}

pub returns : goal.returns
returns g c =
    let cells = g.R.Rows.seen.cells c.has_version.new.self in
    let first = c.in_ok-is_locked.ensures in
    let later = c.has_version-2.ensures in
    let r = c.has_version-2.result in
    record {
      taken = λ readable. if_ok r (later.found (first.reads.readable c.args.cell.now.row readable)) (λ has h. on_true has (λ some.
          inr (subst (λ (cells : Cells). (s : ℕ) × (c.args.start ≤ s) × IsThere cells c.args.cell.now Write s) first.reads.kept (there cells _ c.args.start _ has some h))));
      free = λ readable. if_ok r (later.found (first.reads.readable c.args.cell.now.row readable)) (λ has h. on_false has (λ none. (
        nothing (g.R.Rows.seen.cells c.args.rows.now) _ 0 _ c.in_ok-is_locked.is_locked c.if-is_locked.false (first.found readable),
        λ s lo hi. ap (λ (cs : Cells). get cs (key_of c.args.cell.now Write s)) (sym first.reads.kept) ∙ nothing cells _ c.args.start _ has none h s lo hi,
      )));
      reads = reads_then first.reads later.reads;
      refusal = if_err r later.refusal (λ e. refusal_after _ _ e (first.reads.readable c.args.cell.now.row));
      reason = reason_then r _ _ _ _ first.reason later.reason;
    }
