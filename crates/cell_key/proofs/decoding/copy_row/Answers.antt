use Rattle.std.proofs.Common.{List, ℕ, ◌≤◌, ◌++◌, length, Result, Ok, Err, IfOk, subst, sym, ap, ◌∙◌}
use Rattle.cell_key.specs.Texts.{ended}
use Rattle.cell_key.proofs.EscapedParts.{escaped-all_plain}
use Rattle.cell_key.proofs.Order.{row_rest}
use Rattle.cell_key.proofs.decoding.copy_row.Goals as goal

if_ok : {A E : Type 0} (r : Result A E) (P Q : A → Type 0) → ((x : A) → P x → Q x) → IfOk r P → IfOk r Q
if_ok (Ok x) P Q f h = f x h
if_ok (Err e) P Q f h = tt

pub returns-in-Some : goal.returns-in-Some
returns-in-Some c =
    let part = c.in-Some.row.now in
    let after = c.in-Some.field-0-1.now in
    let whole = c.in-Some.ensures.found ∙ ap (λ (t : List ℕ). ended t ++ after) (sym (escaped-all_plain part c.in-Some.ensures.whole)) in
    record {
      row = if_ok c.from_slice.result _ _ (λ copy same row rest e. same ∙ (row_rest part row after rest (sym whole ∙ e)).0) c.from_slice.ensures.ok;
      short = λ row rest e short few. c.from_slice.ensures.succeeds (subst (λ (t : List ℕ). length t ≤ 32) (sym (row_rest part row after rest (sym whole ∙ e)).0) short);
    }
