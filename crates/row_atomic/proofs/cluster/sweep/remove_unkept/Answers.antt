use Rattle.std.proofs.Common.{◌≡◌, ◌⊎◌, false, inr, length, sym, ap, ◌∙◌, ◌∷◌, List, Result, IsErrOf, ℕ, Bool, option_map, subst, arith}
use Rattle.std.specs.Vec.Iter.{into_iter_items}
use Rattle.cell_key.specs.declared.refusals.Refusal.{Refusal}
use Rattle.cell_key.specs.declared.refusals.Refusal.TheVariants.{Device, NoMemory}
use Rattle.cell_key.specs.Faults.{HasReason}
use Rattle.row_atomic.specs.Sweeps.{is_kept_beside, unkept, without_files}
use Rattle.row_atomic.proofs.PassedRefusals.{no_fault, none_answered, not_refused, reason_passed, refused_so}
use Rattle.row_atomic.proofs.Sweeps.{lacks_more, unkept_first}
use Rattle.row_atomic.proofs.cluster.sweep.remove_unkept.Goals as goal

no_fault_since : {A : Type 0} (r : Result A Refusal) (before now : ℕ) → now ≡ before → ¬ IsErrOf r Device → HasReason before now r
no_fault_since r before now same not = subst (λ (count : ℕ). HasReason count now r) same (no_fault r now not)

pub returns-in_err-remove-clause-lacks : goal.returns-in_err-remove-clause-lacks
returns-in_err-remove-clause-lacks g c =
    let free = sym c.is_kept_beside.ensures ∙ c.if-not-is_kept_beside.true in
    lacks_more (is_kept_beside (option_map (λ places. places.now) c.args.root) c.args.table.now) (g.F.Files.contents c.args.files.now) (g.F.Files.contents c.loop-name.files) (g.F.Files.contents c.remove.new.files) c.in-Some.name free c.loop-name.invariant.lacks c.in_err-remove.ensures.err

pub loop-name-preserved-then-not-is_kept_beside : goal.loop-name-preserved-then-not-is_kept_beside
loop-name-preserved-then-not-is_kept_beside g c =
    let kept : ℕ → Bool = is_kept_beside (option_map (λ places. places.now) c.args.root) c.args.table.now in
    let rest = into_iter_items c.next.new.self in
    let first = c.in-Some.ensures.steps.0 in
    let free : kept c.in-Some.name ≡ false = sym c.is_kept_beside.ensures ∙ c.if-not-is_kept_beside.true in
    let names : unkept kept (into_iter_items c.loop-name.name-iterator) ≡ c.in-Some.name ∷ unkept kept rest = ap (unkept kept) first ∙ unkept_first kept c.in-Some.name rest free in
    let gone = c.in_ok-remove.ensures.ok in
    let fewer = ap length names in
    let shorter = ap length first in
    record {
      removed =
          ap (without_files (unkept kept rest)) gone
          ∙ ap (λ (ns : List ℕ). without_files ns (g.F.Files.contents c.loop-name.files)) (sym names)
          ∙ c.loop-name.invariant.removed;
      count = omega (arith, c.loop-name.invariant.count, fewer);
      room = omega (arith, c.loop-name.invariant.room, shorter);
      lacks = lacks_more kept (g.F.Files.contents c.args.files.now) (g.F.Files.contents c.loop-name.files) (g.F.Files.contents c.remove.new.files) c.in-Some.name free c.loop-name.invariant.lacks (inr gone);
      quiet = c.in_ok-remove.ensures.reason.told (λ e. cc) ∙ c.loop-name.invariant.quiet;
    }

pub returns-in_err-remove-clause-removed : goal.returns-in_err-remove-clause-removed
returns-in_err-remove-clause-removed g c = none_answered c.from_residual.result c.in_err-remove.field-0.0 _ c.from_residual.ensures.1

pub returns-in_err-remove-clause-count : goal.returns-in_err-remove-clause-count
returns-in_err-remove-clause-count g c = none_answered c.from_residual.result c.in_err-remove.field-0.0 _ c.from_residual.ensures.1

pub returns-in_err-remove-clause-refusal : goal.returns-in_err-remove-clause-refusal
returns-in_err-remove-clause-refusal g c = refused_so c.from_residual.result c.in_err-remove.field-0.0 (λ refusal. (refusal ≡ Device) ⊎ (refusal ≡ NoMemory)) c.from_residual.ensures.1 c.in_err-remove.ensures.refusal

pub returns-in_err-remove-clause-reason : goal.returns-in_err-remove-clause-reason
returns-in_err-remove-clause-reason g c = subst (λ (count : ℕ). HasReason count (g.F.Files.faults c.remove.new.files) c.from_residual.result) c.loop-name.invariant.quiet (reason_passed c.from_residual.result c.in_err-remove.field-0.0 _ _ c.from_residual.ensures.1 c.in_err-remove.ensures.reason)

pub returns-clause-refusal : goal.returns-clause-refusal
returns-clause-refusal g c = tt

pub returns-clause-lacks : goal.returns-clause-lacks
returns-clause-lacks g c = c.loop-name.invariant.lacks

pub returns-clause-reason : goal.returns-clause-reason
returns-clause-reason g c = no_fault_since _ _ _ c.loop-name.invariant.quiet (λ is. not_refused _ Device is)
