use Rattle.std.proofs.Common.{inl, inr, refl, sym, subst}
use Rattle.std.proofs.lemmas.Result.{IfOk-weaker}
use Rattle.cell_key.specs.declared.refusals.Refusal.TheVariants.{Device}
use Rattle.tablet.specs.Compactions.{IsMinorRefusal}
use Rattle.tablet.proofs.Passed.{IsNoMemory, err_kind, err_map, no_memory, not_err, passed_err, passed_kept, passed_none, passed_on, passed_over, passed_reason, quiet_reason, reason_after}
use Rattle.tablet.proofs.WrittenFiles.{as_on_ok}
use Rattle.tablet.proofs.tablet.Tablet.unload.Goals as goal

pub returns-clause-lists : goal.returns-clause-lists
returns-clause-lists g c = as_on_ok c.names.result c.in_ok-minor.ensures.lists

pub returns-clause-left : goal.returns-clause-left
returns-clause-left g c = passed_kept c.names.result _ (record { range = c.in_ok-minor.ensures.range; empty = λ none. (c.in_ok-minor.ensures.empty none).1.0; may = inr (c.in_ok-minor.ensures.flushed.memory, c.in_ok-minor.ensures.flushed.names) })

pub returns-in_err-minor-clause-lists : goal.returns-in_err-minor-clause-lists
returns-in_err-minor-clause-lists g c = passed_none c.from_residual.result c.in_err-minor.field-0.0 _ c.from_residual.ensures.1

pub returns-in_err-minor-clause-left : goal.returns-in_err-minor-clause-left
returns-in_err-minor-clause-left g c = passed_kept c.from_residual.result _ (record { range = c.in_err-minor.ensures.range; empty = λ none. c.in_err-minor.ensures.err; may = inl c.in_err-minor.ensures.err })

pub returns-in_err-minor-clause-keeps : goal.returns-in_err-minor-clause-keeps
returns-in_err-minor-clause-keeps g c = c.in_err-minor.ensures.keeps

pub returns-in_err-minor-clause-range : goal.returns-in_err-minor-clause-range
returns-in_err-minor-clause-range g c = c.in_err-minor.ensures.range

pub returns-in_err-minor-clause-name : goal.returns-in_err-minor-clause-name
returns-in_err-minor-clause-name g c = c.in_err-minor.ensures.name

pub returns-in_err-minor-clause-full : goal.returns-in_err-minor-clause-full
returns-in_err-minor-clause-full g c = record {
  exactly = (λ is. c.in_err-minor.ensures.full.exactly.0 (passed_on c.from_residual.result _ c.in_err-minor.field-0.0 _ c.from_residual.ensures.1 refl is), λ both. passed_over c.from_residual.result c.in_err-minor.field-0.0 _ c.from_residual.ensures.1 (c.in_err-minor.ensures.full.exactly.1 both));
  untouched = λ is. c.in_err-minor.ensures.full.untouched (passed_on c.from_residual.result _ c.in_err-minor.field-0.0 _ c.from_residual.ensures.1 refl is);
}

pub returns-in_err-minor-clause-exhausted : goal.returns-in_err-minor-clause-exhausted
returns-in_err-minor-clause-exhausted g c = λ is. c.in_err-minor.ensures.exhausted (passed_on c.from_residual.result _ c.in_err-minor.field-0.0 _ c.from_residual.ensures.1 refl is)

pub returns-in_err-minor-clause-large : goal.returns-in_err-minor-clause-large
returns-in_err-minor-clause-large g c = λ is. c.in_err-minor.ensures.large (passed_on c.from_residual.result _ c.in_err-minor.field-0.0 _ c.from_residual.ensures.1 refl is)

pub returns-in_err-minor-clause-damaged : goal.returns-in_err-minor-clause-damaged
returns-in_err-minor-clause-damaged g c = λ is. c.in_err-minor.ensures.damaged (passed_on c.from_residual.result _ c.in_err-minor.field-0.0 _ c.from_residual.ensures.1 refl is)

pub returns-in_err-minor-clause-refusal : goal.returns-in_err-minor-clause-refusal
returns-in_err-minor-clause-refusal g c = passed_err c.from_residual.result c.in_err-minor.field-0.0 _ c.from_residual.ensures.1 c.in_err-minor.ensures.refusal

pub returns-in_err-minor-clause-reason : goal.returns-in_err-minor-clause-reason
returns-in_err-minor-clause-reason g c = passed_reason c.from_residual.result _ c.in_err-minor.field-0.0 _ _ c.from_residual.ensures.1 refl c.in_err-minor.ensures.reason

pub returns-in_err-minor-clause-empty : goal.returns-in_err-minor-clause-empty
returns-in_err-minor-clause-empty g c = λ none. (c.in_err-minor.ensures.empty none).1.1

pub returns-clause-keeps : goal.returns-clause-keeps
returns-clause-keeps g c = c.in_ok-minor.ensures.keeps

pub returns-clause-range : goal.returns-clause-range
returns-clause-range g c = c.in_ok-minor.ensures.range

pub returns-clause-name : goal.returns-clause-name
returns-clause-name g c = c.in_ok-minor.ensures.name

pub returns-clause-empty : goal.returns-clause-empty
returns-clause-empty g c = λ none. (c.in_ok-minor.ensures.empty none).1.1

pub returns-clause-full : goal.returns-clause-full
returns-clause-full g c = record {
  exactly = (λ is. absurd (err_kind c.names.result _ IsNoMemory (err_map c.names.result _ IsNoMemory no_memory c.names.ensures.refusal) is), λ both. absurd (not_err _ _ (c.in_ok-minor.ensures.full.exactly.1 both)));
  untouched = λ is. absurd (err_kind c.names.result _ IsNoMemory (err_map c.names.result _ IsNoMemory no_memory c.names.ensures.refusal) is);
}

pub returns-clause-exhausted : goal.returns-clause-exhausted
returns-clause-exhausted g c = λ is. absurd (err_kind c.names.result _ IsNoMemory (err_map c.names.result _ IsNoMemory no_memory c.names.ensures.refusal) is)

pub returns-clause-large : goal.returns-clause-large
returns-clause-large g c = λ is. absurd (err_kind c.names.result _ IsNoMemory (err_map c.names.result _ IsNoMemory no_memory c.names.ensures.refusal) is)

pub returns-clause-damaged : goal.returns-clause-damaged
returns-clause-damaged g c = λ is. absurd (err_kind c.names.result _ IsNoMemory (err_map c.names.result _ IsNoMemory no_memory c.names.ensures.refusal) is)

pub returns-clause-refusal : goal.returns-clause-refusal
returns-clause-refusal g c = err_map c.names.result _ IsMinorRefusal (λ e is. subst IsMinorRefusal (sym is) tt) c.names.ensures.refusal

pub returns-clause-reason : goal.returns-clause-reason
returns-clause-reason g c = reason_after _ _ _ (c.in_ok-minor.ensures.reason.told (not_err _ Device)) (quiet_reason c.names.result _ (λ is. absurd (err_kind c.names.result _ IsNoMemory (err_map c.names.result _ IsNoMemory no_memory c.names.ensures.refusal) is)))

pub returns-in_err-minor-clause-flushed : goal.returns-in_err-minor-clause-flushed
returns-in_err-minor-clause-flushed g c = passed_none c.from_residual.result c.in_err-minor.field-0.0 _ c.from_residual.ensures.1

pub returns-clause-flushed : goal.returns-clause-flushed
returns-clause-flushed g c = IfOk-weaker c.names.result _ _ (λ names is. (is, c.in_ok-minor.ensures.flushed)) c.names.ensures.names
