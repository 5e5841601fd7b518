-- What writes lead to that are taken behind copies of those that the session had.
use Rattle.std.proofs.Common.{◌≡◌, ℕ, List, map, inr, subst}
use Rattle.std.specs.Prelude.{◌⊎◌, Result, Ok, Err, IfOk, IfErr}
use Rattle.std.specs.Global.{Vec}
use Rattle.cell_key.specs.declared.refusals.Refusal.{Refusal}
use Rattle.cell_key.specs.declared.refusals.Refusal.TheVariants.{NoMemory}
use Rattle.si_model.specs.Answers.{write_named}
use Rattle.si_model.specs.Machine.{Writes}
use Rattle.si_model.specs.declared.transactions.CellWrite.{CellWrite}
use Rattle.audit.specs.AuditOperations.{HasBefore}
use Rattle.audit.specs.Audits.{write_of}
use Rattle.audit.specs.declared.audit.Audit.{Audit}
use Rattle.audit.specs.declared.audit.parts.Write.{Write}
use Rattle.si_model.specs.Takings.{IsRefusedWrite, TakesAll}

-- the writes before the request are these
module _ (audit : Audit) (start : ℕ) (asked : List CellWrite) (copied : List Write) where
  pub all_taken_from : (r : Result (Vec Write) Refusal) → ((before : Writes) → HasBefore audit start before → map write_of copied ≡ before) → IfOk r (λ all. TakesAll (map write_of copied) (map write_named asked) (map write_of all.items))
      → IfOk r (λ all. (before : Writes) → HasBefore audit start before → TakesAll before (map write_named asked) (map write_of all.items))
  all_taken_from (Ok all) same takes = λ before had. subst (λ (l : Writes). TakesAll l (map write_named asked) (map write_of all.items)) (same before had) takes
  all_taken_from (Err e) same takes = tt

  pub refused_from : (r : Result (Vec Write) Refusal) → ((before : Writes) → HasBefore audit start before → map write_of copied ≡ before) → IfErr r (IsRefusedWrite (map write_of copied) (map write_named asked))
      → IfErr r (λ e. (before : Writes) → HasBefore audit start before → (e ≡ NoMemory) ⊎ IsRefusedWrite before (map write_named asked) e)
  refused_from (Ok all) same refused = tt
  refused_from (Err e) same refused = λ before had. inr (subst (λ (l : Writes). IsRefusedWrite l (map write_named asked) e) (same before had) refused)
