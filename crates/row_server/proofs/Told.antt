-- Accepted replies of cleaners and collectors are no refusals, and are within the limits.
use Rattle.std.proofs.Common.{◌≡◌, ◌⊎◌, inl, inr, ℕ, Result, Ok, Err, IsErrOf}
use Rattle.cell_key.specs.declared.refusals.Refusal.{Refusal}
use Rattle.cell_key.specs.declared.refusals.Refusal.TheVariants.{Damaged}
use Rattle.request_codec.specs.Replies.{HoldsWithinLimits}
use Rattle.request_codec.specs.declared.replies.Reply.TheVariants as codec
use Rattle.server_loop.proofs.SessionSteps.{as_refused, ok_not}
use Rattle.server_loop.specs.Runs.{IfRefused}
use Rattle.si_model.specs.Machine.{Collecting, Refused}
use Rattle.si_model.specs.Replies.{clean_reply, clean_start_reply, collect_reply}
use Rattle.si_model.specs.declared.replies.CleanReply.{CleanReply}
use Rattle.si_model.specs.declared.replies.CleanReply.TheVariants as cleans
use Rattle.si_model.specs.declared.replies.CleanStart.{CleanStart}
use Rattle.si_model.specs.declared.replies.CleanStart.TheVariants as starts
use Rattle.si_model.specs.declared.replies.CollectReply.{CollectReply}
use Rattle.si_model.specs.declared.replies.CollectReply.TheVariants as collects

pub started_told : (P : Refusal → Type 0) (found : CleanStart) → IfRefused P (clean_start_reply found)
started_told P starts.NoLock = tt
started_told P (starts.Cleaner number start) = tt

pub started_limits : (found : CleanStart) → HoldsWithinLimits (clean_start_reply found)
started_limits starts.NoLock = tt
started_limits (starts.Cleaner number start) = tt

pub started_undamaged : (found : CleanStart) → clean_start_reply found ≡ Refused Damaged → ⊥
started_undamaged starts.NoLock = λ e. cc
started_undamaged (starts.Cleaner number start) = λ e. cc

pub cleaned_told : (P : Refusal → Type 0) (done : CleanReply) → IfRefused P (clean_reply done)
cleaned_told P cleans.Decided = tt
cleaned_told P (cleans.RolledForward commit) = tt
cleaned_told P cleans.RolledBack = tt
cleaned_told P cleans.Gone = tt

pub cleaned_limits : (done : CleanReply) → HoldsWithinLimits (clean_reply done)
cleaned_limits cleans.Decided = tt
cleaned_limits (cleans.RolledForward commit) = tt
cleaned_limits cleans.RolledBack = tt
cleaned_limits cleans.Gone = tt

pub cleaned_undamaged : (done : CleanReply) → clean_reply done ≡ Refused Damaged → ⊥
cleaned_undamaged cleans.Decided = λ e. cc
cleaned_undamaged (cleans.RolledForward commit) = λ e. cc
cleaned_undamaged cleans.RolledBack = λ e. cc
cleaned_undamaged cleans.Gone = λ e. cc

pub collected_told : (P : Refusal → Type 0) (done : CollectReply) → IfRefused P (collect_reply done)
collected_told P collects.More = tt
collected_told P (collects.Blocked cell start) = tt
collected_told P collects.Collected = tt

pub collected_undamaged : (done : CollectReply) → collect_reply done ≡ Refused Damaged → ⊥
collected_undamaged collects.More = λ e. cc
collected_undamaged (collects.Blocked cell start) = λ e. cc
collected_undamaged collects.Collected = λ e. cc

pub begun_undamaged : (number floor : ℕ) → Collecting number floor ≡ Refused Damaged → ⊥
begun_undamaged number floor e = cc

-- ---- the refusals of a number of visits

pub never_bad : {A : Type 0} (done : A) (a b : Refusal) → IsErrOf (Ok done) a ⊎ IsErrOf (Ok done) b → ⊥
never_bad done a b (inl is) = ok_not done a is
never_bad done a b (inr is) = ok_not done b is

pub bad_told : {A : Type 0} (result : Result A Refusal) (refusal : Refusal) {a b : Refusal} → result ≡ Err refusal → IsErrOf result a ⊎ IsErrOf result b
    → (codec.Refused refusal ≡ codec.Refused a) ⊎ (codec.Refused refusal ≡ codec.Refused b)
bad_told result refusal {a = a} {b = b} is (inl err) = inl (as_refused result refusal a is err)
bad_told result refusal {a = a} {b = b} is (inr err) = inr (as_refused result refusal b is err)
