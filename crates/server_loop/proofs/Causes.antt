-- The causes of a device's fault in a reply, from its command's outcome.
use Rattle.std.proofs.Common.{◌≡◌, ℕ, inl, Option, ap, refl, subst}
use Rattle.cell_key.specs.declared.refusals.Refusal.{Refusal}
use Rattle.cell_key.specs.declared.refusals.Refusal.TheVariants.{Damaged, Device, MemtableFull}
use Rattle.file_store.specs.Store.{Contents}
use Rattle.request_codec.specs.declared.replies.Reply.{Reply as CodecReply}
use Rattle.request_codec.specs.declared.replies.Reply.TheVariants as codec
use Rattle.request_codec.specs.declared.requests.Request.{Request}
use Rattle.row_atomic.specs.Commands.{TellsFaults}
use Rattle.row_atomic.specs.declared.commands.Outcome.{Outcome}
use Rattle.row_atomic.specs.declared.commands.Outcome.TheVariants.{Refused}
use Rattle.server_loop.specs.Answer.{LacksRoom, ReadsDamage, TellsCauses}
use Rattle.server_loop.specs.declared.server.Server.{Server}
use Rattle.server_loop.proofs.SessionSteps.{IfTold}

-- a reply that is this refusal names it
pub refusal_is : (e n : Refusal) → codec.Refused e ≡ codec.Refused n → e ≡ n
refusal_is e n is = cc

module _ {F M W : Type 0} (contents : F → Option Contents) (file_faults : F → ℕ) (mark_faults : M → ℕ) (request : Request) where
  pub done_causes : (reply : CodecReply) (outcome : Outcome) (old new : Server F M W) → new.oracle ≡ old.oracle → (reply ≡ codec.Refused Device → outcome ≡ Refused Device) → (outcome ≡ Refused Device → reply ≡ codec.Refused Device)
      → TellsFaults file_faults outcome old.rows.cluster new.rows.cluster → (reply ≡ codec.Refused MemtableFull → LacksRoom contents request old) → (reply ≡ codec.Refused Damaged → ReadsDamage contents request old new) → TellsCauses contents file_faults mark_faults request reply old new
  done_causes reply outcome old new same to from told full damaged = record {
    device = λ is. inl (told.device (to is));
    told = λ none. record { files = told.told (λ is. none (from is)); marks = ap (λ oracle. mark_faults oracle.marks) same };
    full = full;
    damaged = damaged;
  }

  pub refused_causes : (e : Refusal) (old new : Server F M W) → new.oracle ≡ old.oracle → TellsFaults file_faults (Refused e) old.rows.cluster new.rows.cluster
      → (codec.Refused e ≡ codec.Refused MemtableFull → LacksRoom contents request old) → (codec.Refused e ≡ codec.Refused Damaged → ReadsDamage contents request old new) → TellsCauses contents file_faults mark_faults request (codec.Refused e) old new
  refused_causes e old new same told full damaged =
      done_causes (codec.Refused e) (Refused e) old new same
      (λ is. let that : e ≡ Device = subst (IfTold (λ (r : Refusal). e ≡ r)) is refl in ap (λ (r : Refusal). Refused r) that)
      (λ is. let that : e ≡ Device = cc in ap (λ (r : Refusal). codec.Refused r) that) told full damaged

  -- no device failed
  pub unmet_causes : (reply : CodecReply) (old new : Server F M W) → new.rows.cluster ≡ old.rows.cluster → new.oracle ≡ old.oracle → ¬ (reply ≡ codec.Refused Device)
      → (reply ≡ codec.Refused MemtableFull → LacksRoom contents request old) → (reply ≡ codec.Refused Damaged → ReadsDamage contents request old new) → TellsCauses contents file_faults mark_faults request reply old new
  unmet_causes reply old new same_cluster same_oracle not full damaged = record {
    device = λ is. absurd (not is);
    told = λ _. record { files = ap (λ cluster. file_faults cluster.files) same_cluster; marks = ap (λ oracle. mark_faults oracle.marks) same_oracle };
    full = full;
    damaged = damaged;
  }
