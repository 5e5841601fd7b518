use Rattle.std.proofs.Common.{inl, inr}
use Rattle.si_model.specs.Machine.{Stamped}
use Rattle.si_model.proofs.ByServers.{by_servers}
use Rattle.si_model.proofs.Steps.{reached_sound}
use Rattle.si_model.proofs.Fates.{fate_seen}
use Rattle.si_model.proofs.laws.commit_seen.Goals as goal

pub returns : goal.returns
returns c = λ st reached t s ws x v h w puts. (
  λ m d. (fate_seen st (by_servers reached) t ws x v w puts).dead d m,
  λ left. elim ((reached_sound reached).stands t (Stamped s) h tt ws w) [ inl d ↦ d | inr f ↦ absurd (left (f 0 x v puts tt)) ],
)
