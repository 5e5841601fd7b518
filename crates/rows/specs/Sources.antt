-- Sources of stamps: what is known of one, and what a draw does.
use Rattle.std.specs.Prelude.{◌≡◌, ◌⊎◌, ◌+◌, ◌<◌, ◌^◌, ℕ, ⊤, Option, IfSome}
use Rattle.cell_key.specs.declared.refusals.Refusal.{Refusal}
use Rattle.cell_key.specs.declared.refusals.Refusal.TheVariants.{Exhausted, Device}

-- A source of stamps.
pub record Source (S : Type 0) : Type 1 where
  -- the last stamp that anyone has drawn, and 0 before the first
  pub last : S → ℕ
  -- the same, if the source itself knows it, since nobody else draws from it: then each stamp is the next one
  pub known : S → Option ℕ
  -- what a refused draw leaves, besides what each source promises
  pub leaves : S → S → Type 0

-- A stamp is drawn: it is above the last one, and becomes the last one. It is the next one if the last one was known.
pub record DrawsStamp {S : Type 0} (source : Source S) (old : S) (stamp : ℕ) (new : S)
    : Type 0 where
  pub above : source.last old < stamp
  pub limit : stamp < 2 ^ 63
  pub becomes : source.last new ≡ stamp
  pub next : IfSome (source.known old) (λ last. stamp ≡ last + 1)

-- it is unchanged, or as a refused draw leaves it
abbrev pub IsLeft : {S : Type 0} → Source S → S → S → Type 0
IsLeft source old new = (new ≡ old) ⊎ source.leaves old new

-- no more stamps, or a fault of a device
abbrev pub IsDrawRefusal : Refusal → Type 0
IsDrawRefusal Exhausted = ⊤
IsDrawRefusal Device = ⊤
IsDrawRefusal _ = ⊥
