-- The rule of scans, applied to a recorded scan.
use Rattle.std.proofs.Common.{◌≡◌, ℕ, Bool, List, Option, Some, None, refl}
use Rattle.si_model.specs.declared.replies.Cell.{Cell}
use Rattle.si_model.specs.Machine.{State, Range, Item, Valued, Locked, Unsent, Reach}
use Rattle.si_model.specs.Scans.{IsFreeAt, IsSo, IsSaid, IsScanned}
use Rattle.si_model.proofs.Kept.{IsRight}

pub said_so : (st : State) (s : ℕ) (x : Cell) (said : Option Item) → IsSaid st s x said → IsSo st.commits s x said
said_so st s x None is = is.1
said_so st s x (Some (Valued v)) is = is.1
said_so st s x (Some Unsent) is = is.1
said_so st s x (Some (Locked t)) is = tt

said_free : (st : State) (s : ℕ) (x : Cell) (said : Option Item) → ((t : ℕ) → (said ≡ Some (Locked t)) → ⊥) → IsSaid st s x said → IsFreeAt st s x
said_free st s x None free is = is.0
said_free st s x (Some (Valued v)) free is = is.0
said_free st s x (Some Unsent) free is = is.0
said_free st s x (Some (Locked t)) free is = absurd (free t refl)

pub scan_right : {st : State} {s cells : ℕ} {range : Range} {keys_only : Bool} {items : List (Cell × Item)} {reach : Reach}
    → IsScanned st s range keys_only cells items reach → IsRight st (record { start = s; range = range; reach = reach; items = items })
scan_right {st} {s} is = record {
  so = λ x said by. said_so st s x said (is.said x by.covers said by.says);
  free = λ x by. said_free st s x by.said by.free (is.said x by.is.covers by.said by.is.says);
}
