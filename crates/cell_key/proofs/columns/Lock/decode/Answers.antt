use Rattle.std.proofs.Common.{◌≡◌, ℕ, List, Option, Some, None, refl}
use Rattle.std.specs.Prelude.{IfNone}
use Rattle.cell_key.specs.Places.{IsPlaceText}
use Rattle.cell_key.proofs.LockTexts.{one_part}
use Rattle.cell_key.proofs.columns.Lock.decode.Goals as goal

lacking : {A : Type 0} (o : Option A) (bytes : List ℕ) → ((a : A) → o ≡ Some a → ⊥) → IfNone o (¬ IsPlaceText bytes) → ¬ IsPlaceText bytes
lacking None bytes not none = none
lacking (Some a) bytes not none = absurd (not a refl)

pub returns-in_default-clause-none : goal.returns-in_default-clause-none
returns-in_default-clause-none c = λ row family kind is_row is_family is.
    let place = c.parted-kind.result.0.now in
    lacking c.in_ok-row.field-0 place c.in_default.not-Some c.in_ok-row.ensures.none
    (record { row = row; family = family; is_row = is_row; is_family = is_family; is = (one_part row family kind c.parted-kind.result.1 c.args.text.now place is c.parted-kind.ensures).0 })
