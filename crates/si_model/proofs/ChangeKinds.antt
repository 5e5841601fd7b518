-- A change, from its kind.
use Rattle.std.proofs.Common.{◌≡◌, ℕ, List, Some, None, refl}
use Rattle.cell_key.specs.declared.columns.WriteKind.TheVariants as write
use Rattle.si_model.specs.Machine.{Change}
use Rattle.si_model.specs.ShowsCells.{kind_of_change}

-- a change of this kind is a deletion
pub is_deletion : (v : Change) → kind_of_change v ≡ write.Delete → v ≡ None
is_deletion (Some given) e = cc
is_deletion None e = refl

-- a change of this kind gives a value
pub is_set : (v : Change) → kind_of_change v ≡ write.Set → (given : List ℕ) × (v ≡ Some given)
is_set (Some given) e = (given, refl)
is_set None e = cc
