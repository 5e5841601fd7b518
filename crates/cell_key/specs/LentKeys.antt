-- Keys borrowed as their texts.
use Rattle.std.specs.Prelude.{◌≡◌, length}
use Rattle.cell_key.specs.Keys.{text, IsStored}
use Rattle.cell_key.specs.Texts.{place_text}
use Rattle.cell_key.specs.declared.keys.CellKey.{CellKey}
use Rattle.cell_key.specs.declared.lent_keys.KeyRef.{KeyRef}

-- a borrowed key is a key within all limits, and its parts are that key's
pub record IsLentKey (lent : KeyRef) : Type 0 where
  pub key : CellKey
  pub stored : IsStored key
  pub is : lent.text.now ≡ text key
  pub place : lent.place_len ≡ length (place_text key.row key.family)
  pub qualifier : lent.qualifier ≡ key.qualifier
  pub stamp : lent.stamp ≡ key.stamp
