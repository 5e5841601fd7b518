-- A text whose row and stamp aren't within the bounds of entries has no entry.
use Rattle.std.proofs.Common.{◌≡◌, ℕ, Bool, true, false, cond, List, [], ◌∷◌, Option, Some, None, refl, sym}
use Rattle.std.specs.List.{AllByRecursion}
use Rattle.std.specs.Ordering.{eq_by_cmp}
use Rattle.std.specs.FinMap.Entries.{find}
use Rattle.std.specs.FinMap.{slice_cmp-IsAntisymmetric, nat_cmp-IsAntisymmetric}
use Rattle.cell_key.specs.Keys.{byte_cmp, text, IsStored}
use Rattle.cell_key.specs.Entries.{Entry, entry_of_key}
use Rattle.cell_key.specs.declared.keys.CellKey.{CellKey}
use Rattle.cell_key.specs.declared.keys.Qualifier.TheVariants.{Data, Lock, Write}
use Rattle.std.specs.declared.cmp.Ordering.{Ordering}
use Rattle.std.specs.declared.cmp.Ordering.TheVariants.{Less, Equal, Greater}
use Rattle.std.specs.Ordering.{is_eq}
use Rattle.sorted_file.specs.Bounds.{column_bounds, AreWithin, IsBounded, IsWithin}
use Rattle.sorted_file.specs.declared.bounds.ColumnBounds.{ColumnBounds}

equal : (o : Ordering) → is_eq o ≡ true → o ≡ Equal
equal Less e = cc
equal Equal e = refl
equal Greater e = cc

pub one_text : (x y : List ℕ) → eq_by_cmp byte_cmp x y ≡ true → x ≡ y
one_text x y e = slice_cmp-IsAntisymmetric nat_cmp-IsAntisymmetric x y (equal (byte_cmp x y) e)

module _ (bounds : ColumnBounds) (key : CellKey) (stored : IsStored key) (out : ¬ (IsWithin (column_bounds bounds key.qualifier) key.row key.stamp)) where
  pub none_bounded : (es : List Entry) → AllByRecursion (IsBounded bounds) es → entry_of_key es (text key) ≡ None
  none_bounded [] all = refl
  none_bounded ((name, value) ∷ es) all = go (none_bounded es all.1) (eq_by_cmp byte_cmp (text key) name) refl
    where
      go : entry_of_key es (text key) ≡ None → (b : Bool) → eq_by_cmp byte_cmp (text key) name ≡ b → cond b (Some value) (find byte_cmp (text key) es) ≡ None
      go more true e = absurd (out (all.0 key stored (sym (one_text (text key) name e))))
      go more false e = more

pub covered : (old new : ColumnBounds) (entry : Entry) → AreWithin old new → IsBounded old entry → IsBounded new entry
covered old new entry keeps is = λ key stored named. keeps key.qualifier key.row key.stamp (is key stored named)

pub covered_all : (old new : ColumnBounds) (es : List Entry) → AreWithin old new → AllByRecursion (IsBounded old) es → AllByRecursion (IsBounded new) es
covered_all old new [] keeps all = tt
covered_all old new (e ∷ es) keeps all = (covered old new e keeps all.0, covered_all old new es keeps all.1)

pub by_kind : (old new : ColumnBounds) → ((r : List ℕ) (s : ℕ) → IsWithin old.data r s → IsWithin new.data r s)
    → ((r : List ℕ) (s : ℕ) → IsWithin old.lock r s → IsWithin new.lock r s)
    → ((r : List ℕ) (s : ℕ) → IsWithin old.write r s → IsWithin new.write r s) → AreWithin old new
by_kind old new d l w Data = d
by_kind old new d l w Lock = l
by_kind old new d l w Write = w
