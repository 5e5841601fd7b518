-- If the hash of a column or of a lock's key isn't listed, there is no entry of it.
use Rattle.std.proofs.Common.{◌≡◌, ℕ, Bool, true, false, cond, List, [], ◌∷◌, Contains, Option, Some, None, refl, sym, ap, subst}
use Rattle.std.specs.List.{AllByRecursion}
use Rattle.std.specs.Ordering.{eq_by_cmp}
use Rattle.std.specs.FinMap.Entries.{find}
use Rattle.cell_key.specs.Keys.{byte_cmp, text, IsStored}
use Rattle.cell_key.specs.Entries.{Entry, entry_of_key}
use Rattle.cell_key.specs.declared.keys.CellKey.{CellKey}
use Rattle.cell_key.specs.declared.keys.Qualifier.TheVariants.{Lock}
use Rattle.sorted_file.specs.Numbers.{text_number, IsAmong, IsLockKept, IsLockKeyNumbered, IsNumbered}
use Rattle.sorted_file.proofs.Bounded.{one_text}

pub keyed_on : (old new : List ℕ) → IsAmong old new → (es : List Entry) → AllByRecursion (IsLockKeyNumbered old) es → AllByRecursion (IsLockKeyNumbered new) es
keyed_on old new keeps [] all = tt
keyed_on old new keeps (e ∷ es) all = ((λ key stored named lock. keeps (text_number e.0) (all.0 key stored named lock)), keyed_on old new keeps es all.1)

pub kept_on : (old new : List CellKey) → IsAmong old new → (es : List Entry) → AllByRecursion (IsLockKept old) es → AllByRecursion (IsLockKept new) es
kept_on old new keeps [] all = tt
kept_on old new keeps (e ∷ es) all = ((λ key stored named lock some. keeps key (all.0 key stored named lock some)), kept_on old new keeps es all.1)

-- a lock whose text's hash isn't listed has no entry
module _ (numbers : List ℕ) (key : CellKey) (stored : IsStored key) (lock : key.qualifier ≡ Lock) (out : ¬ Contains numbers (text_number (text key))) where
  pub no_lock_entry : (es : List Entry) → AllByRecursion (IsLockKeyNumbered numbers) es → entry_of_key es (text key) ≡ None
  no_lock_entry [] all = refl
  no_lock_entry ((name, value) ∷ es) all = go (no_lock_entry es all.1) (eq_by_cmp byte_cmp (text key) name) refl
    where
      go : entry_of_key es (text key) ≡ None → (b : Bool) → eq_by_cmp byte_cmp (text key) name ≡ b → cond b (Some value) (find byte_cmp (text key) es) ≡ None
      go more true e =
          let same = one_text (text key) name e in
          absurd (out (subst (λ (t : List ℕ). Contains numbers (text_number t)) (sym same) (all.0 key stored (sym same) lock)))
      go more false e = more
