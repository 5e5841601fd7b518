-- If the hash of a column isn't listed, there is no entry in the column.
use Rattle.std.proofs.Common.{◌≡◌, ℕ, T, IsTrue, Bool, true, false, cond, List, [], ◌∷◌, Contains, ◌⊎◌, inl, inr, Some, None, refl, sym, ap, subst, ◌∙◌}
use Rattle.std.specs.List.{AllByRecursion}
use Rattle.std.specs.Ordering.{eq_by_cmp}
use Rattle.std.specs.FinMap.Entries.{find}
use Rattle.std.specs.Hash.FoldHasher as folding
use Rattle.cell_key.specs.Keys.{byte_cmp, text}
use Rattle.cell_key.specs.Entries.{Entry, entry_of_key}
use Rattle.cell_key.specs.declared.keys.CellKey.{CellKey}
use Rattle.cell_key.specs.declared.keys.Qualifier.{Qualifier}
use Rattle.cell_key.specs.declared.keys.Qualifier.TheVariants.{Data, Write}
use Rattle.sorted_file.specs.LookupKey.{entry_number}
use Rattle.sorted_file.specs.Newest.{at_stamp}
use Rattle.sorted_file.specs.Numbers.{number_of, IsAmong, IsNumbered}
use Rattle.sorted_file.proofs.Bounded.{one_text}
use Rattle.sorted_file.proofs.Fronts.{before}

pub one_number : (key : CellKey) (s : ℕ) → number_of (text (at_stamp key s)) ≡ number_of (text key)
one_number key s = ap (λ (column : List ℕ). folding.finish (folding.write folding.initial column)) (before key s ∙ sym (before key key.stamp))

module _ (numbers name : List ℕ) (out : ¬ Contains numbers (number_of name)) where
  none_here : (es : List Entry) → AllByRecursion (IsNumbered numbers) es → entry_of_key es name ≡ None
  none_here [] all = refl
  none_here ((n, v) ∷ es) all = go (none_here es all.1) (eq_by_cmp byte_cmp name n) refl
    where
      go : entry_of_key es name ≡ None → (b : Bool) → eq_by_cmp byte_cmp name n ≡ b → cond b (Some v) (find byte_cmp name es) ≡ None
      go more true e = absurd (out (subst (λ (t : List ℕ). Contains numbers (number_of t)) (sym (one_text name n e)) all.0))
      go more false e = more

pub no_entry : (numbers : List ℕ) (key : CellKey) → ¬ Contains numbers (number_of (text key)) → (es : List Entry) → AllByRecursion (IsNumbered numbers) es
    → (s : ℕ) → entry_of_key es (text (at_stamp key s)) ≡ None
no_entry numbers key out es all s = none_here numbers (text (at_stamp key s)) (λ there. out (subst (λ (n : ℕ). Contains numbers n) (one_number key s) there)) es all

pub numbered_on : (old new : List ℕ) → IsAmong old new → (es : List Entry) → AllByRecursion (IsNumbered old) es → AllByRecursion (IsNumbered new) es
numbered_on old new keeps [] all = tt
numbered_on old new keeps (e ∷ es) all = (keeps (number_of e.0) all.0, numbered_on old new keeps es all.1)

-- an entry is tested by the hash of its column, unless it is a lock's
pub of_column : (q : Qualifier) (name : List ℕ) → (q ≡ Data) ⊎ (q ≡ Write) → entry_number q name ≡ number_of name
of_column q name (inl e) = ap (λ (k : Qualifier). entry_number k name) e
of_column q name (inr e) = ap (λ (k : Qualifier). entry_number k name) e

-- a number isn't listed if the test answers no
pub absent : (numbers : List ℕ) (number other : ℕ) (has : Bool) → (Contains numbers number → IsTrue has) → has ≡ false → number ≡ other → ¬ (Contains numbers other)
absent numbers number other has says not same = λ there. subst T (sym (says (subst (Contains numbers) (sym same) there)) ∙ not) tt
