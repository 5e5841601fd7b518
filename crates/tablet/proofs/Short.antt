-- The values of entry lists are short.
use Rattle.std.proofs.Common.{◌≡◌, ℕ, Bool, true, false, cond, List, [], ◌∷◌, Option, Some, sym, ap, subst}
use Rattle.std.specs.Prelude.{IfSome}
use Rattle.std.specs.Option.{unwrap_or}
use Rattle.std.specs.List.{AllByRecursion}
use Rattle.std.specs.Ordering.{eq_by_cmp}
use Rattle.std.specs.FinMap.Entries.{find}
use Rattle.cell_key.specs.Keys.{byte_cmp}
use Rattle.cell_key.specs.Entries.{Entry, IsEntry, IsEntryList, entry_of_key}
use Rattle.tablet.specs.Reads.{IsValue}

entry_short : (es : List Entry) → AllByRecursion IsEntry es → (name : List ℕ) (v : Option (List ℕ)) → entry_of_key es name ≡ Some v → IfSome v IsValue
entry_short [] all name v e = cc
entry_short (x ∷ es) all name v e = go (eq_by_cmp byte_cmp name x.0) (entry_short es all.1 name v) e
  where
    go : (b : Bool) → (entry_of_key es name ≡ Some v → IfSome v IsValue) → cond b (Some x.1) (find byte_cmp name es) ≡ Some v → IfSome v IsValue
    go true more e = subst (λ (w : Option (List ℕ)). IfSome w IsValue) (ap (λ (o : Option (Option (List ℕ))). unwrap_or o x.1) e) all.0.value
    go false more e = more e

-- no entry list, so no memtable, has a value that is too long
pub long_of_none : (es : List Entry) → IsEntryList es → (name : List ℕ) (v : Option (List ℕ)) → Some v ≡ entry_of_key es name → ¬ IfSome v IsValue → ⊥
long_of_none es list name v e long = long (entry_short es list.each name v (sym e))
