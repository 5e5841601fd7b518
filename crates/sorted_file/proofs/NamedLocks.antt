-- Keys with an entry in a list.
use Rattle.std.proofs.Common.{◌≡◌, ◌∙◌, Bool, true, false, cond, List, ℕ, [], ◌∷◌, ◌++◌, ◌⊎◌, ⊎_elim, Contains, Some, None, refl, sym, ap, subst}
use Rattle.std.specs.Option.{IsSome, is_some}
use Rattle.std.proofs.lemmas.List.Elements.{Contains-append_cases}
use Rattle.std.specs.Ordering.{eq_by_cmp}
use Rattle.std.specs.FinMap.Entries.{find}
use Rattle.cell_key.specs.Keys.{byte_cmp, text}
use Rattle.cell_key.specs.Entries.{Entry, entry_of_key}
use Rattle.cell_key.specs.declared.keys.CellKey.{CellKey}
use Rattle.cell_key.proofs.EntryLists.{ties_itself}
use Rattle.sorted_file.specs.Numbers.{AreNamed}

-- keys with an entry in the first list, and keys with an entry in the second
pub named_front : (name : List ℕ) (es fs : List Entry) → IsSome (entry_of_key es name) → IsSome (entry_of_key (es ++ fs) name)
named_front name [] fs some = cc
named_front name ((n, v) ∷ es) fs some = go (eq_by_cmp byte_cmp name n) some (named_front name es fs)
  where
    go : (b : Bool) → IsSome (cond b (Some v) (find byte_cmp name es)) → (IsSome (find byte_cmp name es) → IsSome (find byte_cmp name (es ++ fs))) → IsSome (cond b (Some v) (find byte_cmp name (es ++ fs)))
    go true is more = refl
    go false is more = more is

pub named_back : (name : List ℕ) (es fs : List Entry) → IsSome (entry_of_key fs name) → IsSome (entry_of_key (es ++ fs) name)
named_back name [] fs some = some
named_back name ((n, v) ∷ es) fs some = go (eq_by_cmp byte_cmp name n) (named_back name es fs some)
  where
    go : (b : Bool) → IsSome (find byte_cmp name (es ++ fs)) → IsSome (cond b (Some v) (find byte_cmp name (es ++ fs)))
    go true is = refl
    go false is = is

pub named_joined : (keys more : List CellKey) (es fs : List Entry) → AreNamed keys es → AreNamed more fs → AreNamed (keys ++ more) (es ++ fs)
named_joined keys more es fs first second key there =
    ⊎_elim (λ old. named_front (text key) es fs (first key old)) (λ new. named_back (text key) es fs (second key new)) (Contains-append_cases keys more key there)

-- an entry is the entry at its own text
named_itself : (e : Entry) (name : List ℕ) → e.0 ≡ name → IsSome (entry_of_key (e ∷ []) name)
named_itself e name same = subst (λ (t : List ℕ). IsSome (entry_of_key (e ∷ []) t)) same (ap (λ (b : Bool). is_some (cond b (Some e.1) None)) (ties_itself e.0))

-- one more entry
pub named_more : (old new : List CellKey) (es : List Entry) (e : Entry) (name : List ℕ) → name ≡ e.0 → ((one : CellKey) → Contains new one → Contains old one ⊎ (name ≡ text one))
    → AreNamed old es → AreNamed new (es ++ e ∷ [])
named_more old new es e name same either before key there =
    ⊎_elim (λ (at : Contains old key). named_front (text key) es (e ∷ []) (before key at)) (λ (is : name ≡ text key). named_back (text key) es (e ∷ []) (named_itself e (text key) (sym same ∙ is))) (either key there)
