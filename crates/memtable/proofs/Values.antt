-- The values of lists one after another.
use Rattle.std.proofs.Common.{◌≡◌, ◌≤◌, ◌+◌, ℕ, List, [], ◌∷◌, ◌++◌, length, Option, Some, None, refl, sym, ap, ◌∙◌, arith}
use Rattle.cell_key.specs.Entries.{Entry, or_else}
use Rattle.memtable.specs.Slots.{first_value, one_value, value_count}

first_value-++ : (a b : List Entry) → first_value (a ++ b) ≡ or_else (first_value a) (first_value b)
first_value-++ [] b = refl
first_value-++ ((n, None) ∷ a) b = first_value-++ a b
first_value-++ ((n, Some v) ∷ a) b = refl

-- the first list has one
pub front_value : (a b : List Entry) (e : Entry) → Some e ≡ first_value a → Some e ≡ first_value (a ++ b)
front_value a b e h = sym (first_value-++ a b ∙ ap (λ (o : Option Entry). or_else o (first_value b)) (sym h))

-- it has none
pub back_value : (a b : List Entry) → None ≡ first_value a → first_value b ≡ first_value (a ++ b)
back_value a b h = sym (first_value-++ a b ∙ ap (λ (o : Option Entry). or_else o (first_value b)) (sym h))

-- ---- how many there are

pub no_first_value : (es : List Entry) → value_count es ≡ 0 → first_value es ≡ None
no_first_value [] h = refl
no_first_value ((n, None) ∷ es) h = no_first_value es (omega (arith, h))
no_first_value ((n, Some v) ∷ es) h = absurd (omega (arith, h))

pub value_count-++ : (a b : List Entry) → value_count (a ++ b) ≡ value_count a + value_count b
value_count-++ [] b = omega arith
value_count-++ (e ∷ a) b = let h = value_count-++ a b in omega (arith, h)

pub one_at_most : (v : Option (List ℕ)) → one_value v ≤ 1
one_at_most None = omega arith
one_at_most (Some v) = omega arith

pub value_count-within : (es : List Entry) → value_count es ≤ length es
value_count-within [] = omega arith
value_count-within (e ∷ es) = let h = value_count-within es in let one = one_at_most e.1 in omega (arith, h, one)
