-- A text's place in the entries of a block.
use Rattle.std.proofs.Common.{◌≡◌, ◌≢◌, ◌+◌, ◌≤◌, ℕ, zero, suc, Bool, true, false, cond, T, List, [], ◌∷◌, length, drop, slice_get, Option, Some, None, refl, sym, ap, subst, ◌∙◌, arith}
use Rattle.std.specs.Prelude.{is_some, IfSome, IsSomeAnd}
use Rattle.std.specs.Ordering.{is_eq, is_le}
use Rattle.std.specs.declared.cmp.Ordering.{Ordering}
use Rattle.std.specs.declared.cmp.Ordering.TheVariants.{Less, Greater}
use Rattle.std.specs.FinMap.Entries.{find, below_all}
use Rattle.cell_key.specs.Keys.{byte_cmp}
use Rattle.cell_key.specs.Entries.{Entry, IsRising, entries_from, entry_of_key}
use Rattle.cell_key.proofs.TextPlaces.{find_lower, first, from_place, less, second}
use Rattle.sorted_file.proofs.Rows.{below_text}

two_orders : (o : Ordering) → o ≡ Less → o ≡ Greater → ⊥
two_orders o p q = cc

below_at : (name : List ℕ) (es : List Entry) (i : ℕ) (e : Entry) → T (below_all byte_cmp name es) → slice_get es i ≡ Some e → byte_cmp name e.0 ≡ Less
below_at name [] i e h g = cc
below_at name (d ∷ es) zero e h g = let same : d ≡ e = cc in subst (λ (x : Entry). byte_cmp name x.0 ≡ Less) same (less _ (first _ _ h))
below_at name (d ∷ es) (suc i) e h g = below_at name es i e (second _ _ h) g

passed : (text : List ℕ) (d : Entry) (es : List Entry) → byte_cmp text d.0 ≡ Greater → entries_from text (d ∷ es) ≡ entries_from text es
passed text d es p = ap (λ (o : Ordering). cond (is_le o) (d ∷ entries_from text es) (entries_from text es)) p

-- entries up to one below the text are below it
pub none_to : (text : List ℕ) (es : List Entry) (i : ℕ) (e : Entry) → IsRising es → slice_get es i ≡ Some e → byte_cmp text e.0 ≡ Greater → entries_from text es ≡ entries_from text (drop (suc i) es)
none_to text [] i e r g p = cc
none_to text (d ∷ es) zero e r g p = let same : d ≡ e = cc in passed text d es (subst (λ (x : Entry). byte_cmp text x.0 ≡ Greater) (sym same) p)
none_to text (d ∷ es) (suc i) e r g p =
    let before = below_at d.0 es i e (first _ _ r) g in
    passed text d es (below_text d.0 text e.0 before (λ q. two_orders (byte_cmp text e.0) q p)) ∙ none_to text es i e (second _ _ r) g p

-- entries from one at or above the text on are at or above it
pub all_from : (text : List ℕ) (es : List Entry) (i : ℕ) (e : Entry) → IsRising es → slice_get es i ≡ Some e → byte_cmp text e.0 ≢ Greater → entries_from text (drop i es) ≡ drop i es
all_from text [] i e r g p = cc
all_from text (d ∷ es) zero e r g p = let same : d ≡ e = cc in from_place text (d ∷ es) 0 r (subst (λ (x : Entry). byte_cmp text x.0 ≢ Greater) (sym same) p)
all_from text (d ∷ es) (suc i) e r g p = all_from text es i e (second _ _ r) g p

pub drop_all : (i : ℕ) (es : List Entry) → length es ≤ i → drop i es ≡ []
drop_all zero [] h = refl
drop_all zero (e ∷ es) h = absurd (omega (arith, h))
drop_all (suc i) [] h = refl
drop_all (suc i) (e ∷ es) h = drop_all i es (omega (arith, h))

pub none_from : (text : List ℕ) (es : List Entry) (i : ℕ) → length es ≤ i → entries_from text (drop i es) ≡ drop i es
none_from text es i h = ap (entries_from text) (drop_all i es h) ∙ sym (drop_all i es h)

pub drop_at : (es : List Entry) (i : ℕ) (e : Entry) → slice_get es i ≡ Some e → drop i es ≡ e ∷ drop (suc i) es
drop_at [] i e g = cc
drop_at (d ∷ es) zero e g = let same : d ≡ e = cc in ap (λ (x : Entry). x ∷ es) same
drop_at (d ∷ es) (suc i) e g = drop_at es i e g

pub drop_past : (es : List Entry) (i : ℕ) → slice_get es i ≡ None → drop i es ≡ []
drop_past [] zero g = refl
drop_past [] (suc i) g = refl
drop_past (d ∷ es) zero g = cc
drop_past (d ∷ es) (suc i) g = drop_past es i g

pub first_at : (es : List Entry) (i : ℕ) → slice_get es i ≡ slice_get (drop i es) 0
first_at [] zero = refl
first_at [] (suc i) = refl
first_at (e ∷ es) zero = refl
first_at (e ∷ es) (suc i) = first_at es i

-- ---- the halves of a search

pub low_on : (text : List ℕ) (es : List Entry) (i : ℕ) → IsRising es → IsSomeAnd (slice_get es i) (λ e. byte_cmp text e.0 ≡ Greater) → entries_from text es ≡ entries_from text (drop (i + 1) es)
low_on text es i r h = go (slice_get es i) refl h
  where
    next : suc i ≡ i + 1
    next = omega arith

    go : (o : Option Entry) → slice_get es i ≡ o → IsSomeAnd o (λ e. byte_cmp text e.0 ≡ Greater) → entries_from text es ≡ entries_from text (drop (i + 1) es)
    go None g h = absurd h
    go (Some e) g h = none_to text es i e r g h ∙ ap (λ (k : ℕ). entries_from text (drop k es)) next

pub high_on : (text : List ℕ) (es : List Entry) (i : ℕ) → IsRising es → IfSome (slice_get es i) (λ e. byte_cmp text e.0 ≢ Greater) → entries_from text (drop i es) ≡ drop i es
high_on text es i r h = go (slice_get es i) refl h
  where
    go : (o : Option Entry) → slice_get es i ≡ o → IfSome o (λ e. byte_cmp text e.0 ≢ Greater) → entries_from text (drop i es) ≡ drop i es
    go None g h = ap (entries_from text) (drop_past es i g) ∙ sym (drop_past es i g)
    go (Some e) g h = all_from text es i e r g h
