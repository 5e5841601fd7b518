-- Places with distinct numbers from 1 to their count: each of these numbers belongs to a place.
use Rattle.std.proofs.Common.{◌≡◌, ◌≢◌, ◌≤◌, ℕ, zero, suc, Bool, true, false, cond, nat_eq, None, List, [], ◌∷◌, length, ◌⊎◌, inl, inr, refl, sym, ap, subst, arith}
use Rattle.std.specs.Bool.{⊤}
use Rattle.std.specs.List.{AllByRecursion, AllPairs}
use Rattle.std.proofs.lemmas.List.Elements.{recursion_from_All}
use borrow.Author.Tests.{eqb-true, eqb-false}
use Rattle.metadata_table.specs.Places.{PlaceView}
use Rattle.metadata_table.specs.Table.{IsNumbered, IsTable}

-- a place has this number
abbrev pub HasNumber : ℕ → List PlaceView → Type 0
HasNumber n [] = ⊥
HasNumber n (p ∷ ps) = (p.tablet ≡ n) ⊎ HasNumber n ps

-- each place has another number
abbrev pub AreOthers : ℕ → List PlaceView → Type 0
AreOthers n ps = AllByRecursion (λ p. p.tablet ≢ n) ps

abbrev pub Differ : List PlaceView → Type 0
Differ [] = ⊤
Differ (p ∷ ps) = AreOthers p.tablet ps × Differ ps

-- the number is from 1 to this one
record IsUpTo (n : ℕ) (p : PlaceView) : Type 0 where
  from : 1 ≤ p.tablet
  to : p.tablet ≤ n

abbrev without : ℕ → List PlaceView → List PlaceView
without n [] = []
without n (p ∷ ps) = cond (nat_eq p.tablet n) (without n ps) (p ∷ without n ps)

length_others : (n : ℕ) (ps : List PlaceView) → AreOthers n ps → length (without n ps) ≡ length ps
length_others n [] h = refl
length_others n (p ∷ ps) h = go (nat_eq p.tablet n) refl (length_others n ps h.1)
  where
    go : (b : Bool) → nat_eq p.tablet n ≡ b → length (without n ps) ≡ length ps → length (cond b (without n ps) (p ∷ without n ps)) ≡ length (p ∷ ps)
    go true e rest = absurd (h.0 (eqb-true p.tablet n e))
    go false e rest = ap suc rest

length_without : (n : ℕ) (ps : List PlaceView) → Differ ps → length ps ≤ suc (length (without n ps))
length_without n [] h = omega arith
length_without n (p ∷ ps) h = go (nat_eq p.tablet n) refl (length_without n ps h.1)
  where
    go : (b : Bool) → nat_eq p.tablet n ≡ b → length ps ≤ suc (length (without n ps)) → length (p ∷ ps) ≤ suc (length (cond b (without n ps) (p ∷ without n ps)))
    go true e rest =
        let others : AreOthers n ps = subst (λ (k : ℕ). AreOthers k ps) (eqb-true p.tablet n e) h.0 in
        let same = length_others n ps others in
        omega arith
    go false e rest = omega arith

all_without : (P : PlaceView → Type 0) (n : ℕ) (ps : List PlaceView) → AllByRecursion P ps → AllByRecursion P (without n ps)
all_without P n [] h = tt
all_without P n (p ∷ ps) h = go (nat_eq p.tablet n) (all_without P n ps h.1)
  where
    go : (b : Bool) → AllByRecursion P (without n ps) → AllByRecursion P (cond b (without n ps) (p ∷ without n ps))
    go true rest = rest
    go false rest = (h.0, rest)

differ_without : (n : ℕ) (ps : List PlaceView) → Differ ps → Differ (without n ps)
differ_without n [] h = tt
differ_without n (p ∷ ps) h = go (nat_eq p.tablet n) (differ_without n ps h.1)
  where
    go : (b : Bool) → Differ (without n ps) → Differ (cond b (without n ps) (p ∷ without n ps))
    go true rest = rest
    go false rest = (all_without (λ q. q.tablet ≢ p.tablet) n ps h.0, rest)

below_last : (m n : ℕ) → 1 ≤ m → m ≤ suc n → m ≢ suc n → m ≤ n
below_last m n from to other = omega arith

lower : (n : ℕ) (p : PlaceView) → IsUpTo (suc n) p → p.tablet ≢ suc n → IsUpTo n p
lower n p h other = record { from = h.from; to = below_last p.tablet n h.from h.to other }

lower_without : (n : ℕ) (ps : List PlaceView) → AllByRecursion (IsUpTo (suc n)) ps → AllByRecursion (IsUpTo n) (without (suc n) ps)
lower_without n [] h = tt
lower_without n (p ∷ ps) h = go (nat_eq p.tablet (suc n)) refl (lower_without n ps h.1)
  where
    go : (b : Bool) → nat_eq p.tablet (suc n) ≡ b → AllByRecursion (IsUpTo n) (without (suc n) ps) → AllByRecursion (IsUpTo n) (cond b (without (suc n) ps) (p ∷ without (suc n) ps))
    go true e rest = rest
    go false e rest = (lower n p h.0 (eqb-false p.tablet (suc n) e), rest)

no_number : (p : PlaceView) → IsUpTo 0 p → ⊥
no_number p h = let from = h.from in let to = h.to in absurd (omega arith)

-- there are at most n distinct numbers from 1 to n
few : (n : ℕ) (ps : List PlaceView) → Differ ps → AllByRecursion (IsUpTo n) ps → length ps ≤ n
few zero [] differ each = omega arith
few zero (p ∷ ps) differ each = absurd (no_number p each.0)
few (suc n) ps differ each =
    let rest = few n (without (suc n) ps) (differ_without (suc n) ps differ) (lower_without n ps each) in
    let one = length_without (suc n) ps differ in
    omega arith

has_or_others : (n : ℕ) (ps : List PlaceView) → HasNumber n ps ⊎ AreOthers n ps
has_or_others n [] = inr tt
has_or_others n (p ∷ ps) = go (nat_eq p.tablet n) refl (has_or_others n ps)
  where
    go : (b : Bool) → nat_eq p.tablet n ≡ b → HasNumber n ps ⊎ AreOthers n ps → HasNumber n (p ∷ ps) ⊎ AreOthers n (p ∷ ps)
    go true e rest = inl (inl (eqb-true p.tablet n e))
    go false e (inl there) = inl (inr there)
    go false e (inr others) = inr (eqb-false p.tablet n e, others)

-- the pairs of a list, by recursion
pub differ_of : (ps : List PlaceView) → AllPairs (λ p q. p.tablet ≢ q.tablet) ps → Differ ps
differ_of [] pairs = tt
differ_of (p ∷ ps) pairs = (
  recursion_from_All (λ q. q.tablet ≢ p.tablet) ps (λ k d below e. pairs 0 (suc k) d (omega arith) (omega arith) (sym e)),
  differ_of ps (λ i j d less below. pairs (suc i) (suc j) d (omega arith) (omega arith)),
)

up_to : (n : ℕ) (ps : List PlaceView) → AllByRecursion (IsNumbered n) ps → AllByRecursion (IsUpTo n) ps
up_to n [] h = tt
up_to n (p ∷ ps) h = (record { from = h.0.from; to = h.0.to }, up_to n ps h.1)

-- each number from 1 to the count of a table's places belongs to a place
pub each_number : (ps : List PlaceView) → IsTable ps → (k : ℕ) → 1 ≤ k → k ≤ length ps → HasNumber k ps
each_number ps table k from to = go (has_or_others k ps)
  where
    go : HasNumber k ps ⊎ AreOthers k ps → HasNumber k ps
    go (inl there) = there
    go (inr others) =
        let p : PlaceView = record { tablet = k; end = None; server = 0; files = [] } in
        let most : length (p ∷ ps) ≤ length ps = few (length ps) (p ∷ ps) (others, differ_of ps table.distinct) (record { from = from; to = to }, up_to (length ps) ps table.numbered) in
        absurd (omega arith)

-- a property of each place holds for a place with the number
pub of_number : (P : PlaceView → Type 0) (k : ℕ) (ps : List PlaceView) → AllByRecursion P ps → HasNumber k ps → (q : PlaceView) × (P q × (q.tablet ≡ k))
of_number P k [] each there = absurd there
of_number P k (p ∷ ps) each (inl same) = (p, (each.0, same))
of_number P k (p ∷ ps) each (inr later) = of_number P k ps each.1 later
