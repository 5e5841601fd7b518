-- Lists of places, each next after the one before it.
use Rattle.std.proofs.Common.{◌≡◌, ◌<◌, ◌≤◌, ◌+◌, ◌-◌, ℕ, List, [], ◌∷◌, ◌++◌, length, Option, Some, None, IsSome, slice_index_or, refl, sym, subst, arith}
use Rattle.cell_key.specs.Places.{AreNext, Place, last_or}

module _ (IsNext : Option Place → Option Place → Type 0) where
  -- some next places, and the ones after the last of them
  pub next_append : (n k m : ℕ) (after : Option Place) (places more : List Place) → length places ≡ n → m ≡ n + k → AreNext IsNext after n places → AreNext IsNext (last_or after places) k more → AreNext IsNext after m (places ++ more)
  next_append n k m after [] more len sum some then = let same : k ≡ m = omega arith in subst (λ j. AreNext IsNext after j more) same then
  next_append n k m after (place ∷ places) more len sum some then = (
    omega (arith, some.0),
    some.1,
    next_append (n - 1) k (m - 1) (Some place) places more (omega arith) (omega (arith, some.0)) some.2 then,
  )

  pub next_one : (after : Option Place) (place : Place) → IsNext after (Some place) → AreNext IsNext after 1 (place ∷ [])
  next_one after place next = (omega arith, next, λ some. absurd (omega (arith, some)))

  -- `most` places were found, or none is next
  pub next_all : (n most : ℕ) (after : Option Place) (places : List Place) → length places ≡ n → n ≤ most → AreNext IsNext after n places → (1 ≤ most - n → IsNext (last_or after places) None) → AreNext IsNext after most places
  next_all n most after [] len few some ends = λ wanted. ends (omega arith)
  next_all n most after (place ∷ places) len few some ends = (
    omega (arith, some.0),
    some.1,
    next_all (n - 1) (most - 1) (Some place) places (omega arith) (omega arith) some.2 (λ wanted. ends (omega (arith, some.0, wanted))),
  )

  pub next_few : (most : ℕ) (after : Option Place) (places : List Place) → AreNext IsNext after most places → length places ≤ most
  next_few most after [] some = omega arith
  next_few most after (place ∷ places) some = let few = next_few (most - 1) (Some place) places some.2 in omega (arith, few, some.0)

  -- if fewer were found none is left
  pub next_ended : (most : ℕ) (after : Option Place) (places : List Place) → AreNext IsNext after most places → length places < most → IsNext (last_or after places) None
  next_ended most after [] some few = some (omega (arith, few))
  next_ended most after (p ∷ places) some few = next_ended (most - 1) (Some p) places some.2 (omega (arith, few))

pub last_append : (after : Option Place) (places : List Place) (place : Place) → last_or after (places ++ place ∷ []) ≡ Some place
last_append after [] place = refl
last_append after (p ∷ places) place = last_append (Some p) places place

pub last_more : (other : Option Place) (places more : List Place) → last_or other (places ++ more) ≡ last_or (last_or other places) more
last_more other [] more = refl
last_more other (p ∷ places) more = last_more (Some p) places more

some_long : {A : Type 0} (o : Option A) → (IsSome o → 0 < 0) → o ≡ None
some_long None h = refl
some_long (Some x) h = absurd (let less = h refl in omega (arith, less))

-- the last of at most one next place
pub next_single : (IsNext : Option Place → Option Place → Type 0) (after : Option Place) (places : List Place) (last : Option Place) → AreNext IsNext after 1 places → (IsSome last → 0 < length places) → ((d : Place) → 0 < length places → last ≡ Some (slice_index_or places (length places - 1) d)) → IsNext after last
next_single IsNext after [] last next some value = subst (IsNext after) (sym (some_long last some)) (next (omega arith))
next_single IsNext after (p ∷ []) last next some value = subst (IsNext after) (sym (value p (omega arith))) next.1
next_single IsNext after (p ∷ q ∷ places) last next some value = absurd (let more = next.2.0 in omega (arith, more))
