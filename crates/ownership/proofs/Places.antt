-- Places in a sorted list of what clients have.
use Rattle.std.proofs.Common.{◌≡◌, ◌≢◌, ℕ, zero, suc, ◌+◌, ◌-◌, ◌++◌, take, ◌<◌, ◌≤◌, Bool, true, false, not, ◌&&◌, ◌||◌, List, [], ◌∷◌, length, get_or, Option, Some, None, refl, sym, ap, subst, ◌∙◌, arith, slice_get, ◌⊎◌, inl, inr, if◌then◌else◌}
use Rattle.std.specs.Prelude.{nat_eq, nat_le}
use Rattle.std.specs.List.{AllByRecursion, insert, remove}
use Rattle.std.proofs.lemmas.Bool.Decides.{nat_tests}
use Rattle.std.proofs.lemmas.Option.{same_Some}
use Rattle.ownership.specs.Lists.{IsInOrder, IsLast, IsPlaceOf, held_by, holds, is_after, is_before, is_of}
use Rattle.ownership.specs.declared.holdings.Holding.{Holding}

abbrev pub AreAfter : Holding → List Holding → Type 0
AreAfter first more = AllByRecursion (λ (later : Holding). is_after first later ≡ true) more

-- each comes before those after it
abbrev pub Rises : List Holding → Type 0
Rises [] = Unit {0}
Rises (first ∷ more) = AreAfter first more × Rises more

all_after : (x : Holding) (xs : List Holding) → ((j : ℕ) (d : Holding) → j < length xs → is_after x (get_or xs j d) ≡ true) → AreAfter x xs
all_after x [] h = tt
all_after x (y ∷ xs) h = (h 0 y (omega arith), all_after x xs (λ j d lt. h (suc j) d (omega (arith, lt))))

pub rises : (xs : List Holding) → IsInOrder xs → Rises xs
rises [] r = tt
rises (x ∷ xs) r = (all_after x xs (λ j d lt. r 0 (suc j) d (omega arith) (omega (arith, lt))), rises xs (λ i j d a b. r (suc i) (suc j) d (omega (arith, a)) (omega (arith, b))))

after_at : (x : Holding) (xs : List Holding) (j : ℕ) (d : Holding) → AreAfter x xs → j < length xs → is_after x (get_or xs j d) ≡ true
after_at x [] j d all lt = absurd (omega (arith, lt))
after_at x (y ∷ xs) zero d all lt = all.0
after_at x (y ∷ xs) (suc j) d all lt = after_at x xs j d all.1 (omega (arith, lt))

pub ordered : (xs : List Holding) → Rises xs → IsInOrder xs
ordered [] r i j d a b = absurd (omega (arith, b))
ordered (x ∷ xs) r zero zero d a b = absurd (omega (arith, a))
ordered (x ∷ xs) r zero (suc j) d a b = after_at x xs j d r.0 (omega (arith, b))
ordered (x ∷ xs) r (suc i) zero d a b = absurd (omega (arith, a))
ordered (x ∷ xs) r (suc i) (suc j) d a b = ordered xs r.1 i j d (omega (arith, a)) (omega (arith, b))

-- ---- one number

sooner : (a b : Holding) (c n : ℕ) → is_after a b ≡ true → is_before c n b ≡ true → is_before c n a ≡ true
sooner a b c n after before = grind (arith, nat_tests)

-- what comes before isn't it
not_it : (a : Holding) (c n : ℕ) → is_before c n a ≡ true → is_of c n a ≡ false
not_it a c n before = grind (arith, nat_tests)

-- what comes after what doesn't come before
past : (a b : Holding) (c n : ℕ) → is_before c n a ≡ false → is_after a b ≡ true → is_of c n b ≡ false
past a b c n here after = grind (arith, nat_tests)

later_past : (a b : Holding) (c n : ℕ) → is_before c n a ≡ false → is_after a b ≡ true → is_before c n b ≡ false
later_past a b c n here after = grind (arith, nat_tests)

pub none_past : (first : Holding) (xs : List Holding) (c n : ℕ) → AreAfter first xs → is_before c n first ≡ false → holds xs c n ≡ false
none_past first [] c n after here = refl
none_past first (x ∷ xs) c n after here =
    let one = past first x c n here after.0 in
    let more = none_past first xs c n after.1 here in
    rw (one, more) refl

-- ---- the place of a number

pub parted : (c n : ℕ) (xs : List Holding) → Rises xs → (i j : ℕ) (d : Holding) → i ≤ j → j < length xs → is_before c n (get_or xs j d) ≡ true → is_before c n (get_or xs i d) ≡ true
parted c n [] r i j d le lt t = absurd (omega arith)
parted c n (x ∷ xs) r zero zero d le lt t = t
parted c n (x ∷ xs) r zero (suc j) d le lt t = first xs j r.0 (omega arith) t
  where
    first : (ys : List Holding) (j : ℕ) → AreAfter x ys → j < length ys → is_before c n (get_or ys j d) ≡ true → is_before c n x ≡ true
    first [] j after lt t = absurd (omega arith)
    first (y ∷ ys) zero after lt t = sooner x y c n after.0 t
    first (y ∷ ys) (suc j) after lt t = first ys j after.1 (omega arith) t
parted c n (x ∷ xs) r (suc i) zero d le lt t = absurd (omega arith)
parted c n (x ∷ xs) r (suc i) (suc j) d le lt t = parted c n xs r.1 i j d (omega arith) (omega arith) t

next_place : (c n : ℕ) (x : Holding) (xs : List Holding) (i : ℕ) → IsPlaceOf c n (x ∷ xs) (suc i) → IsPlaceOf c n xs i
next_place c n x xs i p = record {
  bound = (let b = p.bound in omega (arith, b));
  before = λ k d a b. p.before (suc k) d (omega arith) (omega (arith, b));
  others = λ k d a b. p.others (suc k) d (omega (arith, a)) (omega (arith, b));
}

here_place : (c n : ℕ) (x : Holding) (xs : List Holding) → IsPlaceOf c n (x ∷ xs) zero → is_before c n x ≡ false
here_place c n x xs p = p.others 0 x (omega arith) (omega arith)

passed : (c n : ℕ) (x : Holding) (xs : List Holding) (i : ℕ) → IsPlaceOf c n (x ∷ xs) (suc i) → is_before c n x ≡ true
passed c n x xs i p = p.before 0 x (omega arith) (omega arith)

too_far : (c n i : ℕ) → IsPlaceOf c n [] (suc i) → ⊥
too_far c n i p = let b = p.bound in omega (arith, b)

-- it is there if it is at its place
abbrev pub is_it : ℕ → ℕ → Option Holding → Bool
is_it c n None = false
is_it c n (Some x) = is_of c n x

or_false : (a b : Bool) → b ≡ false → (a || b) ≡ a
or_false true b e = refl
or_false false b e = e

pub holds_at : (c n : ℕ) (xs : List Holding) (i : ℕ) → Rises xs → IsPlaceOf c n xs i → is_it c n (slice_get xs i) ≡ holds xs c n
holds_at c n [] zero r p = refl
holds_at c n [] (suc i) r p = absurd (too_far c n i p)
holds_at c n (x ∷ xs) zero r p = sym (or_false (is_of c n x) (holds xs c n) (none_past x xs c n r.0 (here_place c n x xs p)))
holds_at c n (x ∷ xs) (suc i) r p =
    holds_at c n xs i r.1 (next_place c n x xs i p) ∙ ap (λ (b : Bool). b || holds xs c n) (sym (not_it x c n (passed c n x xs i p)))

-- ---- one more

abbrev pub new_one : ℕ → ℕ → Holding
new_one c n = record { client = c; number = n }

is_new : (c n a b : ℕ) → is_of a b (new_one c n) ≡ (nat_eq c a && nat_eq n b)
is_new c n a b = refl

swapped : (a b c : Bool) → (a || (b || c)) ≡ ((a || b) || c)
swapped true b c = refl
swapped false b c = refl

or_comm : (a b : Bool) → (a || b) ≡ (b || a)
or_comm true true = refl
or_comm true false = refl
or_comm false true = refl
or_comm false false = refl

pub holds_more : (c n : ℕ) (xs : List Holding) (i : ℕ) (a b : ℕ) → holds (insert xs i (new_one c n)) a b ≡ (holds xs a b || (nat_eq c a && nat_eq n b))
holds_more c n xs zero a b = or_comm (nat_eq c a && nat_eq n b) (holds xs a b)
holds_more c n [] (suc i) a b = or_comm (nat_eq c a && nat_eq n b) false
holds_more c n (x ∷ xs) (suc i) a b =
    ap (λ (t : Bool). is_of a b x || t) (holds_more c n xs i a b) ∙ swapped (is_of a b x) (holds xs a b) (nat_eq c a && nat_eq n b)

are_after_more : (x y : Holding) (xs : List Holding) (i : ℕ) → AreAfter x xs → is_after x y ≡ true → AreAfter x (insert xs i y)
are_after_more x y xs zero after one = (one, after)
are_after_more x y [] (suc i) after one = (one, tt)
are_after_more x y (z ∷ xs) (suc i) after one = (after.0, are_after_more x y xs i after.1 one)

are_later : (x y : Holding) (xs : List Holding) → is_after x y ≡ true → AreAfter y xs → AreAfter x xs
are_later x y [] one after = tt
are_later x y (z ∷ xs) one after = (sooner x y z.client z.number one after.0, are_later x y xs one after.1)

-- neither before it nor it
follows : (c n : ℕ) (x : Holding) → is_before c n x ≡ false → is_of c n x ≡ false → is_after (new_one c n) x ≡ true
follows c n x before it = grind (arith, nat_tests)

or_none : (a b : Bool) → (a || b) ≡ false → a ≡ false
or_none true b e = e
or_none false b e = refl

or_none_later : (a b : Bool) → (a || b) ≡ false → b ≡ false
or_none_later true b e = cc
or_none_later false b e = e

pub in_order_more : (c n : ℕ) (xs : List Holding) (i : ℕ) → Rises xs → IsPlaceOf c n xs i → holds xs c n ≡ false → Rises (insert xs i (new_one c n))
in_order_more c n [] zero r p none = (tt, tt)
in_order_more c n [] (suc i) r p none = absurd (too_far c n i p)
in_order_more c n (x ∷ xs) zero r p none =
    let next = follows c n x (here_place c n x xs p) (or_none (is_of c n x) (holds xs c n) none) in
    ((next, are_later (new_one c n) x xs next r.0), r)
in_order_more c n (x ∷ xs) (suc i) r p none = (
  are_after_more x (new_one c n) xs i r.0 (passed c n x xs i p),
  in_order_more c n xs i r.1 (next_place c n x xs i p) (or_none_later (is_of c n x) (holds xs c n) none),
)

other_client : (a c : ℕ) → a ≢ c → nat_eq c a ≡ false
other_client a c ne = grind (arith, nat_tests)

others_one : (a c n : ℕ) (xs : List Holding) → a ≢ c → held_by a (new_one c n ∷ xs) ≡ held_by a xs
others_one a c n xs ne = ap (λ (b : Bool). (if b then 1 else 0) + held_by a xs) (other_client a c ne) ∙ omega arith

pub held_more : (c n a : ℕ) (xs : List Holding) (i : ℕ) → a ≢ c → held_by a (insert xs i (new_one c n)) ≡ held_by a xs
held_more c n a xs zero ne = others_one a c n xs ne
held_more c n a [] (suc i) ne = others_one a c n [] ne
held_more c n a (x ∷ xs) (suc i) ne = ap (λ (k : ℕ). (if nat_eq x.client a then 1 else 0) + k) (held_more c n a xs i ne)

-- ---- one less

not_both : (a b : Bool) → b ≡ false → (a && not b) ≡ a
not_both true b e = ap not e
not_both false b e = refl

is_same_number : (c n : ℕ) (x : Holding) → is_of c n x ≡ true → (a b : ℕ) → is_of a b x ≡ (nat_eq c a && nat_eq n b)
is_same_number c n x it a b = grind (arith, nat_tests)

not_other : (c n a b : ℕ) → (nat_eq c a && nat_eq n b) ≡ true → (xs : List Holding) → holds xs a b ≡ holds xs c n
not_other c n a b e xs = grind (arith, nat_tests)

without : (t h : Bool) → (t ≡ true → h ≡ false) → h ≡ ((t || h) && not t)
without true h e = e refl
without false true e = refl
without false false e = refl

kept_first : (f t h : Bool) → (t ≡ true → f ≡ false) → (f || (h && not t)) ≡ ((f || h) && not t)
kept_first true true h e = absurd (let fits : true ≡ false = e refl in cc)
kept_first true false h e = refl
kept_first false t h e = refl

pub holds_less : (c n : ℕ) (xs : List Holding) (i : ℕ) → Rises xs → IsPlaceOf c n xs i → is_it c n (slice_get xs i) ≡ true → (a b : ℕ) → holds (remove xs i) a b ≡ (holds xs a b && not (nat_eq c a && nat_eq n b))
holds_less c n [] zero r p it a b = cc
holds_less c n [] (suc i) r p it a b = absurd (too_far c n i p)
holds_less c n (x ∷ xs) zero r p it a b =
    without (nat_eq c a && nat_eq n b) (holds xs a b) (λ t. not_other c n a b t xs ∙ none_past x xs c n r.0 (here_place c n x xs p))
    ∙ ap (λ (f : Bool). (f || holds xs a b) && not (nat_eq c a && nat_eq n b)) (sym (is_same_number c n x it a b))
holds_less c n (x ∷ xs) (suc i) r p it a b =
    ap (λ (t : Bool). is_of a b x || t) (holds_less c n xs i r.1 (next_place c n x xs i p) it a b)
    ∙ kept_first (is_of a b x) (nat_eq c a && nat_eq n b) (holds xs a b) (λ t. differs t)
  where
    differs : (nat_eq c a && nat_eq n b) ≡ true → is_of a b x ≡ false
    differs t = let before = passed c n x xs i p in grind (arith, nat_tests)

are_after_less : (x : Holding) (xs : List Holding) (i : ℕ) → AreAfter x xs → AreAfter x (remove xs i)
are_after_less x [] zero after = tt
are_after_less x [] (suc i) after = tt
are_after_less x (y ∷ xs) zero after = after.1
are_after_less x (y ∷ xs) (suc i) after = (after.0, are_after_less x xs i after.1)

pub in_order_less : (xs : List Holding) (i : ℕ) → Rises xs → Rises (remove xs i)
in_order_less [] zero r = tt
in_order_less [] (suc i) r = tt
in_order_less (x ∷ xs) zero r = r.1
in_order_less (x ∷ xs) (suc i) r = (are_after_less x xs i r.0, in_order_less xs i r.1)

its_client : (c n : ℕ) (x : Holding) → is_of c n x ≡ true → nat_eq x.client c ≡ true
its_client c n x it = grind (arith, nat_tests)

one_fewer : (c : ℕ) (x : Holding) (xs : List Holding) → nat_eq x.client c ≡ true → held_by c xs < held_by c (x ∷ xs)
one_fewer c x xs e = let more : held_by c (x ∷ xs) ≡ 1 + held_by c xs = ap (λ (b : Bool). (if b then 1 else 0) + held_by c xs) e in omega (arith, more)

pub held_less : (c n : ℕ) (xs : List Holding) (i : ℕ) → is_it c n (slice_get xs i) ≡ true → held_by c (remove xs i) < held_by c xs
held_less c n [] zero it = cc
held_less c n [] (suc i) it = cc
held_less c n (x ∷ xs) zero it = one_fewer c x xs (its_client c n x it)
held_less c n (x ∷ xs) (suc i) it = let less = held_less c n xs i it in omega (arith, less)

pub is_there : (c n : ℕ) (xs : List Holding) (i : ℕ) → is_it c n (slice_get xs i) ≡ true → i < length xs
is_there c n [] zero it = cc
is_there c n [] (suc i) it = cc
is_there c n (x ∷ xs) zero it = omega arith
is_there c n (x ∷ xs) (suc i) it = let less = is_there c n xs i it in omega (arith, less)

-- ---- how many

cases_true : (b : Bool) → (b ≡ true) ⊎ (b ≡ false)
cases_true true = inl refl
cases_true false = inr refl

its_more : (c : ℕ) (x : Holding) (xs : List Holding) → nat_eq x.client c ≡ true → held_by c (x ∷ xs) ≡ 1 + held_by c xs
its_more c x xs e = ap (λ (b : Bool). (if b then 1 else 0) + held_by c xs) e

others_more : (c : ℕ) (x : Holding) (xs : List Holding) → nat_eq x.client c ≡ false → held_by c (x ∷ xs) ≡ held_by c xs
others_more c x xs e = ap (λ (b : Bool). (if b then 1 else 0) + held_by c xs) e ∙ omega arith

at_most_all : (c : ℕ) (xs : List Holding) → held_by c xs ≤ length xs
at_most_all c [] = omega arith
at_most_all c (x ∷ xs) = either (nat_eq x.client c) refl (at_most_all c xs)
  where
    either : (b : Bool) → nat_eq x.client c ≡ b → held_by c xs ≤ length xs → held_by c (x ∷ xs) ≤ length (x ∷ xs)
    either true e few = let more = its_more c x xs e in omega (arith, more, few)
    either false e few = let more = others_more c x xs e in omega (arith, more, few)

below_most : (n m most : ℕ) → n ≤ m → m < most → nat_le most n ≡ false
below_most n m most few short = grind (arith, nat_tests)

-- a client has no more than there are in all
pub too_few : (c most : ℕ) (xs : List Holding) → length xs < most → nat_le most (held_by c xs) ≡ false
too_few c most xs short = below_most (held_by c xs) (length xs) most (at_most_all c xs) short

holds_found : (c n : ℕ) (xs : List Holding) (i : ℕ) (x : Holding) → slice_get xs i ≡ Some x → is_of c n x ≡ true → holds xs c n ≡ true
holds_found c n [] zero x e it = cc
holds_found c n [] (suc i) x e it = cc
holds_found c n (y ∷ xs) zero x e it = ap (λ (b : Bool). b || holds xs c n) (subst (λ (o : Option Holding). is_it c n o ≡ true) (sym e) it)
holds_found c n (y ∷ xs) (suc i) x e it = ap (λ (b : Bool). is_of c n y || b) (holds_found c n xs i x e it) ∙ or_comm (is_of c n y) true

-- ---- what a slice has

pub found_at : (xs : List Holding) (i : ℕ) (x : Holding) → i < length xs → x ≡ get_or xs i x → slice_get xs i ≡ Some x
found_at [] i x lt e = absurd (omega (arith, lt))
found_at (y ∷ xs) zero x lt e = ap Some (sym e)
found_at (y ∷ xs) (suc i) x lt e = found_at xs i x (omega (arith, lt)) e

pub none_at : (xs : List Holding) (i : ℕ) → length xs ≤ i → slice_get xs i ≡ None
none_at [] zero le = refl
none_at [] (suc i) le = refl
none_at (y ∷ xs) zero le = absurd (omega (arith, le))
none_at (y ∷ xs) (suc i) le = none_at xs i (omega (arith, le))

-- ---- the end of a list

read_at : (xs : List Holding) (i : ℕ) (x d : Holding) → slice_get xs i ≡ Some x → get_or xs i d ≡ x
read_at [] zero x d e = cc
read_at [] (suc i) x d e = cc
read_at (y ∷ xs) zero x d e = same_Some y x e
read_at (y ∷ xs) (suc i) x d e = read_at xs i x d e

in_range : (xs : List Holding) (i : ℕ) (x : Holding) → slice_get xs i ≡ Some x → i < length xs
in_range [] zero x e = cc
in_range [] (suc i) x e = cc
in_range (y ∷ xs) zero x e = omega arith
in_range (y ∷ xs) (suc i) x e = let less = in_range xs i x e in omega (arith, less)

before_same : (c n : ℕ) (x : Holding) → is_of c n x ≡ true → is_before c n x ≡ false
before_same c n x it = grind (arith, nat_tests)

sooner_same : (c n : ℕ) (a x : Holding) → is_of c n x ≡ true → is_after a x ≡ true → is_before c n a ≡ true
sooner_same c n a x it after = grind (arith, nat_tests)

-- each before the last comes before it
pub last_is : (c n : ℕ) (xs : List Holding) (x : Holding) → Rises xs → slice_get xs (length xs - 1) ≡ Some x → is_of c n x ≡ true → IsLast c n xs
last_is c n xs x r e it = record {
  held = holds_found c n xs (length xs - 1) x e it;
  place = record {
    bound = omega arith;
    before = λ k d a b. sooner_same c n (get_or xs k d) x it (subst (λ (y : Holding). is_after (get_or xs k d) y ≡ true) (read_at xs (length xs - 1) x d e) (ordered xs r k (length xs - 1) d b (in_range xs (length xs - 1) x e)));
    others = λ k d a b. subst (λ (y : Holding). is_before c n y ≡ false) (sym (read_at xs (length xs - 1) x d e) ∙ ap (λ (i : ℕ). get_or xs i d) (omega (arith, a, b))) (before_same c n x it);
  };
}

-- the whole list comes before what its last comes before
pub all_before : (c n : ℕ) (xs : List Holding) (x : Holding) → Rises xs → slice_get xs (length xs - 1) ≡ Some x → is_before c n x ≡ true → IsPlaceOf c n xs (length xs)
all_before c n xs x r e last = record {
  bound = omega arith;
  before = λ k d a b. parted c n xs r k (length xs - 1) d (omega (arith, b)) (in_range xs (length xs - 1) x e) (subst (λ (y : Holding). is_before c n y ≡ true) (sym (read_at xs (length xs - 1) x d e)) last);
  others = λ k d a b. absurd (omega (arith, a, b));
}

pub none_at_end : (c n : ℕ) (xs : List Holding) → Rises xs → IsPlaceOf c n xs (length xs) → holds xs c n ≡ false
none_at_end c n xs r p = sym (holds_at c n xs (length xs) r p) ∙ ap (is_it c n) (none_at xs (length xs) (omega arith))

pub at_end : (x : Holding) (xs : List Holding) → insert xs (length xs) x ≡ xs ++ x ∷ []
at_end x [] = refl
at_end x (y ∷ xs) = ap (λ (l : List Holding). y ∷ l) (at_end x xs)

without_last : (k : ℕ) (xs : List Holding) → length xs ≡ suc k → take k xs ≡ remove xs k
without_last k [] e = absurd (omega (arith, e))
without_last zero (x ∷ []) e = refl
without_last zero (x ∷ (y ∷ xs)) e = absurd (omega (arith, e))
without_last (suc k) (x ∷ xs) e = ap (λ (l : List Holding). x ∷ l) (without_last k xs (omega (arith, e)))

some_there : (c n : ℕ) (xs : List Holding) → holds xs c n ≡ true → length xs ≡ suc (length xs - 1)
some_there c n [] e = cc
some_there c n (x ∷ xs) e = omega arith

pub shortened : (c n : ℕ) (xs : List Holding) → holds xs c n ≡ true → take (length xs - 1) xs ≡ remove xs (length xs - 1)
shortened c n xs held = without_last (length xs - 1) xs (some_there c n xs held)
