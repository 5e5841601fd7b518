-- Members of lists.
use Rattle.std.proofs.Common.{◌≡◌, zero, suc, ◌⊎◌, inl, inr, List, [], ◌∷◌, ◌++◌, map, refl, subst, arith}
use Rattle.std.specs.List.{AllByRecursion, All, AllPairs, Contains, AllZip}

module _ {X : Type 0} where
  pub contains_first : (x : X) (xs : List X) → Contains (x ∷ xs) x
  contains_first x xs = (0, omega arith, refl)

  pub contains_later : (y x : X) (xs : List X) → Contains xs x → Contains (y ∷ xs) x
  contains_later y x xs h = (suc h.0, omega (arith, h.1), h.2)

  pub contains_none : (x : X) → Contains [] x → ⊥
  contains_none x h = omega (arith, h.1)

  pub contains_cases : (y x : X) (xs : List X) → Contains (y ∷ xs) x → (y ≡ x) ⊎ Contains xs x
  contains_cases y x xs (zero, lt, e) = inl e
  contains_cases y x xs (suc k, lt, e) = inr (k, omega arith, e)

  pub contains_middle : (before after : List X) (x : X) → Contains (before ++ x ∷ after) x
  contains_middle [] after x = contains_first x after
  contains_middle (y ∷ before) after x = contains_later y x (before ++ x ∷ after) (contains_middle before after x)

  pub contains_parts : (before after : List X) (x y : X) → Contains (before ++ x ∷ after) y → Contains before y ⊎ ((x ≡ y) ⊎ Contains after y)
  contains_parts [] after x y h = inr (contains_cases x y after h)
  contains_parts (z ∷ before) after x y h = elim (contains_cases z y (before ++ x ∷ after) h) [
    | inl e ↦ inl (subst (λ (w : X). Contains (z ∷ before) w) e (contains_first z before))
    | inr k ↦ elim (contains_parts before after x y k) [ inl b ↦ inl (contains_later z y before b) | inr r ↦ inr r ]
  ]

  pub each_member : (P : X → Type 0) (xs : List X) → AllByRecursion P xs → (x : X) → Contains xs x → P x
  each_member P [] h x c = absurd (contains_none x c)
  each_member P (y ∷ xs) h x c = elim (contains_cases y x xs c) [ inl e ↦ subst P e h.0 | inr k ↦ each_member P xs h.1 x k ]

  pub each_part : (P : X → Type 0) (before after : List X) (x : X) → AllByRecursion P (before ++ x ∷ after) → AllByRecursion P after
  each_part P [] after x h = h.1
  each_part P (y ∷ before) after x h = each_part P before after x h.1

  pub each_from : (P : X → Type 0) (xs : List X) → All P xs → AllByRecursion P xs
  each_from P [] h = tt
  each_from P (x ∷ xs) h = (h 0 x (omega arith), each_from P xs (λ k d lt. h (suc k) d (omega (arith, lt))))

  pub each_index : (P : X → Type 0) (xs : List X) → AllByRecursion P xs → All P xs
  each_index P [] h k d lt = absurd (omega arith)
  each_index P (x ∷ xs) h zero d lt = h.0
  each_index P (x ∷ xs) h (suc k) d lt = each_index P xs h.1 k d (omega arith)

  pub pairs_first : (R : X → X → Type 0) (x : X) (xs : List X) → AllPairs R (x ∷ xs) → AllByRecursion (R x) xs
  pairs_first R x xs h = each_from (R x) xs (λ k d lt. h 0 (suc k) d (omega arith) (omega (arith, lt)))

  pub pairs_rest : (R : X → X → Type 0) (x : X) (xs : List X) → AllPairs R (x ∷ xs) → AllPairs R xs
  pairs_rest R x xs h = λ i j d lt b. h (suc i) (suc j) d (omega (arith, lt)) (omega (arith, b))

  pub pairs_none : (R : X → X → Type 0) → AllPairs R []
  pairs_none R = λ i j d lt b. absurd (omega (arith, b))

  pub pairs_more : (R : X → X → Type 0) (x : X) (xs : List X) → AllByRecursion (R x) xs → AllPairs R xs → AllPairs R (x ∷ xs)
  pairs_more R x xs a h zero zero d lt b = absurd (omega arith)
  pairs_more R x xs a h zero (suc j) d lt b = each_index (R x) xs a j d (omega arith)
  pairs_more R x xs a h (suc i) zero d lt b = absurd (omega arith)
  pairs_more R x xs a h (suc i) (suc j) d lt b = h i j d (omega arith) (omega arith)

pub all_implied : {X : Type 0} (P Q : X → Type 0) → ((x : X) → P x → Q x) → (xs : List X) → AllByRecursion P xs → AllByRecursion Q xs
all_implied P Q f [] h = tt
all_implied P Q f (x ∷ xs) h = (f x h.0, all_implied P Q f xs h.1)

pub zip_same : {X Y : Type 0} (f : X → Y) (xs ys : List X) → AllZip (λ (x y : X). f y ≡ f x) xs ys → map f ys ≡ map f xs
zip_same f [] [] h = refl
zip_same f [] (y ∷ ys) h = absurd h
zip_same f (x ∷ xs) [] h = absurd h
zip_same {X} {Y} f (x ∷ xs) (y ∷ ys) h = λ i. h.0 i ∷ zip_same f xs ys h.1 i
