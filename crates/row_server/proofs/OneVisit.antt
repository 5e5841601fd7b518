-- A collector's step of one visit is one of more.
use Rattle.std.proofs.Common.{◌≡◌, ◌≤◌, ◌<◌, ◌⊎◌, inl, inr, ℕ, Bool, true, false, Result, Err, IsErrOf, refl, arith, subst, sym, ◌∙◌}
use Rattle.std.specs.Prelude.{IfErr, nat_eq, nat_lt}
use Rattle.std.proofs.lemmas.Bool.Decides.{nat_tests}
use Rattle.cell_key.specs.Cells.{Cells}
use Rattle.cell_key.specs.declared.refusals.Refusal.{Refusal}
use Rattle.cell_key.specs.declared.refusals.Refusal.TheVariants.{BadCount, UnknownCollector}
use Rattle.si_model.specs.Machine.{Acts, Applies, CollectStep, Refuses, Reply, State, Step, accepts, goes_further, has_collected, is_blocked, refuses, tells, most_visits}
use Rattle.si_model.specs.Refusing.{applies_first, collect_many, collect_none, collect_unknown, gives_up}
use Rattle.version_collector.specs.Shows.{IsCount, IsEarlyRefusal, Steps}
use Rattle.version_collector.specs.declared.collectors.Collectors.{Collectors}
use Rattle.row_server.specs.Visits.{visits_of}

module _ (st : State) (i k n : ℕ) (few : IsCount k) (more : IsCount n) where
  applies_alike : (m : Refusal) → Applies st (CollectStep i k) m → Applies st (CollectStep i n) m
  applies_alike m (collect_unknown none) = collect_unknown none
  applies_alike m (collect_none none) = let in_limits = few.0 in absurd (omega (arith, none, in_limits))
  applies_alike m (collect_many many) = let in_limits = few.1 in absurd (omega (arith, many, in_limits))

  acts_alike : (r : Reply) (next : State) → Acts st (CollectStep i k) r next → Acts st (CollectStep i n) r next
  acts_alike r next (tells (is_blocked floor mark below)) = tells (is_blocked floor mark below)
  acts_alike r next (tells (goes_further floor)) = tells (goes_further floor)
  acts_alike r next (has_collected floor none) = has_collected floor none

module _ (st : State) (i k n : ℕ) (few : IsCount k) (more : IsCount n) where
  refuses_alike : (m : Refusal) → Refuses st (CollectStep i k) m → Refuses st (CollectStep i n) m
  refuses_alike m (applies_first is) = applies_first (record {
    applies = applies_alike st i k n few more m is.applies;
    first = λ other applies. is.first other (applies_alike st i n k more few other applies);
  })
  refuses_alike m (gives_up stores) = gives_up stores

  steps_alike : (r : Reply) (next : State) → Step st (CollectStep i k) r next → Step st (CollectStep i n) r next
  steps_alike r next (refuses is) = refuses (refuses_alike _ is)
  steps_alike r next (accepts able acts) = accepts (λ m applies. able m (applies_alike st i n k more few m applies)) (acts_alike st i k n few more r next acts)

zero_by : (n : ℕ) → nat_eq n 0 ≡ true → n ≡ 0
zero_by n e = grind (arith, nat_tests)

some_by : (n : ℕ) → nat_eq n 0 ≡ false → 1 ≤ n
some_by n e = grind (arith, nat_tests)

above : (n m : ℕ) → nat_lt n m ≡ true → n < m
above n m e = grind (arith, nat_tests)

below : (n m : ℕ) → nat_lt n m ≡ false → m ≤ n
below n m e = grind (arith, nat_tests)

-- a permitted number is one, and any other stays
pub visit_cases : (n : ℕ) → (IsCount n × (visits_of n ≡ 1)) ⊎ (¬ IsCount n × (visits_of n ≡ n))
visit_cases n = go (nat_eq n 0) (nat_lt most_visits n) refl refl
  where
    go : (zero many : Bool) → nat_eq n 0 ≡ zero → nat_lt most_visits n ≡ many → (IsCount n × (visits_of n ≡ 1)) ⊎ (¬ IsCount n × (visits_of n ≡ n))
    go true many is is_many = let none = zero_by n is in inr (λ count. let some = count.0 in absurd (omega (arith, none, some)), rw is refl)
    go false true is is_many = let high = above most_visits n is_many in inr (λ count. let few = count.1 in absurd (omega (arith, high, few)), rw (is, is_many) refl)
    go false false is is_many = inl ((some_by n is, below most_visits n is_many), rw (is, is_many) refl)

one_count : IsCount 1
one_count = (omega arith, omega arith)

-- a step of one visit is a step of a permitted number
pub steps_more : (cells cells' : Cells) (old new : Collectors) (i k n : ℕ) (r : Reply) → k ≡ visits_of n → Steps cells old (CollectStep i k) r cells' new → Steps cells old (CollectStep i n) r cells' new
steps_more cells cells' old new i k n r is steps = elim (visit_cases n) [
  | inl (count, one) ↦ λ st reached store shown.
      let (next, taken, store, shows, floor) = subst (λ (m : ℕ). Steps cells old (CollectStep i m) r cells' new) (is ∙ one) steps st reached store shown in
      (next, steps_alike st i 1 n one_count count r next taken, store, shows, floor)
  | inr (none, same) ↦ subst (λ (m : ℕ). Steps cells old (CollectStep i m) r cells' new) (is ∙ same) steps
]

-- what is so after one visit that is refused, and after a refusal before any, is so after each refusal
pub refused_visit : {T : Type 0} (P : Type 0) (k n : ℕ) (refusal : Refusal) → k ≡ visits_of n → (k ≡ 1 → P) → (¬ IsCount k → IsErrOf {T = T} (Err refusal) UnknownCollector ⊎ IsErrOf {T = T} (Err refusal) BadCount)
    → (IsEarlyRefusal refusal → P) → P
refused_visit {T} P k n refusal is one bad early = elim (visit_cases n) [
  | inl (count, same) ↦ one (is ∙ same)
  | inr (none, same) ↦ elim (bad (λ count. none (subst IsCount (is ∙ same) count))) [
    | inl unknown ↦ early (subst (λ (r : Result T Refusal). IfErr r IsEarlyRefusal) (sym unknown) tt)
    | inr count ↦ early (subst (λ (r : Result T Refusal). IfErr r IsEarlyRefusal) (sym count) tt)
  ]
]

-- a number that isn't permitted stays so
pub bad_count : (n k : ℕ) → k ≡ visits_of n → ¬ IsCount n → ¬ IsCount k
bad_count n k is none = elim (visit_cases n) [
  | inl (count, one) ↦ absurd (none count)
  | inr (bad, same) ↦ λ count. none (subst IsCount (is ∙ same) count)
]
