-- A collector's step of fewer visits is one of more.
use Rattle.std.proofs.Common.{◌≡◌, ◌≤◌, ◌<◌, ℕ, Bool, true, false, refl, arith}
use Rattle.std.specs.Prelude.{if◌then◌else◌, nat_le, nat_lt}
use Rattle.std.proofs.lemmas.Bool.Decides.{nat_tests}
use Rattle.cell_key.specs.declared.refusals.Refusal.{Refusal}
use Rattle.si_model.specs.Machine.{Acts, Applies, CollectStep, Refuses, Reply, State, Step, accepts, goes_further, has_collected, is_blocked, refuses, tells, most_visits}
use Rattle.si_model.specs.Refusing.{applies_first, collect_many, collect_none, collect_unknown, gives_up}
use Rattle.si_model.specs.Transactions.{Answer, Goes, One, steps}
use Rattle.durable.specs.Visits.{visits_of}
use Rattle.durable.specs.Durability.{GoesOn}

-- a number of visits that a request may ask for
abbrev IsInLimits : ℕ → Type 0
IsInLimits n = (1 ≤ n) × (n ≤ 1000)

module _ (st : State) (i k n : ℕ) (few : IsInLimits k) (more : IsInLimits n) where
  applies_alike : (m : Refusal) → Applies st (CollectStep i k) m → Applies st (CollectStep i n) m
  applies_alike m (collect_unknown none) = collect_unknown none
  applies_alike m (collect_none low) = let in_limits = few.0 in absurd (omega (arith, low, in_limits))
  applies_alike m (collect_many high) = let in_limits = few.1 in absurd (omega (arith, high, in_limits))

  acts_alike : (r : Reply) (next : State) → Acts st (CollectStep i k) r next → Acts st (CollectStep i n) r next
  acts_alike r next (tells (is_blocked floor mark below)) = tells (is_blocked floor mark below)
  acts_alike r next (tells (goes_further floor)) = tells (goes_further floor)
  acts_alike r next (has_collected floor none) = has_collected floor none

module _ (st : State) (i k n : ℕ) (few : IsInLimits k) (more : IsInLimits n) where
  refuses_alike : (m : Refusal) → Refuses st (CollectStep i k) m → Refuses st (CollectStep i n) m
  refuses_alike m (applies_first is) = applies_first (record {
    applies = applies_alike st i k n few more m is.applies;
    first = λ other applies. is.first other (applies_alike st i n k more few other applies);
  })
  refuses_alike m (gives_up stores) = gives_up stores

  steps_alike : (r : Reply) (next : State) → Step st (CollectStep i k) r next → Step st (CollectStep i n) r next
  steps_alike r next (refuses is) = refuses (refuses_alike _ is)
  steps_alike r next (accepts able acts) = accepts (λ m applies. able m (applies_alike st i n k more few m applies)) (acts_alike st i k n few more r next acts)

above : (n m : ℕ) → nat_le n m ≡ false → m < n
above n m e = grind (arith, nat_tests)

below : (n m : ℕ) → nat_lt n m ≡ false → m ≤ n
below n m e = grind (arith, nat_tests)

-- the visits for which it is asked inside
goes_alike : (st : State) (i n : ℕ) (few high : Bool) → nat_le n 4 ≡ few → nat_lt most_visits n ≡ high → (answer : Answer) (next : State)
    → Goes st (One (CollectStep i (if few then n else (if high then n else 4)))) answer next → Goes st (One (CollectStep i n)) answer next
goes_alike st i n true high is is_high answer next goes = goes
goes_alike st i n false true is is_high answer next goes = goes
goes_alike st i n false false is is_high answer next (steps step) =
    let more = above n 4 is in
    let limit = below most_visits n is_high in
    steps (steps_alike st i 4 n (omega arith, omega arith) (omega (arith, more), limit) _ next step)

-- they are few
pub few_of : (n : ℕ) → visits_of (visits_of n) ≡ visits_of n
few_of n = go (nat_le n 4) (nat_lt most_visits n) refl refl
  where
    go : (few high : Bool) → nat_le n 4 ≡ few → nat_lt most_visits n ≡ high → visits_of (if few then n else (if high then n else 4)) ≡ (if few then n else (if high then n else 4))
    go true high is is_high = rw is refl
    go false true is is_high = rw (is, is_high) refl
    go false false is is_high = refl

module _ {S : Type 0} (shows lasts : S → State → Type 0) (logs : S → Type 0) where
  -- an answer after few visits is one after more
  pub goes_on_alike : (i n : ℕ) (answer : Answer) (old new : S) → GoesOn shows lasts logs (One (CollectStep i (visits_of n))) answer old new → GoesOn shows lasts logs (One (CollectStep i n)) answer old new
  goes_on_alike i n answer old new goes = λ now reached shown.
      let on = goes now reached shown in
      record {
        next = on.next;
        goes = goes_alike now i n (nat_le n 4) (nat_lt most_visits n) refl refl answer on.next on.goes;
        shown = on.shown;
        whole = on.whole;
        logged = on.logged;
        lasting = on.lasting;
      }
