-- What is read together is so at one moment.
use Rattle.std.proofs.Common.{◌≡◌, ℕ, List, [], ◌∷◌, Option, Some, None, refl, sym, subst}
use Rattle.si_model.specs.Sets.{◌∈◌}
use Rattle.si_model.specs.Machine.{State, Value, Commit, Marked, Item, Valued, Locked, Unsent, Get, Reply, Step, accepts, reads, tells, waits}
use Rattle.si_model.specs.Scans.{IsSaid, IsSo}
use Rattle.si_model.specs.declared.replies.Cell.{Cell}
use Rattle.si_model.specs.TransactionLaws.{EachSaid, ReadsOneMoment}
use Rattle.si_model.specs.Transactions.{IsTold, has_nothing, is_sent, is_left_out, is_blocked, ReadsAll, all_read, finds}

each_also : (P Q : Cell → Option Item → Type 0) → ((x : Cell) (said : Option Item) → P x said → Q x said) → (xs : List Cell) (said : List (Option Item)) → EachSaid P xs said → EachSaid Q xs said
each_also P Q go [] [] h = tt
each_also P Q go (x ∷ xs) (said ∷ more) h = (go x said h.0, each_also P Q go xs more h.1)
each_also P Q go [] (said ∷ more) h = absurd h
each_also P Q go (x ∷ xs) [] h = absurd h

-- a Get says what a scan could, and what could be said before it can be after it
record Says (st mid : State) (s : ℕ) (x : Cell) (said : Option Item) : Type 0 where
  now : IsSaid st s x said
  before : (y : Cell) (other : Option Item) → IsSaid mid s y other → IsSaid st s y other

same_said : (st next : State) (s : ℕ) → next.marks ≡ st.marks → next.commits ≡ st.commits → (y : Cell) (other : Option Item) → IsSaid next s y other → IsSaid st s y other
same_said st next s marks commits y None is = (λ t m. is.0 t (new m), subst (λ (cs : List Commit). IsSo cs s y None) commits is.1)
  where
    new : {t : ℕ} → Marked st y t → Marked next y t
    new {t} m = subst (λ (ms : List (Cell × ℕ)). (y, t) ∈ ms) (sym marks) m
same_said st next s marks commits y (Some (Valued value)) is = (λ t m. is.0 t (subst (λ (ms : List (Cell × ℕ)). (y, t) ∈ ms) (sym marks) m), subst (λ (cs : List Commit). IsSo cs s y (Some (Valued value))) commits is.1)
same_said st next s marks commits y (Some Unsent) is = (λ t m. is.0 t (subst (λ (ms : List (Cell × ℕ)). (y, t) ∈ ms) (sym marks) m), subst (λ (cs : List Commit). IsSo cs s y (Some Unsent)) commits is.1)
same_said st next s marks commits y (Some (Locked t)) is = (subst (λ (ms : List (Cell × ℕ)). (y, t) ∈ ms) marks is.0, is.1)

-- a Get was answered
abbrev answered : State → ℕ → Cell → Option Value → State
answered st s x answer = record st { reads = record { start = s; cell = x; answer = answer } ∷ st.reads }

get_says : (st : State) (s : ℕ) (x : Cell) {used : ℕ} {mid : State} {reply : Reply} {said : Option Item} → IsTold used reply said → Step st (Get s x) reply mid → Says st mid s x said
get_says st s x has_nothing (accepts ok (reads h none shown)) = record { now = (none, shown); before = same_said st (answered st s x None) s refl refl }
get_says st s x has_nothing (accepts ok (tells t)) = elim t [ ]
get_says st s x (is_sent {value = value} few) (accepts ok (reads h none shown)) = record { now = (none, shown); before = same_said st (answered st s x (Some value)) s refl refl }
get_says st s x (is_sent few) (accepts ok (tells t)) = elim t [ ]
get_says st s x (is_left_out {value = value} many) (accepts ok (reads h none shown)) = record { now = (none, (value, shown)); before = same_said st (answered st s x (Some value)) s refl refl }
get_says st s x (is_left_out many) (accepts ok (tells t)) = elim t [ ]
get_says st s x is_blocked (accepts ok (tells (waits h m low))) = record { now = (m, low); before = λ y other is. is }

each_said : {s used : ℕ} {st next : State} {xs : List Cell} {said : List (Option Item)} → ReadsAll s used st xs said next → EachSaid (IsSaid st s) xs said
each_said all_read = tt
each_said {s = s} {st = st} (finds {mid = mid} {x = x} {xs = xs} {more = more} reply step told later) =
    let get = get_says st s x told step in
    (get.now, each_also (IsSaid mid s) (IsSaid st s) get.before xs more (each_said later))

pub reads_one_moment : ReadsOneMoment
reads_one_moment st next s used xs said all = each_said all
