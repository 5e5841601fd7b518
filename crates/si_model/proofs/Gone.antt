-- A start that has had its chance to mark a cell never marks it again; and the laws that aren't part of the invariant.
use Rattle.std.proofs.Common.{◌≡◌, ℕ, zero, suc, ◌+◌, ◌<◌, Bool, true, false, cond, List, [], ◌∷◌, length, Some, refl, sym, ap, subst, ◌∙◌, arith}
use Rattle.std.specs.Prelude.{slice_get, nat_eq}
use Rattle.std.specs.FinMap.{get, insert, remove}
use Rattle.std.proofs.lemmas.Option.{same_Some, none-some}
use Rattle.si_model.specs.Sets.{◌∈◌, here, there}
use Rattle.si_model.specs.Machine.{State, Change, Writes, Phase, Finishing, Commit, Request, Reply, InPhase, Wrote, Marked, Puts, HasHeld, finishing}
use Rattle.si_model.specs.declared.replies.Cell.{Cell}
use Rattle.si_model.specs.Machine.{Acts, tells, begins, reads, scans, sets, deletes, holds, conflicts, draws, loses, commits, finishes, stops, opens, kills, learns, rolls_forward, rolls_back, finds_gone, collects, has_collected, splits, moves_tablet, Step, refuses, accepts}
use Rattle.si_model.specs.Machine.{Run, rests, goes_on, IsReached}
use Rattle.si_model.specs.Servers.{IsReachedByServers}
use Rattle.si_model.specs.Laws.{OneFate, GoneForGood}
use Rattle.si_model.proofs.Tools.{each_cons, each_insert, each_remove, same_entry, one_place}
use Rattle.si_model.proofs.Invariant.{IsPast, HasTried, StartsDiffer, Sound}
use Rattle.si_model.proofs.Kept
use Rattle.si_model.proofs.ByServers.{by_servers}
use Rattle.si_model.proofs.Steps.{step_sound, run_sound, reached_sound, servers_sound}

-- t has had its chance in any state where its writes and its phase are the same
pub same_placed : (st st' : State) → st'.begun ≡ st.begun → st'.active ≡ st.active → (x : Cell) (t : ℕ) → HasTried st x t → HasTried st' x t
same_placed st st' e f x t p = record {
  ws = p.ws;
  k = p.k;
  v = p.v;
  wrote = ap (λ m. get m t) e ∙ p.wrote;
  puts = p.puts;
  past = λ q h. p.past q (ap (λ m. get m t) (sym f) ∙ h);
}

pub ended_placed : (st : State) (u : ℕ) (x : Cell) (t : ℕ) → HasTried st x t → HasTried (record st { active = remove st.active u }) x t
ended_placed st u x t p = Kept.receded_placed st (remove st.active u) (Kept.ends st u) x t p

-- a session that finishes, whatever is added and removed beside it
finishing_placed : (st : State) (u c k n : ℕ) (x : Cell) (t : ℕ) → HasTried st x t → HasTried (record st { active = finishing st.active u c k n }) x t
finishing_placed st u c k n x t p = record {
  ws = p.ws;
  k = p.k;
  v = p.v;
  wrote = p.wrote;
  puts = p.puts;
  past = λ q h. by_test q (nat_eq k n) h;
}
  where
    by_test : (q : Phase) (b : Bool) → get (cond b (remove st.active u) (insert st.active u (Finishing c k))) t ≡ Some q → IsPast q p.k
    by_test q true h = each_remove st.active u (λ v q. v ≡ t → IsPast q p.k) (λ v q ne g e. p.past q (subst (λ w. InPhase st w q) e g)) t q h refl
    by_test q false h = each_insert st.active u (λ v q. v ≡ t → IsPast q p.k) (Finishing c k) (λ e. tt) (λ v q ne g e. p.past q (subst (λ w. InPhase st w q) e g)) t q h refl

pub acts_placed : {st st' : State} {q : Request} {r : Reply} → Sound st → Acts st q r st' → (y : Cell) (u : ℕ) → HasTried st y u → HasTried st' y u
acts_placed i (tells t) y u p = p
acts_placed {st} i (begins {s = s} d) y u p = Kept.begun_placed st s d.0 i y u p
acts_placed {st} {st'} i (reads h none shown) y u p = same_placed st st' refl refl y u p
acts_placed {st} {st'} i (scans h is) y u p = same_placed st st' refl refl y u p
acts_placed {st} i (sets {s = s} {ws' = ws'} h w by) y u p = Kept.rewritten_placed st s ws' h y u p
acts_placed {st} i (deletes {s = s} {ws' = ws'} h w by) y u p = Kept.rewritten_placed st s ws' h y u p
acts_placed {st} i (holds {t = t} {k = k} {x = x} h w puts free) y u p = Kept.held_placed st t k x h y u p
acts_placed {st} i (conflicts {t = t} h w puts clash) y u p = ended_placed st t y u p
acts_placed {st} i (draws {t = t} {c = c} {ws = ws} h w d) y u p = Kept.stamped_placed st t c ws d.0 h y u p
acts_placed {st} i (loses {t = t} h d) y u p = ended_placed st t y u p
acts_placed {st} {st'} i (commits {t = t} {c = c} {ws = ws} h alive w puts less) y u p = same_placed (record st { active = finishing st.active t c 1 (length ws) }) st' refl refl y u (finishing_placed st t c 1 (length ws) y u p)
acts_placed {st} {st'} i (finishes {t = t} {c = c} {k = k} {ws = ws} h w puts less) y u p = same_placed (record st { active = finishing st.active t c (k + 1) (length ws) }) st' refl refl y u (finishing_placed st t c (k + 1) (length ws) y u p)
acts_placed {st} i (stops {t = t} h) y u p = ended_placed st t y u p
acts_placed {st} {st'} i (opens m room) y u p = same_placed st st' refl refl y u p
acts_placed {st} {st'} i (kills is nc alive w puts less) y u p = same_placed st st' refl refl y u p
acts_placed {st} {st'} i (learns is fate) y u p = same_placed st st' refl refl y u p
acts_placed {st} {st'} i (rolls_forward is m committed less) y u p = same_placed st st' refl refl y u p
acts_placed {st} {st'} i (rolls_back is m nc less) y u p = same_placed st st' refl refl y u p
acts_placed {st} {st'} i (finds_gone is m) y u p = same_placed st st' refl refl y u p
acts_placed {st} {st'} i (collects is_floor room) y u p = same_placed st st' refl refl y u p
acts_placed {st} {st'} i (has_collected h none) y u p = same_placed st st' refl refl y u p
acts_placed {st} {st'} i (splits cut) y u p = same_placed st st' refl refl y u p
acts_placed {st} {st'} i (moves_tablet is_moved) y u p = same_placed st st' refl refl y u p

-- if t holds x now, it has not had its chance before
not_again : {st : State} {t k : ℕ} {ws : Writes} {x : Cell} {v : Change} → Sound st → HasHeld st t k → Wrote st t ws → Puts ws k x v → HasTried st x t → ⊥
not_again {st} {t} {k} {ws} {x} {v} i h w puts p =
    let hp = Kept.held_phase st t k h in
    let before : p.k < k = hp.below p.k (p.past hp.p hp.is) in
    let same : p.ws ≡ ws = same_entry st.begun t p.ws ws p.wrote w in
    let e : p.k ≡ k = one_place ws p.k k x p.v v (i.cells_differ t ws w) (subst (λ (l : Writes). Puts l p.k x p.v) same p.puts) puts in
    omega arith

pub acts_no_return : {st st' : State} {q : Request} {r : Reply} → Sound st → Acts st q r st' → (y : Cell) (u : ℕ) → HasTried st y u → Marked st' y u → Marked st y u
acts_no_return i (tells t) y u p m = m
acts_no_return i (begins d) y u p m = m
acts_no_return i (reads h none shown) y u p m = m
acts_no_return i (scans h is) y u p m = m
acts_no_return i (sets h w by) y u p m = m
acts_no_return i (deletes h w by) y u p m = m
acts_no_return {st} i (holds {t = t} {x = x} h w puts free) y u p m =
    each_cons (λ (n : Cell × ℕ). n ≡ (y, u) → Marked st y u)
    (λ e. absurd (not_again i h w puts (subst (λ (n : Cell × ℕ). HasTried st n.0 n.1) (sym e) p)))
    (λ n old e. subst (λ (n : Cell × ℕ). Marked st n.0 n.1) e old) (y, u) m refl
acts_no_return i (conflicts h w puts clash) y u p m = m
acts_no_return i (draws h w d) y u p m = m
acts_no_return i (loses h d) y u p m = m
acts_no_return i (commits h alive w puts less) y u p m = ((less.same (y, u)).0 m).0
acts_no_return i (finishes h w puts less) y u p m = ((less.same (y, u)).0 m).0
acts_no_return i (stops h) y u p m = m
acts_no_return i (opens n room) y u p m = m
acts_no_return i (kills is nc alive w puts less) y u p m = ((less.same (y, u)).0 m).0
acts_no_return i (learns is fate) y u p m = m
acts_no_return i (rolls_forward is n committed less) y u p m = ((less.same (y, u)).0 m).0
acts_no_return i (rolls_back is n nc less) y u p m = ((less.same (y, u)).0 m).0
acts_no_return i (finds_gone is n) y u p m = m
acts_no_return i (collects is_floor room) y u p m = m
acts_no_return i (has_collected h none) y u p m = m
acts_no_return i (splits cut) y u p m = m
acts_no_return i (moves_tablet is_moved) y u p m = m

step_placed : {st st' : State} {q : Request} {r : Reply} → Sound st → Step st q r st' → (y : Cell) (u : ℕ) → HasTried st y u → HasTried st' y u
step_placed i (refuses n) y u p = p
step_placed i (accepts ok a) y u p = acts_placed i a y u p

step_no_return : {st st' : State} {q : Request} {r : Reply} → Sound st → Step st q r st' → (y : Cell) (u : ℕ) → HasTried st y u → Marked st' y u → Marked st y u
step_no_return i (refuses n) y u p m = m
step_no_return i (accepts ok a) y u p m = acts_no_return i a y u p m

run_placed : {st st' : State} {qs : List Request} {rs : List Reply} → Sound st → Run st qs rs st' → (y : Cell) (u : ℕ) → HasTried st y u → HasTried st' y u
run_placed i rests y u p = p
run_placed i (goes_on s r) y u p = run_placed (step_sound i s) r y u (step_placed i s y u p)

run_no_return : {st st' : State} {qs : List Request} {rs : List Reply} → Sound st → Run st qs rs st' → (y : Cell) (u : ℕ) → HasTried st y u → Marked st' y u → Marked st y u
run_no_return i rests y u p m = m
run_no_return i (goes_on s r) y u p m = step_no_return i s y u p (run_no_return (step_sound i s) r y u (step_placed i s y u p) m)

pub gone : (st : State) → IsReached st → GoneForGood st
gone st reached mid end qs qs' rs rs' first second x t m left back =
    let i = reached_sound reached in
    left (run_no_return (run_sound i first) second x t (run_placed i first x t (i.placed x t m)) back)

-- the invariant's property of starts, by index
at_in : (cs : List Commit) (i : ℕ) (a : Commit) → slice_get cs i ≡ Some a → a ∈ cs
at_in [] i a h = absurd (none-some a h)
at_in (c ∷ cs) zero a h = subst (λ b. b ∈ (c ∷ cs)) (same_Some c a h) here
at_in (c ∷ cs) (suc i) a h = there (at_in cs i a h)

not_twice : (cs : List Commit) → StartsDiffer cs → (i j : ℕ) (a b : Commit) → slice_get cs i ≡ Some a → slice_get cs j ≡ Some b → a.start ≡ b.start → i ≡ j
not_twice [] d i j a b g h e = absurd (none-some a g)
not_twice (c ∷ cs) d zero zero a b g h e = refl
not_twice (c ∷ cs) d zero (suc j) a b g h e = absurd (d.0 b (at_in cs j b h) (sym e ∙ ap (λ r. r.start) (sym (same_Some c a g))))
not_twice (c ∷ cs) d (suc i) zero a b g h e = absurd (d.0 a (at_in cs i a g) (e ∙ ap (λ r. r.start) (sym (same_Some c b h))))
not_twice (c ∷ cs) d (suc i) (suc j) a b g h e = ap suc (not_twice cs d.1 i j a b g h e)

pub servers_fate : (st : State) → IsReachedByServers st → OneFate st
servers_fate st reached = let i = servers_sound reached in record { not_both = i.not_dead; not_twice = not_twice st.commits i.starts_differ }

pub fates : (st : State) → IsReached st → OneFate st
fates st reached = servers_fate st (by_servers reached)
