-- A request of a session or a cleaner can be accepted, if no refusal applies to it.
use Rattle.std.proofs.Common.{◌≡◌, ◌≢◌, ℕ, ◌+◌, ◌<◌, ◌≤◌, Bool, true, false, [], ◌∷◌, length, Option, Some, None, ◌⊎◌, inl, inr, refl, ap, subst, ◌∙◌, arith}
use Rattle.std.specs.Ordering.{nat_cmp}
use Rattle.std.specs.FinMap.{FinMap, get}
use Rattle.std.proofs.lemmas.Bool.{cases_eq, cases_lt}
use Rattle.cell_key.specs.declared.refusals.Refusal.TheVariants.{UnknownSession, EmptyCommit, UnknownCleaner}
use Rattle.si_model.specs.Servers.{IsReachedByServers}
use Rattle.si_model.specs.declared.replies.Cell.{Cell}
use Rattle.si_model.specs.Machine.{State, Value, Writes, Phase, Open, Holding, Stamped, Finishing, Cleaner, Request, Reply, InPhase, Wrote, Marked, HasHeld, IsAcceptable, end_of_stamps}
use Rattle.si_model.specs.Machine.{Begin, Get, Set, Delete, ScanFrom, Advance, Stop, CleanBegin, CleanStep}
use Rattle.si_model.specs.Machine.{Acts, tells, waits, finds_none, begins, reads, sets, deletes, holds, conflicts, draws, loses, commits, finishes, stops, opens, kills, learns, rolls_forward, rolls_back, finds_gone}
use Rattle.si_model.specs.Refusing.{advance_unknown, advance_empty, stop_unknown, clean_unknown}
use Rattle.si_model.specs.Laws.{OneMark, Bounds, IsNeverStuck}
use Rattle.si_model.proofs.Steps.{servers_sound}
use Rattle.si_model.proofs.Bounds.{servers_bounds}
use Rattle.si_model.proofs.Fates.{Fates, Primary, servers_fates}
use Rattle.si_model.proofs.Without.{without}
use Rattle.si_model.proofs.Acceptable.{get_is_open, set_is_open, delete_is_open, scan_is_open, scan_is_some}
use Rattle.si_model.proofs.Scannable.{can_scan}
use Rattle.si_model.proofs.Decided.{mark_of, clash_of, snapshot_of, sets_of, dead_of, committed_of, put_of}

-- some answer is possible
abbrev Can : State → Request → Type 0
Can st q = (r : Reply) × (next : State) × Acts st q r next

can_begin : (st : State) → st.top + 1 < end_of_stamps → Can st Begin
can_begin st room = (_, _, begins {s = st.top + 1} (omega arith, room))

can_get : (st : State) (s : ℕ) (x : Cell) → OneMark st → InPhase st s Open → Can st (Get s x)
can_get st s x one h = elim (mark_of st.marks x) [
  | inr none ↦ let shown = snapshot_of st.commits s x in (_, _, reads h (λ t m. absurd (none t m)) shown.1)
  | inl (t, m) ↦ elim (cases_lt s t) [
    | inl late ↦ let shown = snapshot_of st.commits s x in (_, _, reads h (λ u n. subst (λ (v : ℕ). s < v) (one x t u m n) late) shown.1)
    | inr low ↦ (_, _, tells (waits h m low))
  ]
]

can_set : (st : State) (s : ℕ) (x : Cell) (v : Value) (ws : Writes) → InPhase st s Open → Wrote st s ws → Can st (Set s x v)
can_set st s x v ws h w = let new = sets_of ws x (Some v) in (_, _, sets h w new.1)

can_delete : (st : State) (s : ℕ) (x : Cell) (ws : Writes) → InPhase st s Open → Wrote st s ws → Can st (Delete s x)
can_delete st s x ws h w = let new = sets_of ws x None in (_, _, deletes h w new.1)

can_hold : (st : State) (t k : ℕ) (ws : Writes) → HasHeld st t k → Wrote st t ws → k < length ws → Can st (Advance t)
can_hold st t k ws h w more =
    let next = put_of ws k more in
    elim (clash_of st next.0.0 t) [ inl clash ↦ (_, _, conflicts h w next.1 clash) | inr free ↦ (_, _, holds h w next.1 free) ]

can_advance : (st : State) (t : ℕ) (p : Phase) (ws : Writes) → Bounds st → InPhase st t p → Wrote st t ws → 1 ≤ length ws → st.top + 1 < end_of_stamps → Can st (Advance t)
can_advance st t Open ws b h w some room = can_hold st t 0 ws (inr (h, refl)) w (omega arith)
can_advance st t (Holding k) ws b h w some room = elim (cases_lt k (length ws)) [
  | inl more ↦ can_hold st t k ws (inl h) w more
  | inr all ↦ let few = (b.fits t (Holding k) h ws w).1 in
      let e : k ≡ length ws = omega arith in
      (_, _, draws {c = st.top + 1} (subst (λ (n : ℕ). InPhase st t (Holding n)) e h) w (omega arith, room))
]
can_advance st t (Stamped c) ws b h w some room = elim (dead_of st.dead t) [
  | inl dead ↦ (_, _, loses h dead)
  | inr alive ↦ let first = put_of ws 0 (omega arith) in (_, _, commits h alive w first.1 (without st.marks (first.0.0, t)).1)
]
can_advance st t (Finishing c k) ws b h w some room =
    let next = put_of ws k (b.fits t (Finishing c k) h ws w).1 in
    (_, _, finishes h w next.1 (without st.marks (next.0.0, t)).1)

-- an entry that exists
found : {X : Type 0} (m : FinMap nat_cmp X) (k : ℕ) → (get m k ≢ None) → (o : Option X) → get m k ≡ o → (v : X) × (get m k ≡ Some v)
found m k there None e = absurd (there e)
found m k there (Some v) e = (v, e)

has_writes : (st : State) (t : ℕ) (ws : Writes) → IsAcceptable st (Advance t) → Wrote st t ws → 1 ≤ length ws
has_writes st t [] ok w = absurd (ok EmptyCommit (advance_empty w))
has_writes st t (u ∷ ws) ok w = omega arith

can_clean : (st : State) (x : Cell) → st.next_cleaner < end_of_stamps → Can st (CleanBegin x)
can_clean st x room = elim (mark_of st.marks x) [ inl (t, m) ↦ (_, _, opens m room) | inr none ↦ (_, _, tells (finds_none none)) ]

can_decide : (st : State) (i t : ℕ) (x : Cell) → get st.cleaners i ≡ Some (record { cell = x; start = t; decided = false }) → Primary st t → Can st (CleanStep i)
can_decide st i t x is p = elim (committed_of st t) [
  | inl c ↦ (_, _, learns is (inl c))
  | inr nc ↦ elim (dead_of st.dead t) [
    | inl d ↦ (_, _, learns is (inr d))
    | inr alive ↦ (_, _, kills is nc alive p.wrote p.puts (without st.marks (p.x, t)).1)
  ]
]

-- x has the mark of t, or not
marked_of : (st : State) (x : Cell) (t : ℕ) → OneMark st → Marked st x t ⊎ (¬ Marked st x t)
marked_of st x t one = elim (mark_of st.marks x) [
  | inr none ↦ inr (none t)
  | inl (u, m) ↦ elim (cases_eq u t) [ inl e ↦ inl (subst (λ v. Marked st x v) e m) | inr ne ↦ inr (λ n. ne (one x u t m n)) ]
]

can_clear : (st : State) (i t : ℕ) (x : Cell) → OneMark st → get st.cleaners i ≡ Some (record { cell = x; start = t; decided = true }) → Can st (CleanStep i)
can_clear st i t x one is = elim (marked_of st x t one) [
  | inr left ↦ (_, _, finds_gone is left)
  | inl m ↦ elim (committed_of st t) [
    | inl c ↦ (_, _, rolls_forward is m c.1 (without st.marks (x, t)).1)
    | inr nc ↦ (_, _, rolls_back is m nc (without st.marks (x, t)).1)
  ]
]

can_step : (st : State) (i : ℕ) (k : Cleaner) → OneMark st → Fates st → get st.cleaners i ≡ Some k → (b : Bool) → k.decided ≡ b → Can st (CleanStep i)
can_step st i k one f h true e = can_clear st i k.start k.cell one (h ∙ ap (λ b. Some (record { cell = k.cell; start = k.start; decided = b })) e)
can_step st i k one f h false e = can_decide st i k.start k.cell (h ∙ ap (λ b. Some (record { cell = k.cell; start = k.start; decided = b })) e) (f.of_cleaner i k h).first

pub never_stuck : (st : State) → IsReachedByServers st → IsNeverStuck st
never_stuck st reached Begin of ok stamps numbers = let c = can_begin st stamps in c
never_stuck st reached (Get s x) of ok stamps numbers = let c = can_get st s x (servers_sound reached).one_mark (get_is_open st s x ok) in c
never_stuck st reached (Set s x v) of ok stamps numbers =
    let h = set_is_open st s x v ok in
    let w = (servers_sound reached).has_begun s Open h in
    let c = can_set st s x v w.0 h w.1 in
    c
never_stuck st reached (Delete s x) of ok stamps numbers =
    let h = delete_is_open st s x ok in
    let w = (servers_sound reached).has_begun s Open h in
    let c = can_delete st s x w.0 h w.1 in
    c
never_stuck st reached (ScanFrom s range keys_only n) of ok stamps numbers =
    let h = scan_is_open st s range keys_only n ok in
    let c = can_scan st s n range keys_only (servers_sound reached).one_mark h (scan_is_some st s range keys_only n ok) in
    c
never_stuck st reached (Advance s) of ok stamps numbers =
    let p = found st.active s (λ e. ok UnknownSession (advance_unknown e)) (get st.active s) refl in
    let w = (servers_sound reached).has_begun s p.0 p.1 in
    let c = can_advance st s p.0 w.0 (servers_bounds reached) p.1 w.1 (has_writes st s w.0 ok w.1) stamps in
    c
never_stuck st reached (Stop s) of ok stamps numbers = let p = found st.active s (λ e. ok UnknownSession (stop_unknown e)) (get st.active s) refl in (_, _, stops p.1)
never_stuck st reached (CleanBegin x) of ok stamps numbers = let c = can_clean st x numbers in c
never_stuck st reached (CleanStep i) of ok stamps numbers =
    let k = found st.cleaners i (λ e. ok UnknownCleaner (clean_unknown e)) (get st.cleaners i) refl in
    let c = can_step st i k.0 (servers_sound reached).one_mark (servers_fates reached) k.1 k.0.decided refl in
    c
never_stuck st reached _ of ok stamps numbers = absurd of
