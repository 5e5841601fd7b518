-- Each step keeps the invariant, so each reached state has it and obeys the laws.
use Rattle.std.proofs.Common.{◌≡◌, ℕ, ◌+◌, max, true, false, List, ◌∷◌, length, Some, ◌⊎◌, inl, inr, refl, sym, ◌∙◌}
use Rattle.std.specs.Ordering.{nat_cmp}
use Rattle.std.specs.FinMap.{empty, get, insert, remove, get-empty}
use Rattle.std.proofs.lemmas.Bool.{cases_lt}
use Rattle.std.proofs.lemmas.Option.{none-some}
use Rattle.si_model.specs.Sets.{here, IsWithout}
use Rattle.si_model.specs.Machine.{State, Writes, Read, Stamped, Finishing, Cleaner, Request, Reply, InPhase, Wrote, IsDead, CommittedAt, IsCommitted, finishing}
use Rattle.si_model.specs.declared.replies.Cell.{Cell}
use Rattle.si_model.specs.Machine.{Acts, tells, begins, reads, scans, sets, deletes, holds, conflicts, draws, loses, commits, finishes, stops, opens, kills, learns, rolls_forward, rolls_back, finds_gone, collects, has_collected, splits, moves_tablet, Step, refuses, accepts}
use Rattle.si_model.specs.Machine.{Run, rests, goes_on, IsReached, runs, new_machine}
use Rattle.si_model.specs.Servers.{Own, IsPartOf, view, IsReachedByServers, starts_new, acts, raises, sees}
use Rattle.si_model.proofs.Tools.{get_remains, each_insert, each_remove, cells_differ_after}
use Rattle.si_model.proofs.Invariant.{IsOwn, Told, Sound}
use Rattle.si_model.proofs.Scanned.{scan_right}
use Rattle.si_model.proofs.Kept
use Rattle.si_model.proofs.ByServers.{by_servers}

-- a live stamped session that isn't dead may commit
joins : (st : State) (t c : ℕ) (ws : Writes) → Sound st → InPhase st t (Stamped c) → ¬ IsDead st t → Wrote st t ws → Kept.Joins (record st { active = remove st.active t }) t c ws
joins st t c ws i h alive w = record {
  wrote = w;
  own = record {
    later = own.later;
    low = own.low;
    no_start = own.no_start;
    no_commit = own.no_commit;
    no_other = λ u g. own.no_other u (each_remove st.active t (λ u p. InPhase st u p) (λ u p ne k. k) u (Stamped c) g);
  };
  idle = λ p g. each_remove st.active t (λ u p. u ≡ t → ⊥) (λ u p ne k. ne) t p g refl;
  alive = alive;
  once = i.uncommitted t (Stamped c) h tt;
  stands = λ x names. elim (i.stands t (Stamped c) h tt ws w) [ inl d ↦ absurd (alive d) | inr f ↦ f names.1.0 x names.0 names.1.1 tt ];
  unread = λ r m names. elim (cases_lt r.start c) [ inl lt ↦ lt | inr ge ↦ absurd (alive (i.unread r m t (Stamped c) h c refl ws w names ge)) ];
}
  where
    own : IsOwn st t c
    own = i.drawn t (Stamped c) h c refl

commits_sound : (st : State) (t c : ℕ) (ws : Writes) (x : Cell) (marks' : List (Cell × ℕ)) → Sound st → InPhase st t (Stamped c) → ¬ IsDead st t → Wrote st t ws → IsWithout st.marks (x, t) marks'
    → Sound (record st { commits = record { start = t; stamp = c; writes = ws } ∷ st.commits; marks = marks'; active = finishing st.active t c 1 (length ws) })
commits_sound st t c ws x marks' i h alive w less =
    let ended = record st { active = remove st.active t } in
    let joined = Kept.joined ended t c ws in
    let there_now : CommittedAt joined t c = (ws, here) in
    let last = finishing st.active t c 1 (length ws) in
    let recedes : Kept.Recedes joined last = Kept.ends_or_finishes joined st.active t c 1 (length ws) (λ u p ne g. get_remains st.active t u ne ∙ g) there_now ws w in
    Kept.unmarked_sound (Kept.receded joined last recedes) x t marks' less (inl (c, there_now))
    (Kept.receded_sound joined last recedes
    (Kept.joined_sound ended t c ws (joins st t c ws i h alive w) (Kept.receded_sound st (remove st.active t) (Kept.ends st t) i)))

finishes_sound : (st : State) (t c k : ℕ) (ws : Writes) (x : Cell) (marks' : List (Cell × ℕ)) → Sound st → InPhase st t (Finishing c k) → Wrote st t ws → IsWithout st.marks (x, t) marks'
    → Sound (record st { marks = marks'; active = finishing st.active t c (k + 1) (length ws) })
finishes_sound st t c k ws x marks' i h w less =
    let committed = i.finishes t (Finishing c k) h c k refl in
    let last = finishing st.active t c (k + 1) (length ws) in
    let recedes : Kept.Recedes st last = Kept.ends_or_finishes st st.active t c (k + 1) (length ws) (λ u p ne g. g) committed ws w in
    Kept.unmarked_sound (Kept.receded st last recedes) x t marks' less (inl (c, committed)) (Kept.receded_sound st last recedes i)

-- a cleaner closes
closes : (st : State) (n : ℕ) → Sound st → Sound (record st { cleaners = remove st.cleaners n })
closes st n i = Kept.cleaning_sound st (remove st.cleaners n) st.next_cleaner
    (each_remove st.cleaners n (λ n k. k.decided ≡ true → IsCommitted st k.start ⊎ IsDead st k.start) (λ n k ne g. i.decided n k g)) i

closes_cleared : (st : State) (n t : ℕ) (x : Cell) (marks' : List (Cell × ℕ)) → get st.cleaners n ≡ Some (record { cell = x; start = t; decided = true }) → IsWithout st.marks (x, t) marks' → Sound st → Sound (record st { marks = marks'; cleaners = remove st.cleaners n })
closes_cleared st n t x marks' is less i = closes (Kept.unmarked st x t marks' less) n
    (Kept.unmarked_sound st x t marks' less (i.decided n (record { cell = x; start = t; decided = true }) is refl) i)

pub acts_sound : {st st' : State} {q : Request} {r : Reply} → Sound st → Acts st q r st' → Sound st'
acts_sound i (tells t) = i
acts_sound {st} i (begins {s = s} d) = Kept.begun_sound st s d.0 i
acts_sound {st} i (reads {s = s} {x = x} {answer = v} h none shown) = Kept.answered_sound st s x v h none shown i
acts_sound {st} i (scans h is) = Kept.scanned_sound st _ h (scan_right is) i
acts_sound {st} i (sets {s = s} {ws = ws} {ws' = ws'} h w by) = Kept.rewritten_sound st s ws' h ws w (cells_differ_after by (i.cells_differ s ws w)) i
acts_sound {st} i (deletes {s = s} {ws = ws} {ws' = ws'} h w by) = Kept.rewritten_sound st s ws' h ws w (cells_differ_after by (i.cells_differ s ws w)) i
acts_sound {st} i (holds {t = t} {k = k} {ws = ws} {x = x} {v = v} h w puts free) = Kept.held_sound st t k x h ws v w puts free i
acts_sound {st} i (conflicts {t = t} h w puts clash) = Kept.receded_sound st (remove st.active t) (Kept.ends st t) i
acts_sound {st} i (draws {t = t} {c = c} {ws = ws} h w d) = Kept.stamped_sound st t c ws d.0 h w i
acts_sound {st} i (loses {t = t} h d) = Kept.receded_sound st (remove st.active t) (Kept.ends st t) i
acts_sound {st} i (commits {t = t} {c = c} {ws = ws} {x = x} {marks' = marks'} h alive w puts less) = commits_sound st t c ws x marks' i h alive w less
acts_sound {st} i (finishes {t = t} {c = c} {k = k} {ws = ws} {x = x} {marks' = marks'} h w puts less) = finishes_sound st t c k ws x marks' i h w less
acts_sound {st} i (stops {t = t} h) = Kept.receded_sound st (remove st.active t) (Kept.ends st t) i
acts_sound {st} i (opens {x = x} {t = t} m room) =
    let new : Cleaner = record { cell = x; start = t; decided = false } in
    Kept.cleaning_sound st (insert st.cleaners st.next_cleaner new) (st.next_cleaner + 1)
    (each_insert st.cleaners st.next_cleaner (λ n k. k.decided ≡ true → IsCommitted st k.start ⊎ IsDead st k.start) new (λ e. cc) (λ n k ne g. i.decided n k g)) i
acts_sound {st} i (kills {i = n} {t = t} {x = x} {y = y} {marks' = marks'} is not_committed alive w puts less) =
    let now : Cleaner = record { cell = x; start = t; decided = true } in
    let one = Kept.killed st t in
    let two = Kept.unmarked one y t marks' less in
    let s = Kept.unmarked_sound one y t marks' less (inr here) (Kept.killed_sound st t not_committed i) in
    Kept.cleaning_sound two (insert st.cleaners n now) st.next_cleaner
    (each_insert st.cleaners n (λ n k. k.decided ≡ true → IsCommitted two k.start ⊎ IsDead two k.start) now (λ e. inr here) (λ n k ne g. s.decided n k g)) s
acts_sound {st} i (learns {i = n} {t = t} {x = x} is fate) =
    let now : Cleaner = record { cell = x; start = t; decided = true } in
    Kept.cleaning_sound st (insert st.cleaners n now) st.next_cleaner
    (each_insert st.cleaners n (λ n k. k.decided ≡ true → IsCommitted st k.start ⊎ IsDead st k.start) now (λ e. fate) (λ n k ne g. i.decided n k g)) i
acts_sound {st} i (rolls_forward {i = n} {t = t} {x = x} {marks' = marks'} is m committed less) = closes_cleared st n t x marks' is less i
acts_sound {st} i (rolls_back {i = n} {t = t} {x = x} {marks' = marks'} is m not_committed less) = closes_cleared st n t x marks' is less i
acts_sound {st} i (finds_gone {i = n} is m) = closes st n i
acts_sound {st} i (collects {f = f} is_floor room) = Kept.beside_sound st (insert st.collectors st.next_collector f) (st.next_collector + 1) (max st.floor f) st.places st.next_tablet i
acts_sound {st} i (has_collected {i = n} h none) = Kept.beside_sound st (remove st.collectors n) st.next_collector st.floor st.places st.next_tablet i
acts_sound {st} i (splits {places' = places'} cut) = Kept.beside_sound st st.collectors st.next_collector st.floor places' (st.next_tablet + 1) i
acts_sound {st} i (moves_tablet {places' = places'} is_moved) = Kept.beside_sound st st.collectors st.next_collector st.floor places' st.next_tablet i

pub step_sound : {st st' : State} {q : Request} {r : Reply} → Sound st → Step st q r st' → Sound st'
step_sound i (refuses n) = i
step_sound i (accepts ok a) = acts_sound i a

pub run_sound : {st st' : State} {qs : List Request} {rs : List Reply} → Sound st → Run st qs rs st' → Sound st'
run_sound i rests = i
run_sound i (goes_on s r) = run_sound (step_sound i s) r

new_sound : Sound new_machine
new_sound = record {
  start_low = λ t ws h. absurd (nothing ws t h);
  cells_differ = λ t ws h. absurd (nothing ws t h);
  has_begun = λ t p h. absurd (nothing p t h);
  uncommitted = λ t p h. absurd (nothing p t h);
  stands = λ t p h. absurd (nothing p t h);
  drawn = λ t p h. absurd (nothing p t h);
  finishes = λ t p h. absurd (nothing p t h);
  placed = λ x t m. elim m [ ];
  one_mark = λ x t u m. elim m [ ];
  younger = λ x t m. elim m [ ];
  fair = λ a m. elim m [ ];
  starts_differ = tt;
  stamps_differ = λ a b m. elim m [ ];
  not_dead = λ a m. elim m [ ];
  first_committer = λ a b m. elim m [ ];
  read_low = λ r m. none r m;
  settled = λ r m. elim m [ ];
  scans_settled = λ scan m. elim m [ ];
  unread = λ r m. none r m;
  decided = λ n k h. absurd (nothing k n h);
}
  where
    none : {P : Type 0} (r : Read) → Told new_machine r → P
    none r (inl m) = elim m [ ]
    none r (inr (scan, m, says, starts)) = elim m [ ]

    nothing : {X : Type 0} (v : X) (k : ℕ) → get (empty {X = X} {R = nat_cmp}) k ≡ Some v → ⊥
    nothing v k h = none-some v (sym (get-empty nat_cmp k) ∙ h)

seen_sound : (st : State) (own : Own) → IsPartOf own st → Sound st → Sound (view st own)
seen_sound st own part i = Kept.aside_sound (record st { active = own.sessions }) own.cleaners own.next_cleaner own.collectors own.next_collector st.floor st.places st.next_tablet
    (λ n k h. (part.cleaners n k h).decided) (Kept.receded_sound st own.sessions (λ u p h. inl (part.sessions u p h)) i)

pub servers_sound : {st : State} → IsReachedByServers st → Sound st
servers_sound starts_new = new_sound
servers_sound (acts mine r ok a) = acts_sound (servers_sound r) a
servers_sound (raises {st = st} {f = f} r low) = Kept.beside_sound st st.collectors st.next_collector (max st.floor f) st.places st.next_tablet (servers_sound r)
servers_sound (sees {st = st} {own = own} r part) = seen_sound st own part (servers_sound r)

pub reached_sound : {st : State} → IsReached st → Sound st
reached_sound r = servers_sound (by_servers r)

-- a step leads from a reached state to a reached state
pub reached_step : {st st' : State} {q : Request} {r : Reply} → IsReached st → Step st q r st' → IsReached st'
reached_step reached s = runs reached (goes_on s rests)
