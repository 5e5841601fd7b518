-- Effects of steps on the marks and fates on which a cleaner or a collector relies, whoever takes the step.
use Rattle.std.proofs.Common.{◌≡◌, ℕ, ◌≤◌, true, false, Some, ◌⊎◌, inl, inr, sym, ◌∙◌}
use Rattle.std.specs.Ordering.{nat_cmp}
use Rattle.std.specs.FinMap.{get, get-empty}
use Rattle.std.proofs.lemmas.Option.{none-some}
use Rattle.si_model.specs.Sets.{◌∈◌, there}
use Rattle.si_model.specs.Machine.{State, Commit, Cleaner, Request, Reply, Marked, IsDead}
use Rattle.si_model.specs.declared.replies.Cell.{Cell}
use Rattle.si_model.specs.Machine.{Acts, tells, begins, reads, scans, sets, deletes, holds, conflicts, draws, loses, commits, finishes, stops, opens, kills, learns, rolls_forward, rolls_back, finds_gone, collects, has_collected, splits, moves_tablet, Step, refuses, accepts}
use Rattle.si_model.specs.Machine.{IsReached}
use Rattle.si_model.specs.Servers.{IsReachedByServers, starts_new, acts, raises, sees}
use Rattle.si_model.specs.Laws.{FloorStaysLow}
use Rattle.si_model.specs.Enduring.{HasTried, HaveTried, Endures}
use Rattle.si_model.proofs.Tools.{each_cons, each_insert, each_remove}
use Rattle.si_model.proofs.Invariant.{Sound}
use Rattle.si_model.proofs.Kept.{held_phase}
use Rattle.si_model.proofs.ByServers.{by_servers}
use Rattle.si_model.proofs.Steps.{servers_sound}
use Rattle.si_model.proofs.Floors.{servers_floors}
use Rattle.si_model.proofs.Gone.{acts_placed, acts_no_return}

-- an added mark is at or above the floor
acts_marks : {st st' : State} {q : Request} {r : Reply} → FloorStaysLow st → Acts st q r st' → (y : Cell) (u : ℕ) → Marked st' y u → Marked st y u ⊎ (st.floor ≤ u)
acts_marks {st} f (holds {t = t} {k = k} {x = x} h w puts free) y u m =
    let hp = held_phase st t k h in
    each_cons (λ (n : Cell × ℕ). (n ∈ st.marks) ⊎ (st.floor ≤ n.1)) (inr (f.above t hp.p hp.is)) (λ n old. inl old) (y, u) m
acts_marks f (tells t) y u m = inl m
acts_marks f (begins d) y u m = inl m
acts_marks f (reads h none shown) y u m = inl m
acts_marks f (scans h is) y u m = inl m
acts_marks f (sets h w by) y u m = inl m
acts_marks f (deletes h w by) y u m = inl m
acts_marks f (conflicts h w puts clash) y u m = inl m
acts_marks f (draws h w d) y u m = inl m
acts_marks f (loses h d) y u m = inl m
acts_marks f (stops h) y u m = inl m
acts_marks f (opens n room) y u m = inl m
acts_marks f (learns is fate) y u m = inl m
acts_marks f (finds_gone is n) y u m = inl m
acts_marks f (collects is_floor room) y u m = inl m
acts_marks f (has_collected h none) y u m = inl m
acts_marks f (splits cut) y u m = inl m
acts_marks f (moves_tablet is_moved) y u m = inl m
acts_marks f (commits h alive w puts less) y u m = inl ((less.same (y, u)).0 m).0
acts_marks f (finishes h w puts less) y u m = inl ((less.same (y, u)).0 m).0
acts_marks f (kills is nc alive w puts less) y u m = inl ((less.same (y, u)).0 m).0
acts_marks f (rolls_forward is n committed less) y u m = inl ((less.same (y, u)).0 m).0
acts_marks f (rolls_back is n nc less) y u m = inl ((less.same (y, u)).0 m).0

-- a commit is kept
acts_commits : {st st' : State} {q : Request} {r : Reply} → Acts st q r st' → (a : Commit) → a ∈ st.commits → a ∈ st'.commits
acts_commits (commits h alive w puts less) a i = there i
acts_commits (tells t) a i = i
acts_commits (begins d) a i = i
acts_commits (reads h none shown) a i = i
acts_commits (scans h is) a i = i
acts_commits (sets h w by) a i = i
acts_commits (deletes h w by) a i = i
acts_commits (holds h w puts free) a i = i
acts_commits (conflicts h w puts clash) a i = i
acts_commits (draws h w d) a i = i
acts_commits (loses h d) a i = i
acts_commits (finishes h w puts less) a i = i
acts_commits (stops h) a i = i
acts_commits (opens n room) a i = i
acts_commits (kills is nc alive w puts less) a i = i
acts_commits (learns is fate) a i = i
acts_commits (rolls_forward is n committed less) a i = i
acts_commits (rolls_back is n nc less) a i = i
acts_commits (finds_gone is n) a i = i
acts_commits (collects is_floor room) a i = i
acts_commits (has_collected h none) a i = i
acts_commits (splits cut) a i = i
acts_commits (moves_tablet is_moved) a i = i

-- and so is a rollback
acts_dead : {st st' : State} {q : Request} {r : Reply} → Acts st q r st' → (u : ℕ) → IsDead st u → IsDead st' u
acts_dead (kills is nc alive w puts less) u d = there d
acts_dead (tells t) u d = d
acts_dead (begins e) u d = d
acts_dead (reads h none shown) u d = d
acts_dead (scans h is) u d = d
acts_dead (sets h w by) u d = d
acts_dead (deletes h w by) u d = d
acts_dead (holds h w puts free) u d = d
acts_dead (conflicts h w puts clash) u d = d
acts_dead (draws h w e) u d = d
acts_dead (loses h e) u d = d
acts_dead (commits h alive w puts less) u d = d
acts_dead (finishes h w puts less) u d = d
acts_dead (stops h) u d = d
acts_dead (opens n room) u d = d
acts_dead (learns is fate) u d = d
acts_dead (rolls_forward is n committed less) u d = d
acts_dead (rolls_back is n nc less) u d = d
acts_dead (finds_gone is n) u d = d
acts_dead (collects is_floor room) u d = d
acts_dead (has_collected h none) u d = d
acts_dead (splits cut) u d = d
acts_dead (moves_tablet is_moved) u d = d

-- the mark that a cleaner was opened at never comes back
abbrev pub AreHasTried : State → Type 0
AreHasTried st = (i : ℕ) (k : Cleaner) → get st.cleaners i ≡ Some k → HasTried st k.cell k.start

acts_cleaners : {st st' : State} {q : Request} {r : Reply} → Sound st → AreHasTried st → Acts st q r st' → AreHasTried st'
acts_cleaners {st} {st'} s p (opens {x = x} {t = t} m room) = each_insert st.cleaners st.next_cleaner (λ i k. HasTried st' k.cell k.start) (record { cell = x; start = t; decided = false })
    (acts_placed s (opens m room) x t (s.placed x t m)) (λ i k ne g. acts_placed s (opens m room) k.cell k.start (p i k g))
acts_cleaners {st} {st'} s p (kills {i = n} {t = t} {x = x} is nc alive w puts less) = each_insert st.cleaners n (λ i k. HasTried st' k.cell k.start) (record { cell = x; start = t; decided = true })
    (acts_placed s (kills is nc alive w puts less) x t (p n (record { cell = x; start = t; decided = false }) is)) (λ i k ne g. acts_placed s (kills is nc alive w puts less) k.cell k.start (p i k g))
acts_cleaners {st} {st'} s p (learns {i = n} {t = t} {x = x} is fate) = each_insert st.cleaners n (λ i k. HasTried st' k.cell k.start) (record { cell = x; start = t; decided = true })
    (acts_placed s (learns is fate) x t (p n (record { cell = x; start = t; decided = false }) is)) (λ i k ne g. acts_placed s (learns is fate) k.cell k.start (p i k g))
acts_cleaners {st} {st'} s p (rolls_forward {i = n} is m committed less) = each_remove st.cleaners n (λ i k. HasTried st' k.cell k.start) (λ i k ne g. acts_placed s (rolls_forward is m committed less) k.cell k.start (p i k g))
acts_cleaners {st} {st'} s p (rolls_back {i = n} is m nc less) = each_remove st.cleaners n (λ i k. HasTried st' k.cell k.start) (λ i k ne g. acts_placed s (rolls_back is m nc less) k.cell k.start (p i k g))
acts_cleaners {st} {st'} s p (finds_gone {i = n} is m) = each_remove st.cleaners n (λ i k. HasTried st' k.cell k.start) (λ i k ne g. acts_placed s (finds_gone is m) k.cell k.start (p i k g))
acts_cleaners s p (tells t) = λ i k g. p i k g
acts_cleaners s p (begins d) = λ i k g. acts_placed s (begins d) k.cell k.start (p i k g)
acts_cleaners s p (reads h none shown) = λ i k g. acts_placed s (reads h none shown) k.cell k.start (p i k g)
acts_cleaners s p (scans h is) = λ i k g. acts_placed s (scans h is) k.cell k.start (p i k g)
acts_cleaners s p (sets h w by) = λ i k g. acts_placed s (sets h w by) k.cell k.start (p i k g)
acts_cleaners s p (deletes h w by) = λ i k g. acts_placed s (deletes h w by) k.cell k.start (p i k g)
acts_cleaners s p (holds h w puts free) = λ i k g. acts_placed s (holds h w puts free) k.cell k.start (p i k g)
acts_cleaners s p (conflicts h w puts clash) = λ i k g. acts_placed s (conflicts h w puts clash) k.cell k.start (p i k g)
acts_cleaners s p (draws h w d) = λ i k g. acts_placed s (draws h w d) k.cell k.start (p i k g)
acts_cleaners s p (loses h d) = λ i k g. acts_placed s (loses h d) k.cell k.start (p i k g)
acts_cleaners s p (commits h alive w puts less) = λ i k g. acts_placed s (commits h alive w puts less) k.cell k.start (p i k g)
acts_cleaners s p (finishes h w puts less) = λ i k g. acts_placed s (finishes h w puts less) k.cell k.start (p i k g)
acts_cleaners s p (stops h) = λ i k g. acts_placed s (stops h) k.cell k.start (p i k g)
acts_cleaners s p (collects is_floor room) = λ i k g. acts_placed s (collects is_floor room) k.cell k.start (p i k g)
acts_cleaners s p (has_collected {n = visits} h none) = λ i k g. acts_placed s (has_collected {n = visits} h none) k.cell k.start (p i k g)
acts_cleaners s p (splits cut) = λ i k g. acts_placed s (splits cut) k.cell k.start (p i k g)
acts_cleaners s p (moves_tablet is_moved) = λ i k g. acts_placed s (moves_tablet is_moved) k.cell k.start (p i k g)

servers_cleaners : {st : State} → IsReachedByServers st → AreHasTried st
servers_cleaners starts_new = λ i k g. absurd (none-some k (sym (get-empty nat_cmp i) ∙ g))
servers_cleaners (acts mine r ok a) = acts_cleaners (servers_sound r) (servers_cleaners r) a
servers_cleaners (raises r low) = λ i k g. let p = servers_cleaners r i k g in record { ws = p.ws; k = p.k; v = p.v; wrote = p.wrote; puts = p.puts; past = p.past }
servers_cleaners (sees r part) = λ i k g. let p = (part.cleaners i k g).tried in record { ws = p.ws; k = p.k; v = p.v; wrote = p.wrote; puts = p.puts; past = λ q h. p.past q (part.sessions k.start q h) }

pub have_tried : (st : State) → IsReachedByServers st → HaveTried st
have_tried st reached = record { marked = (servers_sound reached).placed; cleaned = servers_cleaners reached }

pub acts_endures : {st next : State} {q : Request} {r : Reply} → IsReachedByServers st → Acts st q r next → Endures st next
acts_endures reached a = record {
  tried = acts_placed (servers_sound reached) a;
  gone = acts_no_return (servers_sound reached) a;
  joins = acts_marks (servers_floors reached) a;
  committed = acts_commits a;
  dead = acts_dead a;
}

pub servers_endures : (st next : State) (q : Request) (r : Reply) → IsReachedByServers st → Step st q r next → Endures st next
servers_endures st next q _ reached (refuses n) = record { tried = λ x t h. h; gone = λ x t h m. m; joins = λ x t m. inl m; committed = λ a i. i; dead = λ t d. d }
servers_endures st next q r reached (accepts ok a) = acts_endures reached a

pub endures : (st next : State) (q : Request) (r : Reply) → IsReached st → Step st q r next → Endures st next
endures st next q r reached step = servers_endures st next q r (by_servers reached) step
