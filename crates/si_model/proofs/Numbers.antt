-- The numbers of cleaners and collectors, and how many cleaners, collectors and tablets there are.
use Rattle.std.proofs.Common.{◌≡◌, ℕ, ◌+◌, ◌<◌, true, false, List, length, Some, inl, inr, arith}
use Rattle.std.specs.FinMap.{get, insert, len}
use Rattle.std.proofs.lemmas.Bool.{cases_lt}
use Rattle.cell_key.specs.declared.refusals.Refusal.TheVariants.{TooManySessions, BadSplit}
use Rattle.si_model.specs.declared.replies.Cell.{Cell}
use Rattle.si_model.specs.Machine.{State, Place, Request, Reply, CleanBegin, CollectBegin, Split, Marked, Cuts, cuts_last, cuts, cuts_later, Moves, moves, moves_later, most_cleaners, most_collectors, most_tablets, IsAcceptable}
use Rattle.si_model.specs.Refusing.{clean_full, collect_full, split_full}
use Rattle.si_model.specs.Machine.{Acts, tells, begins, reads, scans, sets, deletes, holds, conflicts, draws, loses, commits, finishes, stops, opens, kills, learns, rolls_forward, rolls_back, finds_gone, collects, has_collected, splits, moves_tablet}
use Rattle.si_model.specs.Servers.{Sessions, seen_with, IsReachedByServers, starts_new, acts, raises, sees}
use Rattle.si_model.specs.Laws.{AreNumbered, Numbers}
use Rattle.si_model.specs.Machine.{IsReached}
use Rattle.si_model.proofs.OpenNumbers.{added, changed, closed, none_open}
use Rattle.si_model.proofs.ByServers.{by_servers}

-- room that follows from acceptance
cleaner_room : (st : State) (x : Cell) (t : ℕ) → IsAcceptable st (CleanBegin x) → Marked st x t → len st.cleaners < most_cleaners
cleaner_room st x t ok m = elim (cases_lt (len st.cleaners) most_cleaners) [ inl room ↦ room | inr full ↦ absurd (ok TooManySessions (clean_full m full)) ]

collector_room : (st : State) → IsAcceptable st CollectBegin → len st.collectors < most_collectors
collector_room st ok = elim (cases_lt (len st.collectors) most_collectors) [ inl room ↦ room | inr full ↦ absurd (ok TooManySessions (collect_full full)) ]

tablet_room : (st : State) (row : List ℕ) → IsAcceptable st (Split row) → length st.places < most_tablets
tablet_room st row ok = elim (cases_lt (length st.places) most_tablets) [ inl room ↦ room | inr full ↦ absurd (ok BadSplit (split_full full)) ]

cuts_length : {row : List ℕ} {n : ℕ} {ps ps' : List Place} → Cuts row n ps ps' → length ps' ≡ length ps + 1
cuts_length cuts_last = omega arith
cuts_length (cuts less) = omega arith
cuts_length (cuts_later less rest) = let e = cuts_length rest in omega arith

moves_length : {k server : ℕ} {ps ps' : List Place} → Moves k server ps ps' → length ps' ≡ length ps
moves_length moves = omega arith
moves_length (moves_later ne rest) = let e = moves_length rest in omega arith

-- a cleaner takes its first step
decides : (st : State) → Numbers st → (i t : ℕ) (x : Cell) → get st.cleaners i ≡ Some (record { cell = x; start = t; decided = false })
    → AreNumbered (insert st.cleaners i (record { cell = x; start = t; decided = true })) st.next_cleaner most_cleaners
decides st n i t x is = changed st.cleaners st.next_cleaner most_cleaners n.cleaners i (record { cell = x; start = t; decided = false }) (record { cell = x; start = t; decided = true }) is

acts_numbers : {st st' : State} {q : Request} {r : Reply} (mine : Sessions) → Numbers st → IsAcceptable (seen_with st mine) q → Acts st q r st' → Numbers st'
acts_numbers mine n ok (tells t) = n
acts_numbers {st} mine n ok (opens {x = x} {t = t} m low) =
    record { cleaners = added st.cleaners st.next_cleaner most_cleaners n.cleaners _ (cleaner_room (seen_with st mine) x t ok m) low; collectors = n.collectors; tablets = n.tablets }
acts_numbers {st} mine n ok (kills {i = i} {t = t} {x = x} is nc alive w puts less) = record { cleaners = decides st n i t x is; collectors = n.collectors; tablets = n.tablets }
acts_numbers {st} mine n ok (learns {i = i} {t = t} {x = x} is fate) = record { cleaners = decides st n i t x is; collectors = n.collectors; tablets = n.tablets }
acts_numbers {st} mine n ok (collects {f = f} is low) =
    record { cleaners = n.cleaners; collectors = added st.collectors st.next_collector most_collectors n.collectors f (collector_room (seen_with st mine) ok) low; tablets = n.tablets }
acts_numbers {st} mine n ok (has_collected {i = i} h none) =
    record { cleaners = n.cleaners; collectors = closed st.collectors st.next_collector most_collectors n.collectors i; tablets = n.tablets }
acts_numbers {st} mine n ok (splits {row = row} cut) =
    let room = tablet_room (seen_with st mine) row ok in
    let more = cuts_length cut in
    record { cleaners = n.cleaners; collectors = n.collectors; tablets = omega arith }
acts_numbers mine n ok (moves_tablet is_moved) =
    let same = moves_length is_moved in
    let few = n.tablets in
    record { cleaners = n.cleaners; collectors = n.collectors; tablets = omega arith }
acts_numbers {st} mine n ok (rolls_forward {i = i} is m committed less) = record { cleaners = closed st.cleaners st.next_cleaner most_cleaners n.cleaners i; collectors = n.collectors; tablets = n.tablets }
acts_numbers {st} mine n ok (rolls_back {i = i} is m nc less) = record { cleaners = closed st.cleaners st.next_cleaner most_cleaners n.cleaners i; collectors = n.collectors; tablets = n.tablets }
acts_numbers {st} mine n ok (finds_gone {i = i} is m) = record { cleaners = closed st.cleaners st.next_cleaner most_cleaners n.cleaners i; collectors = n.collectors; tablets = n.tablets }
acts_numbers mine n ok (begins d) = record { cleaners = n.cleaners; collectors = n.collectors; tablets = n.tablets }
acts_numbers mine n ok (reads h none shown) = record { cleaners = n.cleaners; collectors = n.collectors; tablets = n.tablets }
acts_numbers mine n ok (scans h is) = record { cleaners = n.cleaners; collectors = n.collectors; tablets = n.tablets }
acts_numbers mine n ok (sets h w by) = record { cleaners = n.cleaners; collectors = n.collectors; tablets = n.tablets }
acts_numbers mine n ok (deletes h w by) = record { cleaners = n.cleaners; collectors = n.collectors; tablets = n.tablets }
acts_numbers mine n ok (holds h w puts free) = record { cleaners = n.cleaners; collectors = n.collectors; tablets = n.tablets }
acts_numbers mine n ok (conflicts h w puts clash) = record { cleaners = n.cleaners; collectors = n.collectors; tablets = n.tablets }
acts_numbers mine n ok (draws h w d) = record { cleaners = n.cleaners; collectors = n.collectors; tablets = n.tablets }
acts_numbers mine n ok (loses h d) = record { cleaners = n.cleaners; collectors = n.collectors; tablets = n.tablets }
acts_numbers mine n ok (commits h alive w puts less) = record { cleaners = n.cleaners; collectors = n.collectors; tablets = n.tablets }
acts_numbers mine n ok (finishes h w puts less) = record { cleaners = n.cleaners; collectors = n.collectors; tablets = n.tablets }
acts_numbers mine n ok (stops h) = record { cleaners = n.cleaners; collectors = n.collectors; tablets = n.tablets }

pub servers_numbers : {st : State} → IsReachedByServers st → Numbers st
servers_numbers starts_new = record { cleaners = none_open most_cleaners; collectors = none_open most_collectors; tablets = omega arith }
servers_numbers (acts mine r ok a) = acts_numbers mine (servers_numbers r) ok a
servers_numbers (raises r low) = let n = servers_numbers r in record { cleaners = n.cleaners; collectors = n.collectors; tablets = n.tablets }
servers_numbers (sees r part) = record { cleaners = part.cleaner_numbers; collectors = part.collector_numbers; tablets = (servers_numbers r).tablets }

pub reached_numbers : {st : State} → IsReached st → Numbers st
reached_numbers r = servers_numbers (by_servers r)
