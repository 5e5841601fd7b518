-- What a server sees of the machine is shown by the same cells, and what it knows stays right.
use Rattle.std.proofs.Common.{◌≡◌, ℕ, ◌≤◌, inl, inr, refl, subst, arith}
use Rattle.std.proofs.Math.Nat.{le-max_left, le_trans}
use Rattle.si_model.specs.Enduring.{Endures}
use Rattle.si_model.specs.Laws.{Goes}
use Rattle.si_model.specs.Machine.{State, Writes, Cleaner, Open, Request, Reply, Puts}
use Rattle.si_model.specs.Machine.{Acts, tells, begins, reads, scans, sets, deletes, holds, conflicts, draws, loses, commits, finishes, stops, opens, kills, learns, rolls_forward, rolls_back, finds_gone, collects, has_collected, splits, moves_tablet}
use Rattle.si_model.specs.Servers.{Own, HasFate, IsPartOf, IsRightCleaner, IsReachedByServers, view}
use Rattle.si_model.specs.ServerLaws.{IsLawful, PartsStay, ViewsShown}
use Rattle.si_model.specs.ShowsCells.{IsFirstCell}
use Rattle.si_model.specs.declared.replies.Cell.{Cell}
use Rattle.si_model.proofs.Fates.{acts_fate, acts_wrote, fate_seen}
use Rattle.si_model.proofs.Gone.{servers_fate}
use Rattle.si_model.proofs.Invariant.{Sound}
use Rattle.si_model.proofs.LastingMarks.{acts_endures, have_tried}
use Rattle.si_model.proofs.Floors.{servers_floors}
use Rattle.si_model.proofs.Numbers.{servers_numbers}
use Rattle.si_model.proofs.ShownKept.{shows_beside}
use Rattle.si_model.proofs.Steps.{servers_sound}
use Rattle.si_model.proofs.Tools.{same_entry}

pub servers_lawful : (st : State) → IsReachedByServers st → IsLawful st
servers_lawful st reached = let i = servers_sound reached in record {
  settled = i.settled;
  scans_settled = i.scans_settled;
  first_committer = i.first_committer;
  one_fate = servers_fate st reached;
  one_mark = i.one_mark;
}

-- ---- views

seen_goes : (st : State) (own : Own) → IsPartOf own st → Goes st (view st own)
seen_goes st own part = record {
  wrote = λ u ws w late. w;
  marked = λ x u ws m w. w;
  late = λ u ws w late h. late (part.sessions u Open h);
  cleared = λ n c. c;
}

pub views_shown : ViewsShown
views_shown cells st own part shown = shows_beside cells st (view st own) (seen_goes st own part) shown (λ y u m. m) (λ y u m. m) refl

-- ---- parts

-- what the machine itself has
abbrev pub own_of : State → Own
own_of st = record { sessions = st.active; cleaners = st.cleaners; next_cleaner = st.next_cleaner; collectors = st.collectors; next_collector = st.next_collector }

pub own_is_part : (st : State) → IsReachedByServers st → IsPartOf (own_of st) st
own_is_part st reached = record {
  sessions = λ t p h. h;
  cleaners = λ i k h. record {
    tried = (have_tried st reached).cleaned i k h;
    known = λ x first. (fate_seen st reached k.start first.0 x first.1 first.2 first.3).cleaned i k h refl;
    decided = (servers_sound reached).decided i k h;
  };
  collectors = (servers_floors reached).each;
  cleaner_numbers = (servers_numbers reached).cleaners;
  collector_numbers = (servers_numbers reached).collectors;
}

-- a fate is final
fate_stays : (st next : State) → Endures st next → (t : ℕ) → HasFate st t → HasFate next t
fate_stays st next e t (inl (c, (ws, is_in))) = inl (c, (ws, e.committed (record { start = t; stamp = c; writes = ws }) is_in))
fate_stays st next e t (inr dead) = inr (e.dead t dead)

pub right_stays : {st next : State} {q : Request} {r : Reply} → IsReachedByServers st → Acts st q r next → (k : Cleaner) → IsRightCleaner st k → IsRightCleaner next k
right_stays {st} {next} reached a k right = record {
  tried = (acts_endures reached a).tried k.cell k.start right.tried;
  known = λ x first. acts_fate i a x k.start (right.known x (before x first));
  decided = λ is. fate_stays st next (acts_endures reached a) k.start (right.decided is);
}
  where
    i : Sound st
    i = servers_sound reached

    before : (x : Cell) → IsFirstCell next k.start x → IsFirstCell st k.start x
    before x (ws, v, wrote, puts) =
        let was = right.tried in
        let same : ws ≡ was.ws = same_entry next.begun k.start ws was.ws wrote (acts_wrote i a k.cell k.start was was.ws was.wrote) in
        (was.ws, v, was.wrote, subst (λ (l : Writes). Puts l 0 x v) same puts)

floor_rises : {st next : State} {q : Request} {r : Reply} → Acts st q r next → st.floor ≤ next.floor
floor_rises {st} (collects {f = f} is_floor room) = le-max_left st.floor f
floor_rises (tells t) = omega arith
floor_rises (begins d) = omega arith
floor_rises (reads h none shown) = omega arith
floor_rises (scans h is) = omega arith
floor_rises (sets h w by) = omega arith
floor_rises (deletes h w by) = omega arith
floor_rises (holds h w puts free) = omega arith
floor_rises (conflicts h w puts clash) = omega arith
floor_rises (draws h w d) = omega arith
floor_rises (loses h d) = omega arith
floor_rises (commits h alive w puts less) = omega arith
floor_rises (finishes h w puts less) = omega arith
floor_rises (stops h) = omega arith
floor_rises (opens m room) = omega arith
floor_rises (kills is nc alive w puts less) = omega arith
floor_rises (learns is fate) = omega arith
floor_rises (rolls_forward is m committed less) = omega arith
floor_rises (rolls_back is m nc less) = omega arith
floor_rises (finds_gone is m) = omega arith
floor_rises (has_collected h none) = omega arith
floor_rises (splits cut) = omega arith
floor_rises (moves_tablet is_moved) = omega arith

pub parts_stay : PartsStay
parts_stay st next own q r reached part a sessions = record {
  sessions = sessions;
  cleaners = λ i k h. right_stays reached a k (part.cleaners i k h);
  collectors = λ i f h. le_trans (part.collectors i f h) (floor_rises a);
  cleaner_numbers = part.cleaner_numbers;
  collector_numbers = part.collector_numbers;
}
