-- Which part of a state each kind of request changes.
use Rattle.std.proofs.Common.{◌≡◌, refl}
use Rattle.si_model.specs.State.{State}
use Rattle.si_model.specs.Messages.{Request, Reply}
use Rattle.si_model.specs.Machine.{Acts, tells, begins, reads, scans, sets, deletes, holds, conflicts, draws, loses, commits, finishes, stops, opens, kills, learns, rolls_forward, rolls_back, finds_gone, collects, has_collected, splits, moves_tablet, Step, refuses, accepts}
use Rattle.si_model.specs.Kinds.{Kind, OfSessions, OfCleaners, OfCollectors, OfPlaces, kind_of, SameSessions, SameCleaners, SameCollectors, SamePlaces, LeavesOthers}

-- a step that changes nothing
leaves_all : (kind : Kind) (st : State) → LeavesOthers kind st st
leaves_all kind st = record {
  sessions = λ n. record { top = refl; begun = refl; active = refl; commits = refl; reads = refl; scans = refl };
  cleaners = λ n. record { cleaners = refl; next_cleaner = refl; dead = refl };
  collectors = λ n. record { collectors = refl; next_collector = refl; floor = refl };
  places = λ n. record { places = refl; next_tablet = refl };
  marks = λ n m. refl;
}

module _ {st next : State} where
  by_session : SameCleaners st next → SameCollectors st next → SamePlaces st next → LeavesOthers OfSessions st next
  by_session cleaners collectors places =
      record { sessions = λ n. absurd (n refl); cleaners = λ n. cleaners; collectors = λ n. collectors; places = λ n. places; marks = λ n m. absurd (n refl) }

  by_cleaner : SameSessions st next → SameCollectors st next → SamePlaces st next → LeavesOthers OfCleaners st next
  by_cleaner sessions collectors places =
      record { sessions = λ n. sessions; cleaners = λ n. absurd (n refl); collectors = λ n. collectors; places = λ n. places; marks = λ n m. absurd (m refl) }

  by_collector : SameSessions st next → SameCleaners st next → SamePlaces st next → next.marks ≡ st.marks → LeavesOthers OfCollectors st next
  by_collector sessions cleaners places marks =
      record { sessions = λ n. sessions; cleaners = λ n. cleaners; collectors = λ n. absurd (n refl); places = λ n. places; marks = λ n m. marks }

  by_place : SameSessions st next → SameCleaners st next → SameCollectors st next → next.marks ≡ st.marks → LeavesOthers OfPlaces st next
  by_place sessions cleaners collectors marks =
      record { sessions = λ n. sessions; cleaners = λ n. cleaners; collectors = λ n. collectors; places = λ n. absurd (n refl); marks = λ n m. marks }

  same_sessions : next.top ≡ st.top → next.begun ≡ st.begun → next.active ≡ st.active → next.commits ≡ st.commits → next.reads ≡ st.reads → next.scans ≡ st.scans → SameSessions st next
  same_sessions t b a c r s = record { top = t; begun = b; active = a; commits = c; reads = r; scans = s }

  same_cleaners : next.cleaners ≡ st.cleaners → next.next_cleaner ≡ st.next_cleaner → next.dead ≡ st.dead → SameCleaners st next
  same_cleaners c n d = record { cleaners = c; next_cleaner = n; dead = d }

  same_collectors : next.collectors ≡ st.collectors → next.next_collector ≡ st.next_collector → next.floor ≡ st.floor → SameCollectors st next
  same_collectors c n f = record { collectors = c; next_collector = n; floor = f }

  same_places : next.places ≡ st.places → next.next_tablet ≡ st.next_tablet → SamePlaces st next
  same_places p n = record { places = p; next_tablet = n }

  -- where a session's request changes no other part
  session_acts : next.cleaners ≡ st.cleaners → next.next_cleaner ≡ st.next_cleaner → next.dead ≡ st.dead → next.collectors ≡ st.collectors → next.next_collector ≡ st.next_collector
      → next.floor ≡ st.floor → next.places ≡ st.places → next.next_tablet ≡ st.next_tablet → LeavesOthers OfSessions st next
  session_acts k n d c m f p t = by_session (same_cleaners k n d) (same_collectors c m f) (same_places p t)

  cleaner_acts : next.top ≡ st.top → next.begun ≡ st.begun → next.active ≡ st.active → next.commits ≡ st.commits → next.reads ≡ st.reads → next.scans ≡ st.scans → next.collectors ≡ st.collectors
      → next.next_collector ≡ st.next_collector → next.floor ≡ st.floor → next.places ≡ st.places → next.next_tablet ≡ st.next_tablet → LeavesOthers OfCleaners st next
  cleaner_acts s b a c r n k m f p t = by_cleaner (same_sessions s b a c r n) (same_collectors k m f) (same_places p t)

acts_leave : {st next : State} {q : Request} {r : Reply} → Acts st q r next → LeavesOthers (kind_of q) st next
acts_leave {st} {next} {q} (tells t) = leaves_all (kind_of q) st
acts_leave (begins d) = session_acts refl refl refl refl refl refl refl refl
acts_leave (reads h none shown) = session_acts refl refl refl refl refl refl refl refl
acts_leave (scans h is) = session_acts refl refl refl refl refl refl refl refl
acts_leave (sets h w by) = session_acts refl refl refl refl refl refl refl refl
acts_leave (deletes h w by) = session_acts refl refl refl refl refl refl refl refl
acts_leave (holds h w puts free) = session_acts refl refl refl refl refl refl refl refl
acts_leave (conflicts h w puts clash) = session_acts refl refl refl refl refl refl refl refl
acts_leave (draws h w d) = session_acts refl refl refl refl refl refl refl refl
acts_leave (loses h d) = session_acts refl refl refl refl refl refl refl refl
acts_leave (commits h alive w puts less) = session_acts refl refl refl refl refl refl refl refl
acts_leave (finishes h w puts less) = session_acts refl refl refl refl refl refl refl refl
acts_leave (stops h) = session_acts refl refl refl refl refl refl refl refl
acts_leave (opens m room) = cleaner_acts refl refl refl refl refl refl refl refl refl refl refl
acts_leave (kills is nc alive w puts less) = cleaner_acts refl refl refl refl refl refl refl refl refl refl refl
acts_leave (learns is fate) = cleaner_acts refl refl refl refl refl refl refl refl refl refl refl
acts_leave (rolls_forward is m committed less) = cleaner_acts refl refl refl refl refl refl refl refl refl refl refl
acts_leave (rolls_back is m nc less) = cleaner_acts refl refl refl refl refl refl refl refl refl refl refl
acts_leave (finds_gone is m) = cleaner_acts refl refl refl refl refl refl refl refl refl refl refl
acts_leave (collects is_floor room) = by_collector (same_sessions refl refl refl refl refl refl) (same_cleaners refl refl refl) (same_places refl refl) refl
acts_leave (has_collected h none) = by_collector (same_sessions refl refl refl refl refl refl) (same_cleaners refl refl refl) (same_places refl refl) refl
acts_leave (splits cut) = by_place (same_sessions refl refl refl refl refl refl) (same_cleaners refl refl refl) (same_collectors refl refl refl) refl
acts_leave (moves_tablet is_moved) = by_place (same_sessions refl refl refl refl refl refl) (same_cleaners refl refl refl) (same_collectors refl refl refl) refl

pub leaves_others : (st next : State) (q : Request) (r : Reply) → Step st q r next → LeavesOthers (kind_of q) st next
leaves_others st next q _ (refuses n) = leaves_all (kind_of q) st
leaves_others st next q r (accepts ok a) = acts_leave a
