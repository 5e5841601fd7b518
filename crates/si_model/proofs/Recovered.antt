-- From each reached state the machine can go to a state as after a kill.
use Rattle.std.proofs.Common.{◌≡◌, ◌≤◌, ◌<◌, ◌+◌, ℕ, [], max, ◌⊎◌, inl, inr, refl, sym, ap, subst, ◌∙◌, arith, lit<}
use Rattle.std.specs.Ordering.{nat_cmp}
use Rattle.std.specs.FinMap.{get-empty, insert, len, len-empty}
use Rattle.std.proofs.Math.Nat.{max-eq_right, eq-or-lt_of_le}
use Rattle.std.proofs.lemmas.Option.{none-some}
use Rattle.cell_key.specs.Cells.{Cells}
use Rattle.si_model.specs.Laws.{FloorStaysLow}
use Rattle.si_model.specs.Sets.{◌∈◌}
use Rattle.si_model.specs.Machine.{State, Phase, Open, Request, Begin, CollectBegin, Reply, Begun, Collecting, Step, begins, collects, accepts, IsReached, runs, reopens, goes_on, rests, reopened, end_of_stamps}
use Rattle.si_model.specs.Machine.IsFloor.{none_active}
use Rattle.si_model.specs.ShowsCells.{ShowsCells}
use Rattle.si_model.proofs.Acceptable.{begin_ok, collect_begin_ok}
use Rattle.si_model.proofs.ByServers.{by_servers}
use Rattle.si_model.proofs.Floors.{reached_floors}
use Rattle.si_model.proofs.Goes.{goes}
use Rattle.si_model.proofs.ShownKept.{shows_beside, shows_reopened}
use Rattle.si_model.specs.Recovered.{IsRecovered, Recovers}

abbrev begun_at : State → ℕ → State
begun_at st s = record st { top = s; begun = insert st.begun s []; active = insert st.active s Open }

abbrev collected_at : State → ℕ → State
collected_at st f = record st {
  collectors = insert st.collectors st.next_collector f;
  next_collector = st.next_collector + 1;
  floor = max st.floor f;
}

-- ---- the two steps, each after a clean restart

begins_step : (st : State) (mark : ℕ) → st.top < mark → mark < end_of_stamps → Step (reopened st) Begin (Begun mark) (begun_at (reopened st) mark)
begins_step st mark low high = accepts (begin_ok (let none : len (reopened st).active ≡ 0 = len-empty nat_cmp Phase in omega (arith, none))) (begins (low, high))

collects_step : (st : State) → Step (reopened st) CollectBegin (Collecting 1 (st.top + 1)) (collected_at (reopened st) (st.top + 1))
collects_step st = accepts
    (collect_begin_ok (let none : len (reopened st).collectors ≡ 0 = len-empty nat_cmp ℕ in omega (arith, none)))
    (collects (none_active (λ u q h. none-some q (sym (get-empty nat_cmp u) ∙ h))) (lit< tt))

module _ (cells : Cells) where
  -- the state that the cells show
  record Shown (st : State) : Type 0 where
    reached : IsReached st
    shows : ShowsCells cells st

  again : (st : State) → Shown st → Shown (reopened st)
  again st shown = record { reached = reopens shown.reached; shows = shows_reopened cells st shown.shows }

  after_step : (st next : State) (q : Request) (r : Reply) → Shown st → Step st q r next → next.marks ≡ st.marks → next.commits ≡ st.commits → Shown next
  after_step st next q r shown step marks commits = record {
    reached = runs shown.reached (goes_on step rests);
    shows = shows_beside cells st next (goes (by_servers shown.reached) step) shown.shows
        (λ y u m. subst (λ ms. (y, u) ∈ ms) marks m) (λ y u m. subst (λ ms. (y, u) ∈ ms) (sym marks) m) commits;
  }

  -- the top is the mark
  record AtMark (mark : ℕ) (st next : State) : Type 0 where
    shown : Shown next
    commits : next.commits ≡ st.commits
    dead : next.dead ≡ st.dead
    marks : next.marks ≡ st.marks
    reads : next.reads ≡ st.reads
    scans : next.scans ≡ st.scans
    begun : (next.begun ≡ st.begun) ⊎ ((st.top < mark) × (next.begun ≡ insert st.begun mark []))
    places : next.places ≡ st.places
    next_tablet : next.next_tablet ≡ st.next_tablet
    top : next.top ≡ mark

  at_mark : (st : State) (mark : ℕ) → Shown st → st.top ≤ mark → mark < end_of_stamps → (next : State) × AtMark mark st next
  at_mark st mark shown low high = elim (eq-or-lt_of_le low) [
    | inl same ↦ (st, record { shown = shown; commits = refl; dead = refl; marks = refl; reads = refl; scans = refl; begun = inl refl; places = refl; next_tablet = refl; top = same })
    | inr less ↦ (
      begun_at (reopened st) mark,
      record {
        shown = after_step (reopened st) (begun_at (reopened st) mark) Begin (Begun mark) (again st shown) (begins_step st mark less high) refl refl;
        commits = refl;
        dead = refl;
        marks = refl;
        reads = refl;
        scans = refl;
        begun = inr (less, refl);
        places = refl;
        next_tablet = refl;
        top = refl;
      },
    )
  ]

  above : (st next : State) (mark : ℕ) → AtMark mark st next → (last : State) × Shown last × IsRecovered mark st last
  above st next mark is =
      let collected = collected_at (reopened next) (next.top + 1) in
      let shown : Shown collected = after_step (reopened next) collected CollectBegin (Collecting 1 (next.top + 1)) (again next is.shown) (collects_step next) refl refl in
      let floors : FloorStaysLow next = reached_floors is.shown.reached in (
        reopened collected,
        again collected shown,
        record {
          commits = is.commits;
          dead = is.dead;
          marks = is.marks;
          reads = is.reads;
          scans = is.scans;
          begun = is.begun;
          places = is.places;
          next_tablet = is.next_tablet;
          top = is.top;
          floor = max-eq_right floors.low ∙ ap (λ (n : ℕ). n + 1) is.top;
          active = refl;
          cleaners = refl;
          next_cleaner = refl;
          collectors = refl;
          next_collector = refl;
        },
      )

pub recovers : Recovers
recovers cells st mark reached shows low high =
    let (next, is) = at_mark cells st mark (record { reached = reached; shows = shows }) low high in
    let (last, shown, recovered) = above cells st next mark is in
    (last, shown.reached, recovered, shown.shows)
