-- The machine after a kill: the state that is opened, which it could have reached without the kill.
use Rattle.std.specs.Prelude.{◌≡◌, ◌≤◌, ◌<◌, ◌+◌, ◌⊎◌, ℕ, []}
use Rattle.std.specs.FinMap.{empty, insert}
use Rattle.cell_key.specs.Cells.{Cells}
use Rattle.si_model.specs.Machine.{State, IsReached, end_of_stamps}
use Rattle.si_model.specs.ShowsCells.{ShowsCells}

-- Commits, rollbacks, marks, answers and the places of tablets are unchanged. Sessions, cleaners and collectors are
-- forgotten. Stamps up to the oracle's mark count as answered, and a collector as begun above them: a client that is
-- gone may have had such an answer. (Percolator, timestamp oracle: after a failure stamps continue above the greatest
-- one allocated.)
pub record IsRecovered (mark : ℕ) (st next : State) : Type 0 where
  pub top : next.top ≡ mark
  pub floor : next.floor ≡ mark + 1
  -- a session may have begun at the mark without writes
  pub begun : (next.begun ≡ st.begun)
      ⊎ ((st.top < mark) × (next.begun ≡ insert st.begun mark []))
  pub active : next.active ≡ empty
  pub commits : next.commits ≡ st.commits
  pub dead : next.dead ≡ st.dead
  pub marks : next.marks ≡ st.marks
  pub reads : next.reads ≡ st.reads
  pub scans : next.scans ≡ st.scans
  pub cleaners : next.cleaners ≡ empty
  pub next_cleaner : next.next_cleaner ≡ 1
  pub collectors : next.collectors ≡ empty
  pub next_collector : next.next_collector ≡ 1
  pub places : next.places ≡ st.places
  pub next_tablet : next.next_tablet ≡ st.next_tablet

-- From each reached state that cells show, the machine can go to such a recovered state, which the same cells show.
abbrev pub Recovers : Type 0
Recovers =
    (cells : Cells) (st : State) (mark : ℕ) → IsReached st → ShowsCells cells st → st.top ≤ mark
    → mark < end_of_stamps
    → (next : State) × IsReached next × IsRecovered mark st next × ShowsCells cells next
