-- The laws of several servers.
use Rattle.std.specs.Prelude.{◌≡◌, ◌≢◌, ℕ, ◌≤◌, ◌⊎◌, None, Some}
use Rattle.std.specs.FinMap.{get}
use Rattle.cell_key.specs.Cells.{Cells}
use Rattle.si_model.specs.State.{State, Writes, Phase, InPhase, Wrote}
use Rattle.si_model.specs.Messages.{Request, Reply, CollectBegin}
use Rattle.si_model.specs.Machine.{Acts}
use Rattle.si_model.specs.Laws.{IsSettled, FirstCommitterWins, OneFate, OneMark}
use Rattle.si_model.specs.ScanLaws.{ScansSettled}
use Rattle.si_model.specs.Servers.{Own, Sessions, HasSessions, IsPartOf, IsReachedByServers, seen_with, view}
use Rattle.si_model.specs.ShowsCells.{ShowsCells}

-- snapshot isolation, and the marks by which it is kept
pub record IsLawful (st : State) : Type 0 where
  pub settled : IsSettled st
  pub scans_settled : ScansSettled st
  pub first_committer : FirstCommitterWins st
  pub one_fate : OneFate st
  pub one_mark : OneMark st

-- cells that show the machine also show what a server sees of it
abbrev pub ViewsShown : Type 0
ViewsShown =
    (cells : Cells) (st : State) (own : Own) → IsPartOf own st → ShowsCells cells st
    → ShowsCells cells (view st own)

-- The step of a server with these sessions is a step of the whole machine, which leaves all others' sessions.
pub record IsStepOfAll (st : State) (mine : Sessions) (q : Request) (r : Reply) (next whole : State)
    : Type 0 where
  pub by : Acts st q r whole
  -- the server sees the next state of the machine
  pub seen : next ≡ seen_with whole next.active
  pub sessions : HasSessions whole next.active
  pub rises : st.top ≤ whole.top
  -- each session is the server's, or another's as it was
  pub each : (t : ℕ) (p : Phase) → InPhase whole t p
      → (get next.active t ≡ Some p) ⊎ ((get mine t ≡ None) × InPhase st t p)
  -- the others' sessions stay, and don't become the server's
  pub others : (t : ℕ) (p : Phase) → get mine t ≡ None → InPhase st t p
      → InPhase whole t p × (get next.active t ≡ None)
  pub wrote : (t : ℕ) (p : Phase) (ws : Writes) → get mine t ≡ None → InPhase st t p
      → Wrote st t ws → Wrote whole t ws

-- a step of what a server sees is a step of the whole machine; only a collector's floor depends on all servers
abbrev pub ViewsLift : Type 0
ViewsLift =
    (st next : State) (mine : Sessions) (q : Request) (r : Reply) → IsReachedByServers st
    → HasSessions st mine → q ≢ CollectBegin → Acts (seen_with st mine) q r next
    → (whole : State) × IsStepOfAll st mine q r next whole

-- what a server knows stays right, whoever takes a step, if its sessions stay
abbrev pub PartsStay : Type 0
PartsStay =
    (st next : State) (own : Own) (q : Request) (r : Reply) → IsReachedByServers st
    → IsPartOf own st → Acts st q r next → HasSessions next own.sessions → IsPartOf own next
