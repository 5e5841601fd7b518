-- Several servers over one row store and one source of stamps: what each sees of the machine, and the states that their
-- steps reach.
use Rattle.std.specs.Prelude.{◌≡◌, ℕ, ◌+◌, ◌≤◌, ◌⊎◌, true, Some, max}
use Rattle.std.specs.Ordering.{nat_cmp}
use Rattle.std.specs.FinMap.{FinMap, get}
use Rattle.si_model.specs.State.{State, Phase, Cleaner, InPhase, Marked, IsDead, IsCommitted, most_cleaners, most_collectors, new_machine}
use Rattle.si_model.specs.Messages.{Request, Reply}
use Rattle.si_model.specs.Refusing.{IsAcceptable}
use Rattle.si_model.specs.Machine.{Acts}
use Rattle.si_model.specs.Enduring.{HasTried}
use Rattle.si_model.specs.Laws.{AreNumbered}
use Rattle.si_model.specs.ShowsCells.{IsFirstCell}
use Rattle.si_model.specs.declared.replies.Cell.{Cell}

-- the sessions of a server
abbrev pub Sessions : Type 0
Sessions = FinMap nat_cmp Phase

-- what only one server knows: its sessions, and its open cleaners and collectors, which it numbers itself
pub record Own : Type 0 where
  pub sessions : Sessions
  pub cleaners : FinMap nat_cmp Cleaner
  pub next_cleaner : ℕ
  pub collectors : FinMap nat_cmp ℕ
  pub next_collector : ℕ

-- what a server with these sessions sees of the machine: all others' sessions are as if they had been stopped
abbrev pub seen_with : State → Sessions → State
seen_with st sessions = record st { active = sessions }

-- what a server sees of the machine: the sessions, cleaners and collectors of all others are as if they were stopped
abbrev pub view : State → Own → State
view st own =
    record st {
      active = own.sessions;
      cleaners = own.cleaners;
      next_cleaner = own.next_cleaner;
      collectors = own.collectors;
      next_collector = own.next_collector;
    }

-- the sessions are active in the machine, in the same phases
abbrev pub HasSessions : State → Sessions → Type 0
HasSessions st sessions = (t : ℕ) (p : Phase) → get sessions t ≡ Some p → InPhase st t p

-- t was committed or rolled back
abbrev pub HasFate : State → ℕ → Type 0
HasFate st t = IsCommitted st t ⊎ IsDead st t

-- A cleaner is right, whoever has begun it: its start has had its chance at its cell; while the start has no fate, its
-- first cell is marked; and after the cleaner's first step it has one.
pub record IsRightCleaner (st : State) (k : Cleaner) : Type 0 where
  pub tried : HasTried st k.cell k.start
  pub known : (x : Cell) → IsFirstCell st k.start x → Marked st x k.start ⊎ HasFate st k.start
  pub decided : k.decided ≡ true → HasFate st k.start

-- what a server knows is right in the machine
pub record IsPartOf (own : Own) (st : State) : Type 0 where
  pub sessions : HasSessions st own.sessions
  pub cleaners : (i : ℕ) (k : Cleaner) → get own.cleaners i ≡ Some k → IsRightCleaner st k
  pub collectors : (i f : ℕ) → get own.collectors i ≡ Some f → f ≤ st.floor
  pub cleaner_numbers : AreNumbered own.cleaners own.next_cleaner most_cleaners
  pub collector_numbers : AreNumbered own.collectors own.next_collector most_collectors

-- no session of any server that is active now or later has a start below it
abbrev pub IsBelowAll : State → ℕ → Type 0
IsBelowAll st f = (f ≤ st.top + 1) × ((t : ℕ) (p : Phase) → InPhase st t p → f ≤ t)

-- Steps of any servers lead from the new machine to the state, or a server sees such a state so.
pub data IsReachedByServers : State → Type 0 where
  starts_new : IsReachedByServers new_machine
  -- a server takes a step: it is refused only for what it sees
  acts : {st next : State} {q : Request} {r : Reply} (mine : Sessions) → IsReachedByServers st
      → IsAcceptable (seen_with st mine) q → Acts st q r next → IsReachedByServers next
  -- a server begins a collector, with a floor that isn't above any server's sessions
  raises : {st : State} {f : ℕ} → IsReachedByServers st → IsBelowAll st f
      → IsReachedByServers (record st { floor = max st.floor f })
  sees : {st : State} {own : Own} → IsReachedByServers st → IsPartOf own st
      → IsReachedByServers (view st own)
