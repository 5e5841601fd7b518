-- The merged run: the requests of all servers, in the order in which they change rows and draw stamps.
use Rattle.std.specs.FinMap.{empty, insert}
use Rattle.std.specs.Prelude.{◌≡◌, ◌≢◌, ◌⊎◌, ◌≤◌, ◌+◌, ℕ, List, [], ◌∷◌, max, Result}
use Rattle.cell_key.specs.Cells.{Cells}
use Rattle.cell_key.specs.declared.refusals.Refusal.{Refusal}
use Rattle.si_model.specs.Machine.{State, Request, Reply, CollectBegin, Collecting, Refused, Acts, Step, IsAcceptable, new_machine}
use Rattle.si_model.specs.Replies.{result_reply}
use Rattle.si_model.specs.ServerLaws.{IsLawful}
use Rattle.si_model.specs.Servers.{Own, IsBelowAll, IsReachedByServers, seen_with, view}
use Rattle.si_model.specs.ShowsCells.{ShowsCells}
use Rattle.version_collector.specs.declared.collectors.Collectors.{Collectors}
use Rattle.servers_model.specs.Servers.{Server, ShowsServers, IsNew, nothing, with_one, without}
use Rattle.servers_model.specs.Serves.{BeginsCollector, MayPublish, Serves}

-- what happens to a server: it answers a request, or it begins again
pub data Event : Type 0 where
  Answers : (server : ℕ) → (request : Request) → (reply : Reply) → Event
  BeginsAgain : (server : ℕ) → Event

-- Requests of several servers, each answered by its own, which knows nothing of the others but the floors that they
-- have published. A stamp may have been drawn that nobody was told. A server may stop for ever anywhere: it is never
-- asked again. It may begin again, without sessions, cleaners and collectors.
pub data Merged : Cells → (ℕ → Server) → (ℕ → ℕ) → ℕ → List Event
    → Cells → (ℕ → Server) → (ℕ → ℕ) → ℕ → Type 0 where
  ends : {cells : Cells} {servers : ℕ → Server} {floors : ℕ → ℕ} {last : ℕ}
      → Merged cells servers floors last [] cells servers floors last
  answers : {cells mid end : Cells} {servers servers' : ℕ → Server} {floors floors' : ℕ → ℕ}
      {last now next last' : ℕ} {q : Request} {r : Reply} {server : Server} {events : List Event}
      (i : ℕ)
      → last ≤ now → Serves cells (servers i) now q r mid server next
      → Merged mid (with_one servers i server) floors next events end servers' floors' last'
      → Merged cells servers floors last (Answers i q r ∷ events) end servers' floors' last'
  begins_collector : {cells end : Cells} {servers servers' : ℕ → Server} {floors floors' : ℕ → ℕ}
      {last last' : ℕ} {events : List Event} (i : ℕ) (collectors : Collectors) (floor : ℕ)
      (result : Result ℕ Refusal) → ((j : ℕ) → floor ≤ floors j)
      → BeginsCollector (servers i).collectors floor result collectors
      → Merged cells (with_one servers i (record (servers i) { collectors = collectors })) floors
      last events end servers' floors' last'
      → Merged cells servers floors last
      (Answers i CollectBegin (result_reply (λ number. Collecting number floor) result) ∷ events)
      end servers' floors' last'
  publishes : {cells end : Cells} {servers servers' : ℕ → Server} {floors floors' : ℕ → ℕ}
      {last last' : ℕ} {events : List Event} (i floor : ℕ)
      → MayPublish (servers i).clients floor
      → Merged cells servers (with_one floors i floor) last events end servers' floors' last'
      → Merged cells servers floors last events end servers' floors' last'
  begins_again : {cells end : Cells} {servers servers' : ℕ → Server} {floors floors' : ℕ → ℕ}
      {last last' : ℕ} {server : Server} {events : List Event} (i : ℕ)
      → IsNew server
      → Merged cells (with_one servers i server) floors last events end servers' floors' last'
      → Merged cells servers floors last (BeginsAgain i ∷ events) end servers' floors' last'

-- the machine with the sessions of all servers, and the cleaners and collectors of one
abbrev pub turn_of : State → Own → State
turn_of st own = view st (record own { sessions = st.active })

-- A server's request, in the machine.
pub record IsTurn (st : State) (owns : ℕ → Own) (i : ℕ) (q : Request) (r : Reply) (next : State)
    (owns' : ℕ → Own) : Type 0 where
  -- as the server sees the machine, it is a step
  pub seen : Step (view st (owns i)) q r (view next (owns' i))
  -- it is refused, and nothing changes; or it is an act of the machine
  pub whole : ((n : Refusal) × (r ≡ Refused n) × (next ≡ st))
      ⊎ Acts (turn_of st (owns i)) q r (turn_of next (owns' i))
  -- the others know what they knew
  pub others : (j : ℕ) → j ≢ i → owns' j ≡ owns j

-- what a server knows after one more collector with this floor has begun
abbrev pub with_one_more : Own → ℕ → Own
with_one_more own floor =
    record own {
      collectors = insert own.collectors own.next_collector floor;
      next_collector = own.next_collector + 1;
    }

-- the machine's run over these events, one turn after the other
pub data TakesTurns : State → (ℕ → Own) → List Event → State → (ℕ → Own) → Type 0 where
  rests : {st : State} {owns : ℕ → Own} → TakesTurns st owns [] st owns
  turns : {st next end : State} {owns owns' ends : ℕ → Own} {i : ℕ} {q : Request} {r : Reply}
      {events : List Event} → IsTurn st owns i q r next owns'
      → TakesTurns next owns' events end ends
      → TakesTurns st owns (Answers i q r ∷ events) end ends
  -- a collector begins, with a floor that isn't above any server's sessions
  collects : {st end : State} {owns ends : ℕ → Own} {i floor : ℕ} {events : List Event}
      → IsAcceptable (view st (owns i)) CollectBegin → IsBelowAll st floor
      → TakesTurns (record st { floor = max st.floor floor })
      (with_one owns i (with_one_more (owns i) floor)) events end ends
      → TakesTurns st owns
      (Answers i CollectBegin (Collecting (owns i).next_collector floor) ∷ events) end ends
  -- a server begins again: its sessions are as if they had been stopped
  begins_again : {st end : State} {owns ends : ℕ → Own} {events : List Event} (i : ℕ)
      → TakesTurns (seen_with st (without st.active (owns i).sessions)) (with_one owns i nothing)
      events end ends
      → TakesTurns st owns (BeginsAgain i ∷ events) end ends

-- New servers over cells that show a state show it, with all its sessions stopped.
abbrev pub AllBegin : Type 0
AllBegin =
    (cells : Cells) (servers : ℕ → Server) (last : ℕ) (st : State) → IsReachedByServers st
    → ShowsCells cells st → st.top ≤ last → ((i : ℕ) → IsNew (servers i))
    → ShowsServers cells servers (λ _. 0) last (view st nothing) (λ _. nothing)

-- What happens to several servers is a run of the snapshot machine. After it all servers show the machine, and the
-- laws of snapshot isolation hold.
abbrev pub MergedRuns : Type 0
MergedRuns =
    (cells cells' : Cells) (servers servers' : ℕ → Server) (floors floors' : ℕ → ℕ)
    (last last' : ℕ) (events : List Event) (st : State) (owns : ℕ → Own)
    → ShowsServers cells servers floors last st owns
    → Merged cells servers floors last events cells' servers' floors' last'
    → (end : State) × (ends : ℕ → Own) × TakesTurns st owns events end ends
    × ShowsServers cells' servers' floors' last' end ends × IsLawful end

-- The same of new servers over an empty store, without any premise but that each request is served so.
abbrev pub MergedFromNew : Type 0
MergedFromNew =
    (cells' : Cells) (servers servers' : ℕ → Server) (floors' : ℕ → ℕ) (last' : ℕ)
    (events : List Event) → ((i : ℕ) → IsNew (servers i))
    → Merged empty servers (λ _. 0) 0 events cells' servers' floors' last'
    → (end : State) × (ends : ℕ → Own)
    × TakesTurns new_machine (λ _. nothing) events end ends
    × ShowsServers cells' servers' floors' last' end ends × IsLawful end
