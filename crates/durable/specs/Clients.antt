-- The answers to several clients that survive a kill.
use Rattle.std.specs.Prelude.{ℕ, ◌≤◌, List, ◌++◌, length, take, Option, Result}
use Rattle.si_model.specs.Machine.{State, IsReached}
use Rattle.request_codec.specs.Stream.{frames}
use Rattle.request_codec.specs.declared.answers.Answer.{Answer as CodecAnswer}
use Rattle.request_codec.specs.declared.operations.Operation.{Operation as Lent}
use Rattle.ownership.specs.Tables.{Table, table_of}
use Rattle.ownership.specs.Turns.{Exchange, HandlesAll}
use Rattle.server_loop.specs.Clients.{AreExchanges, ServesClients, ShowsOwned}
use Rattle.server_loop.specs.Runs.{Taken}
use Rattle.server_loop.specs.declared.client_server.ClientServer.{ClientServer}
use Rattle.server_loop.specs.declared.statuses.End.{End}
use Rattle.server_loop.specs.declared.statuses.ServeFault.{ServeFault}
use Rattle.durable.specs.Durability.{IsSettled}

-- The machine's state after a prefix of the frames taken survives a kill. The prefix contains each frame of whose reply
-- a byte was written.
pub record KeepsFrames (lasts : State → Type 0) (admin : Option ℕ) (before : State)
    (table : Table) (taken : List Taken) (replies : List (List ℕ)) (written : List ℕ)
    : Type 0 where
  pub count : ℕ
  pub exchanges : List Exchange
  pub are : AreExchanges exchanges (take count taken) (take count replies)
  pub after : State
  pub left : Table
  pub handled : HandlesAll admin before table exchanges after left
  pub reached : IsReached after
  pub lasting : lasts after
  pub replied : length written ≤ length (frames (take count replies))

-- The contract of `serve` for several clients of a server with a log. If it was settled, a prefix of the frames leads
-- from each state that was shown to one that the devices keep.
pub record ServesClientsDurably {S : Type 0} (shows : S → State → Type 0)
    (says : S → Lent → CodecAnswer → S → Type 0) (between : S → S → Type 0)
    (lasts : S → State → Type 0) (logs : S → Type 0) (most : ℕ) (old new : ClientServer S)
    (left left' held held' : Option (List ℕ)) (most_reads : ℕ) (result : Result End ServeFault)
    : Type 0 where
  pub clients : ServesClients shows says between most old new left left' held held' most_reads
      result
  pub kept : IsSettled shows lasts logs old.server → (before : State) → IsReached before
      → ShowsOwned shows old before
      → KeepsFrames (lasts new.server) old.admin before (table_of old.owners)
      clients.served.taken (clients.served.front ++ clients.served.batch)
      (frames clients.served.front ++ clients.served.part)
