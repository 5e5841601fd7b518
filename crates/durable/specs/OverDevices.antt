-- The effect of a call of `serve`, and of `serve_clients`, over files, a mark store and a log.
use Rattle.std.specs.Prelude.{ℕ, List, Option, Result}
use Rattle.commit_log.specs.declared.logs.Log.{Ghosts as Log}
use Rattle.file_store.specs.declared.files.Files.{Ghosts as Files}
use Rattle.oracle.specs.declared.marks.MarkStore.{Ghosts as MarkStore}
use Rattle.request_codec.specs.declared.answers.Answer.{Answer}
use Rattle.request_codec.specs.declared.operations.Operation.{Operation}
use Rattle.si_model.specs.Machine.{State}
use Rattle.server_loop.specs.Operations.{IsAnswerTo}
use Rattle.durable.specs.Clients.{ServesClientsDurably}
use Rattle.durable.specs.Durability.{IsSettled, ServesDurably}
use Rattle.durable.specs.Answers.{IsDurableAnswer, IsDurablyTended, LastsIn, Logs, shown_by}
use Rattle.server_loop.specs.Server.{Shows}
use Rattle.durable.specs.Stored.{calls_of, view_of}
use Rattle.server_loop.specs.Tending.{IsTended}
use Rattle.durable.specs.declared.server.DurableServer.{DurableServer}
use Rattle.server_loop.specs.declared.client_server.ClientServer.{ClientServer}
use Rattle.server_loop.specs.declared.server.Server.{Server}
use Rattle.server_loop.specs.declared.statuses.End.{End}
use Rattle.server_loop.specs.declared.statuses.ServeFault.{ServeFault}

module _ {F N M L W : Type 0} (files : Files F W) (log : Log L) where
  -- Its devices keep a state through a kill.
  abbrev pub LastsOver : DurableServer (Server F N W) M L → State → Type 0
  LastsOver = LastsIn (view_of files.contents) log

  abbrev pub LogsOver : DurableServer (Server F N W) M L → Type 0
  LogsOver = Logs (view_of files.contents) log

  -- Its devices keep each state that it shows.
  abbrev pub IsSettledOver : DurableServer (Server F N W) M L → Type 0
  IsSettledOver server = IsSettled (shown_by (Shows files.contents)) LastsOver LogsOver server

-- The oracle of the server inside has a mark of its own, in memory.
module _ {F N M L W : Type 0} (files : Files F W) (inside : MarkStore N) (marks : MarkStore M)
    (log : Log L) where
  abbrev pub IsAnswerOver : DurableServer (Server F N W) M L → Operation → Answer
      → DurableServer (Server F N W) M L → Type 0
  IsAnswerOver =
      IsDurableAnswer (view_of files.contents) (calls_of files inside) (Shows files.contents)
      (IsAnswerTo files inside) marks log

  abbrev pub IsTendedOver : DurableServer (Server F N W) M L → DurableServer (Server F N W) M L
      → Type 0
  IsTendedOver =
      IsDurablyTended (view_of files.contents) (calls_of files inside) (Shows files.contents)
      (IsTended files.contents files.faults) marks log

  abbrev pub ServesOver : DurableServer (Server F N W) M L → DurableServer (Server F N W) M L
      → Option (List ℕ) → Option (List ℕ) → Option (List ℕ) → Option (List ℕ) → ℕ
      → Result End ServeFault → Type 0
  ServesOver =
      ServesDurably (shown_by (Shows files.contents)) IsAnswerOver IsTendedOver
      (LastsOver files log) (LogsOver files log)

  abbrev pub ServesClientsOver : ClientServer (DurableServer (Server F N W) M L)
      → ClientServer (DurableServer (Server F N W) M L) → Option (List ℕ) → Option (List ℕ)
      → Option (List ℕ) → Option (List ℕ) → ℕ → Result End ServeFault → Type 0
  ServesClientsOver =
      ServesClientsDurably (shown_by (Shows files.contents)) IsAnswerOver IsTendedOver
      (LastsOver files log) (LogsOver files log) 1_048_576
