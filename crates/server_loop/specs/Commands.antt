-- The cluster command of a request, and its outcome.
use Rattle.std.specs.Prelude.{◌≡◌, ◌⊎◌, ℕ, Option, None, Some, Result, Ok, Err}
use Rattle.cell_key.specs.declared.refusals.Refusal.{Refusal}
use Rattle.cell_key.specs.declared.refusals.Refusal.TheVariants.{BadRow, BadColumn, NoMemory}
use Rattle.file_store.specs.Store.{Contents}
use Rattle.request_codec.specs.declared.replies.Reply.{Reply}
use Rattle.request_codec.specs.declared.replies.Reply.TheVariants as codec
use Rattle.request_codec.specs.declared.requests.Request.{Request}
use Rattle.request_codec.specs.declared.requests.Request.TheVariants.{Minor, Merge, Major, Split, Move, Sweep, Raw}
use Rattle.row_atomic.specs.Clusters.{ClusterState, storage_of}
use Rattle.row_atomic.specs.Commands.{IsOutcome}
use Rattle.row_atomic.specs.declared.commands.Command.{Command}
use Rattle.row_atomic.specs.declared.commands.Command.TheVariants as command
use Rattle.row_atomic.specs.declared.commands.Outcome.{Outcome}
use Rattle.row_atomic.specs.declared.commands.Outcome.TheVariants as outcome

-- the command of a request: upkeep of tablets and raw reads are commands
abbrev pub command_of : Request → Option Command
command_of (Minor tablet) = Some (command.Minor tablet)
command_of (Merge tablet count) = Some (command.Merge tablet count)
command_of (Major tablet) = Some (command.Major tablet)
command_of (Split row) = Some (command.Split row.now)
command_of (Move tablet server) = Some (command.Move tablet server)
command_of Sweep = Some command.Sweep
command_of (Raw row family qualifier lo hi) =
    Some (command.Newest row.now family.now qualifier lo hi)
command_of request = None

-- the outcome that a reply gives
abbrev pub outcome_of : Reply → Outcome
outcome_of (codec.Split left) = outcome.Split left
outcome_of (codec.Sweep count) = outcome.Swept count
outcome_of (codec.Raw found) = outcome.Newest found
outcome_of (codec.Refused refusal) = outcome.Refused refusal
outcome_of reply = outcome.Done

-- the reply to a checkpoint
abbrev pub checkpointed : Result (Unit {0}) Refusal → Reply
checkpointed (Ok done) = codec.Checkpoint
checkpointed (Err refusal) = codec.Refused refusal

-- a name in a request is out of its limits, or cannot be copied for lack of memory
abbrev pub RefusesName : Request → Reply → Type 0
RefusesName (Split row) reply = (reply ≡ codec.Refused BadRow) ⊎ (reply ≡ codec.Refused NoMemory)
RefusesName (Raw row family qualifier lo hi) reply =
    (reply ≡ codec.Refused BadRow)
    ⊎ ((reply ≡ codec.Refused BadColumn) ⊎ (reply ≡ codec.Refused NoMemory))
RefusesName request reply = ⊥

-- A request that is a command has the outcome that its reply gives, or a name in it was refused and nothing was done.
-- Any other request leaves everything below the memtables unchanged.
abbrev pub HasOutcome : {F : Type 0} → (F → Option Contents) → (F → ℕ) → Option Command → Request
    → Reply → ClusterState F → ClusterState F → Type 0
HasOutcome contents faults None request reply old new =
    storage_of contents new ≡ storage_of contents old
HasOutcome contents faults (Some command) request reply old new =
    IsOutcome contents faults command (outcome_of reply) old new
    ⊎ (RefusesName request reply × (new ≡ old))
