-- The refusals that the server answers to a request it has read.
use Rattle.std.specs.Prelude.{◌≡◌, ◌⊎◌, ⊤}
use Rattle.cell_key.specs.declared.refusals.Refusal.{Refusal}
use Rattle.cell_key.specs.declared.refusals.Refusal.TheVariants.{UnknownSession, BadRow, BadColumn, Device, NoMemory}
use Rattle.row_atomic.specs.Changes as cluster
use Rattle.row_atomic.specs.Changes.{IsNumberedRefusal, IsSplitRefusal, IsMoveRefusal}
use Rattle.rows.specs.Refusals.{IsReadRefusal}
use Rattle.row_atomic.specs.Compactions as compaction
use Rattle.txn_client.specs.Refusals.{IsBeginRefusal, IsDeleteRefusal, IsGetRefusal, IsScanRefusal, IsSetRefusal, IsStepRefusal}
use Rattle.clean_up.specs.Refusals as clean_up
use Rattle.version_collector.specs.Refusals as version_collector
use Rattle.request_codec.specs.declared.requests.Request.{Request}
use Rattle.request_codec.specs.declared.requests.Request.TheVariants.{Begin, Get, Set, Delete, Scan, Step, Stop, CleanBegin, CleanStep, CollectBegin, CollectStep, Minor, Merge, Major, Split, Move, Sweep, OracleRestart, Raw, Checkpoint, Status}

-- a split at a row name that may be invalid
abbrev pub IsCutRefusal : Refusal → Type 0
IsCutRefusal BadRow = ⊤
IsCutRefusal refusal = IsSplitRefusal refusal

-- a removal of files
abbrev pub IsSweepRefusal : Refusal → Type 0
IsSweepRefusal refusal = (refusal ≡ Device) ⊎ (refusal ≡ NoMemory)

-- a read of a cell whose row or family name may be invalid
abbrev pub IsRawRefusal : Refusal → Type 0
IsRawRefusal BadRow = ⊤
IsRawRefusal BadColumn = ⊤
IsRawRefusal refusal = IsReadRefusal refusal

abbrev pub IsRefusalOfRequest : Request → Refusal → Type 0
IsRefusalOfRequest Begin refusal = IsBeginRefusal refusal
IsRefusalOfRequest (Get start row family) refusal = IsGetRefusal refusal
IsRefusalOfRequest (Set start row family value) refusal = IsSetRefusal refusal
IsRefusalOfRequest (Delete start row family) refusal = IsDeleteRefusal refusal
IsRefusalOfRequest (Scan start range keys_only cells) refusal = IsScanRefusal refusal
IsRefusalOfRequest (Step start) refusal = IsStepRefusal refusal
IsRefusalOfRequest (Stop start) refusal = refusal ≡ UnknownSession
IsRefusalOfRequest (CleanBegin row family) refusal = clean_up.IsBeginRefusal refusal
IsRefusalOfRequest (CleanStep cleaner) refusal = clean_up.IsStepRefusal refusal
IsRefusalOfRequest CollectBegin refusal = version_collector.IsBeginRefusal refusal
IsRefusalOfRequest (CollectStep collector visits) refusal = version_collector.IsStepRefusal refusal
IsRefusalOfRequest (Minor tablet) refusal = IsNumberedRefusal compaction.minor refusal
IsRefusalOfRequest (Merge tablet count) refusal =
    IsNumberedRefusal (compaction.merging count) refusal
IsRefusalOfRequest (Major tablet) refusal = IsNumberedRefusal compaction.major refusal
IsRefusalOfRequest (Split row) refusal = IsCutRefusal refusal
IsRefusalOfRequest (Move tablet server) refusal = IsMoveRefusal refusal
IsRefusalOfRequest Sweep refusal = IsSweepRefusal refusal
IsRefusalOfRequest OracleRestart refusal = refusal ≡ Device
IsRefusalOfRequest (Raw row family qualifier lo hi) refusal = IsRawRefusal refusal
IsRefusalOfRequest (Status tablet) refusal = refusal ≡ NoMemory
IsRefusalOfRequest Checkpoint refusal = cluster.IsRefusalOf compaction.minor refusal
