mod AtOnce
mod Causes
mod CellChanges
mod Checkpoints
mod CleanSteps
pub mod ClientFrames
mod CollectSteps
mod CommitsCollected
pub mod Filled
mod FittingFrames
mod Following
pub mod FrameHeads
mod MachinePlaces
pub mod Opened
mod OperationSteps
mod OperationsShown
mod OracleLeft
mod OthersShown
mod RawReads
pub mod ReachedRuns
pub mod Replied
mod Rested
pub mod SamePlaces
pub mod ServesEach
pub mod ServingLemmas
pub mod SessionSteps
mod SplitSteps
pub mod StreamReads
mod Tended
pub mod Unread
mod UpkeepRefusals
mod UpkeepSteps
mod Whole
