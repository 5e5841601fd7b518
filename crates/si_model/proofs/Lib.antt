mod Cleaned
mod FewSessions
mod Deletions
mod OneMoment
mod Races
mod ScanScript
mod ScriptSteps
mod TabletScript
mod Transfers
mod Truly
pub mod Acceptable
pub mod AllSteps
pub mod AtOnce
pub mod Bounds
pub mod ByServers
pub mod ChangeKinds
pub mod ChangedParts
pub mod CleanerFates
pub mod Collected
pub mod CollectorProgress
pub mod Decided
pub mod EditedCells
pub mod Fates
pub mod Fewer
pub mod FirstRefusals
pub mod Floors
pub mod Goes
pub mod Gone
pub mod Invariant
pub mod Kept
pub mod LastingMarks
pub mod Left
pub mod Lifted
pub mod Limits
pub mod NextCells
pub mod OpenNumbers
pub mod Numbers
pub mod Reached
pub mod Recovered
pub mod Refusals
pub mod Pages
pub mod Parts
pub mod ScanLaws
pub mod Scannable
pub mod Scanned
pub mod ShownAt
pub mod ShownKept
pub mod ShownPut
pub mod ShownTouched
pub mod Snapshots
pub mod Steps
pub mod Stuck
pub mod TakenWrites
pub mod Told
pub mod Tools
pub mod Without
