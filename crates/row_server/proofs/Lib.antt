mod Floors
mod OneVisit
mod PartSteps
mod Told
mod Attempts
mod Unoffered
