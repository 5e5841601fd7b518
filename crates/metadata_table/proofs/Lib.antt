mod Ends
mod Members
mod RangeLemmas
mod RootChecks
mod RootLaws
mod RootLoops
mod Splits
mod Tables
