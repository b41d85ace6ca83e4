mod Refusals
pub mod RunningLemmas
pub mod RerunningLemmas
pub mod InspectingLemmas
pub mod RowFaultLemmas
pub mod HomeLemmas
pub mod JournalLemmas
