pub mod Entries
pub mod Log
pub mod Faults
pub mod Merge
