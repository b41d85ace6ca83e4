pub mod ComparingLemmas
pub mod Showing
pub mod Opened
pub mod Followed
pub mod Kept
