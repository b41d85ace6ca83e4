pub mod Dropped
pub mod Waits
