pub mod Supervisions
pub mod Passing
pub mod Handovers
