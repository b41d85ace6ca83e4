pub mod Events
pub mod Stretches
pub mod Seen
pub mod Steps
pub mod Dangers
pub mod Verdicts
