pub mod Acts
pub mod Moves
pub mod Steps
pub mod Worlds
pub mod Counts
pub mod Reached
