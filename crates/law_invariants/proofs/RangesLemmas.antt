pub mod Basics
pub mod Missions
pub mod Kept
pub mod Moves
pub mod Steps
pub mod Worlds
