pub mod Asking
pub mod Moves
pub mod Steps
pub mod Worlds
