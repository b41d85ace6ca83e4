pub mod Orderly
pub mod Steps
pub mod Worlds
