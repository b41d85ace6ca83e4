pub mod Stays
pub mod Worlds
