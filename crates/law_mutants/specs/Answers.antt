pub mod Rules
pub mod Worlds
