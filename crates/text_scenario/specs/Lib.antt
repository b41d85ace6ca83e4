pub mod Defaults
pub mod Holds
pub mod Meets
pub mod Named
pub mod Sent
pub mod Levels
