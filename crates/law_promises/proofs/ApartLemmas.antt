pub mod Speaks
pub mod Acts
pub mod Starts
pub mod Messages
