pub mod Logs
pub mod Beginnings
pub mod Messages
