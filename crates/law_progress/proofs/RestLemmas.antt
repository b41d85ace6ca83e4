pub mod Load
pub mod Sends
pub mod Delivers
pub mod Rest
