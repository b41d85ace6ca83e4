pub mod Leading
pub mod Messages
pub mod Seen
