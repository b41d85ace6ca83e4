pub mod Answers
pub mod Commands
pub mod Events
pub mod Meanings
pub mod Prints
pub mod Protocols
pub mod Statuses
