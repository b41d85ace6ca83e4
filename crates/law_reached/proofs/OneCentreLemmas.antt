pub mod Alone
pub mod Messages
pub mod Whole
