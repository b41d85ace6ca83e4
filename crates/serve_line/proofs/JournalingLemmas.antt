pub mod Begins
pub mod Keeping
pub mod Notes
pub mod Resumed
